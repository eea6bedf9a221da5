-- Loose lists by the owners of their lines (CommonMark 0.31.2, 5.3 Lists). The owners say where each block
-- and each item starts, and whether the line directly before it is blank.
use Rattle.std.specs.Prelude.{◌≡◌, ℕ, zero, suc, ◌+◌, ◌<◌, Bool, true, false, ◌||◌, List, [], ◌∷◌, drop, get_or, ⊤}
use Rattle.std.specs.List.{list_any}
use Rattle.cm_text.specs.Rules.{Rules}
use Rattle.cm_text.specs.Lines.{LineView}
use Rattle.cm_tree.specs.declared.tree.Owner.{Owner}
use Rattle.cm_tree.specs.declared.tree.Owner.TheVariants.{Leaf, Marker, Blank}
use Rattle.cm_scan.specs.blocks.Parts.{Parts, none, blank, leaf, quote, list, ItemParts, last_item, item, is_loose, line_owners, item_owners_after}
use Rattle.cm_scan.specs.blocks.Blocks.{parts_of}
use Rattle.cm_scan.specs.laws.PartLaws.{AreLines}

-- how many lines the parts have
unfoldable mutual
  pub line_total : Parts → ℕ
  line_total none = 0
  line_total (blank rest) = suc (line_total rest)
  line_total (leaf x lines rest) = lines + line_total rest
  line_total (quote inside rest) = line_total inside + line_total rest
  line_total (list kind items rest) = items_total items + line_total rest

  pub items_total : ItemParts → ℕ
  items_total (last_item inside) = line_total inside
  items_total (item inside blanks items) = line_total inside + (blanks + items_total items)

-- each leaf, block quote and item has at least one line
unfoldable mutual
  pub HaveLines : Parts → Type 0
  HaveLines none = ⊤
  HaveLines (blank rest) = HaveLines rest
  HaveLines (leaf x lines rest) = (0 < lines) × HaveLines rest
  HaveLines (quote inside rest) = (0 < line_total inside) × HaveLines inside × HaveLines rest
  HaveLines (list kind items rest) = ItemsHaveLines items × HaveLines rest

  pub ItemsHaveLines : ItemParts → Type 0
  ItemsHaveLines (last_item inside) = (0 < line_total inside) × HaveLines inside
  ItemsHaveLines (item inside blanks items) = (0 < line_total inside) × HaveLines inside × ItemsHaveLines items

-- Each leaf, block quote and item of any lines has at least one line.
abbrev pub PartsHaveLines : Type 0
PartsHaveLines = (rules : Rules) (lines : List LineView) → AreLines lines → HaveLines (parts_of rules lines)

-- the number of the line at which each block starts, after the given number of lines
unfoldable pub block_starts : ℕ → Parts → List ℕ
block_starts before none = []
block_starts before (blank rest) = block_starts (suc before) rest
block_starts before (leaf x lines rest) = before ∷ block_starts (before + lines) rest
block_starts before (quote inside rest) = before ∷ block_starts (before + line_total inside) rest
block_starts before (list kind items rest) = before ∷ block_starts (before + items_total items) rest

-- the number of the line at which each item starts, after the given number of lines
unfoldable pub item_starts : ℕ → ItemParts → List ℕ
item_starts before (last_item inside) = before ∷ []
item_starts before (item inside blanks items) = before ∷ item_starts (before + (line_total inside + blanks)) items

-- the owner of a blank line
abbrev pub is_blank_line : Owner → Bool
is_blank_line (Leaf number) = false
is_blank_line Marker = false
is_blank_line Blank = true

-- the line directly before is blank
abbrev pub is_after_blank : List Owner → ℕ → Bool
is_after_blank owners zero = false
is_after_blank owners (suc n) = is_blank_line (get_or owners n Marker)

-- a blank line comes directly before one of these lines other than the first
abbrev pub parted : List Owner → List ℕ → Bool
parted owners starts = list_any (is_after_blank owners) (drop 1 starts)

-- a blank line comes directly before the second or a later block of some item
unfoldable pub parted_inside : ItemParts → Bool
parted_inside (last_item inside) = parted (line_owners inside) (block_starts 0 inside)
parted_inside (item inside blanks items) = parted (line_owners inside) (block_starts 0 inside) || parted_inside items

-- A list is loose exactly if a blank line comes directly before its second or a later item, or directly
-- before the second or a later block of an item.
abbrev pub LooseByOwners : Type 0
LooseByOwners = (items : ItemParts) → ItemsHaveLines items
    → is_loose items ≡ (parted (item_owners_after 0 items) (item_starts 0 items) || parted_inside items)
