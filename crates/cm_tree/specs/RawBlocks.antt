-- Blocks whose inlines haven't been read, held as places in texts and lists.
use Rattle.std.specs.Prelude.{◌≡◌, ℕ, ◌≤◌, List, [], ◌∷◌, ◌++◌, length, map, refl, ⊤}
use Rattle.std.specs.Coded.{Coded, code_by, coded_ℕ, coded_list, coded×}
use Rattle.std.specs.List.{slice_range}
use Rattle.std.specs.Str.{IsCharBoundary, IsUtf8}
use Rattle.cm_tree.specs.contracts.tree.Block as block
use Rattle.cm_tree.specs.declared.raw_blocks.RawBlock.{RawBlock}
use Rattle.cm_tree.specs.declared.raw_blocks.RawBlock.TheVariants as raw_block
use Rattle.cm_tree.specs.declared.raw_blocks.RawItem.{RawItem}
use Rattle.cm_tree.specs.declared.tree.Block.{Block}
use Rattle.cm_tree.specs.declared.tree.Block.TheVariants as trees
use Rattle.cm_tree.specs.declared.tree.Inline.{Inline}
use Rattle.cm_tree.specs.declared.tree.Inline.TheVariants as inlines

-- the source of a leaf as its one inline, or no inline if it is empty
abbrev pub raw_inlines : List ℕ → List Inline
raw_inlines [] = []
raw_inlines (b ∷ bs) = inlines.Text (b ∷ bs) ∷ []

-- the texts of all blocks, the blocks that are in other blocks, and the items with their blocks
pub record Raw : Type 0 where
  pub text : List ℕ
  pub blocks : List Block
  pub items : List (List Block)

-- the fields as a tuple
abbrev pub raw_code : Coded Raw
raw_code =
    code_by (List ℕ × (List Block × List (List Block)))
    (coded× (coded_list coded_ℕ) (coded× (coded_list block.the_row.coded) (coded_list (coded_list block.the_row.coded))))
    (λ r. (r.text, (r.blocks, r.items))) (λ t. record { text = t.0; blocks = t.1.0; items = t.1.1 }) (λ _. refl)

-- the block at these places of the texts, the blocks and the items
abbrev pub block_in : Raw → RawBlock → Block
block_in raw (raw_block.Paragraph from to) = trees.Paragraph (raw_inlines (slice_range raw.text from to))
block_in raw (raw_block.Heading level from to) = trees.Heading level (raw_inlines (slice_range raw.text from to))
block_in raw (raw_block.Code info text to) = trees.Code (slice_range raw.text info text) (slice_range raw.text text to)
block_in raw (raw_block.Html from to) = trees.Html (slice_range raw.text from to)
block_in raw raw_block.Break = trees.Break
block_in raw (raw_block.Definition label dest title to) =
    trees.Definition (slice_range raw.text label dest) (slice_range raw.text dest title) (slice_range raw.text title to)
block_in raw (raw_block.Quote from to) = trees.Quote (slice_range raw.blocks from to)
block_in raw (raw_block.List tight kind from to) = trees.List kind tight (slice_range raw.items from to)

-- the same of several blocks
abbrev pub blocks_in : Raw → List RawBlock → List Block
blocks_in raw blocks = map (block_in raw) blocks

-- the blocks of the item at these places
abbrev pub item_in : Raw → RawItem → List Block
item_in raw item = slice_range raw.blocks item.from item.to

-- the same of several items
abbrev pub items_in : Raw → List RawItem → List (List Block)
items_in raw items = map (item_in raw) items

-- two places of a text, in order, that are boundaries of characters
abbrev pub IsBetween : List ℕ → ℕ → ℕ → Type 0
IsBetween text from to = (from ≤ to) × IsCharBoundary text from × IsCharBoundary text to

-- two places in a list of the given length, in order
abbrev pub IsRange : ℕ → ℕ → ℕ → Type 0
IsRange count from to = (from ≤ to) × (to ≤ count)

-- the places of a block are places of the texts, the blocks and the items
abbrev pub IsPlaced : Raw → RawBlock → Type 0
IsPlaced raw (raw_block.Paragraph from to) = IsBetween raw.text from to
IsPlaced raw (raw_block.Heading level from to) = IsBetween raw.text from to
IsPlaced raw (raw_block.Code info text to) = IsBetween raw.text info text × IsBetween raw.text text to
IsPlaced raw (raw_block.Html from to) = IsBetween raw.text from to
IsPlaced raw raw_block.Break = ⊤
IsPlaced raw (raw_block.Definition label dest title to) = IsBetween raw.text label dest × IsBetween raw.text dest title × IsBetween raw.text title to
IsPlaced raw (raw_block.Quote from to) = IsRange (length raw.blocks) from to
IsPlaced raw (raw_block.List tight kind from to) = IsRange (length raw.items) from to

-- the same of several blocks
abbrev pub ArePlaced : Raw → List RawBlock → Type 0
ArePlaced raw [] = ⊤
ArePlaced raw (block ∷ blocks) = IsPlaced raw block × ArePlaced raw blocks

-- the places of an item are places of the blocks
abbrev pub IsItem : Raw → RawItem → Type 0
IsItem raw item = IsRange (length raw.blocks) item.from item.to

-- the same of several items
abbrev pub AreItems : Raw → List RawItem → Type 0
AreItems raw [] = ⊤
AreItems raw (item ∷ items) = IsItem raw item × AreItems raw items

-- More has been put after what was there, so each block that was there stays what it is.
pub record Grows (old new : Raw) : Type 0 where
  pub text : List ℕ
  pub blocks : List Block
  pub items : List (List Block)
  pub utf8 : IsUtf8 text
  pub text_is : new.text ≡ old.text ++ text
  pub blocks_are : new.blocks ≡ old.blocks ++ blocks
  pub items_are : new.items ≡ old.items ++ items
