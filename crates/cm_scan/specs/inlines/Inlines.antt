-- The inlines of a leaf (CommonMark 0.31.2, chapter 6, and the appendix "A parsing strategy"). A leaf's source is read from the
-- left, atom by atom.
use Rattle.std.specs.Prelude.{ℕ, zero, suc, ◌-◌, Bool, nat_lt, List, [], ◌∷◌, length, reverse}
use Rattle.cm_text.specs.Rules.{Rules}
use Rattle.cm_tree.specs.declared.tree.Inline.{Inline}
use Rattle.cm_tree.specs.Depth.{inlines_depth}
use Rattle.cm_scan.specs.inlines.Pairing.{Item, Characters, Finished, Delimiters, Opener, emphasis_of}
use Rattle.cm_scan.specs.inlines.Atoms.{Atom, Plain, Whole, Delimiter, OpenBracket, CloseBracket, atom_at}
use Rattle.cm_scan.specs.inlines.Brackets.{Defined, Bracketed, close_bracket}

abbrev pub with_item : List Item → Item → List ℕ → Bracketed
with_item items item rest = record { items = item ∷ items; rest = rest }

-- an atom added to the items so far, which are in reverse, and what is left of the source then
unfoldable pub add_atom : Rules → Defined → List Item → Atom → List ℕ → Bracketed
add_atom rules defined items (Plain text) rest = with_item items (Characters text) rest
add_atom rules defined items (Whole inline) rest = with_item items (Finished inline) rest
add_atom rules defined items (Delimiter run) rest = with_item items (Delimiters run) rest
add_atom rules defined items (OpenBracket image) rest = with_item items (Opener image rest) rest
add_atom rules defined items CloseBracket rest = close_bracket rules defined items rest

-- the items after one more atom, and what is left of the source
unfoldable pub item_step : Rules → Defined → (before : List ℕ) → ℕ → List ℕ → List Item → Bracketed
item_step rules defined before b bs items = let a = atom_at rules before b bs in add_atom rules defined items a.atom a.rest

-- The items after all of the source from a place on. The bytes before that place and the items so far are in reverse; the given
-- number of bytes from there on belong to what was read last.
unfoldable pub items_after : Rules → Defined → ℕ → (before : List ℕ) → List ℕ → List Item → List Item
items_after rules defined n before [] items = items
items_after rules defined (suc n) before (b ∷ bs) items = items_after rules defined n (b ∷ before) bs items
items_after rules defined zero before (b ∷ bs) items =
    let next = item_step rules defined before b bs items in
    items_after rules defined (length bs - length next.rest) (b ∷ before) bs next.items

-- the items of a source, with links and images made
unfoldable pub items_of : Rules → Defined → List ℕ → List Item
items_of rules defined source = reverse (items_after rules defined zero [] source [])

-- The inlines of a leaf with this source, given the link reference definitions: its items, read from the left with links and
-- images made, and then its emphasis.
unfoldable pub inlines_of : Rules → Defined → List ℕ → List Inline
inlines_of rules defined source = emphasis_of (items_of rules defined source)

-- the greatest number of emphasis, strong emphasis, strikethrough, links and images nested in one another
unfoldable pub depth_of_leaf : Rules → Defined → List ℕ → ℕ
depth_of_leaf rules defined source = inlines_depth (inlines_of rules defined source)

-- the inlines of a source nest deeper than the limit
abbrev pub nests_past : Rules → Defined → (limit : ℕ) → List ℕ → Bool
nests_past rules defined limit source = nat_lt limit (depth_of_leaf rules defined source)
