-- The stack that a parser holds, in which no line is kept: the open block quotes, lists and items from the outside in, each with what
-- is closed in it; the open leaf; the owners of the lines so far; and the link reference definitions so far. How a line is added to
-- it (`push_line`) needn't be believed, since laws tie that to the definition of blocks by cases.
use Rattle.std.specs.Prelude.{ℕ, zero, suc, Bool, true, false, List, [], ◌∷◌, ◌++◌, replicate, Option, Some, None}
use Rattle.cm_text.specs.Rules.{Rules}
use Rattle.cm_text.specs.Lines.{LineView}
use Rattle.cm_text.specs.Labels.{fold_label}
use Rattle.cm_text.specs.Unescaping.{unescape}
use Rattle.cm_tree.specs.declared.tree.Block.{Block}
use Rattle.cm_tree.specs.declared.tree.Block.TheVariants.{Quote}
use Rattle.cm_tree.specs.declared.tree.Owner.{Owner}
use Rattle.cm_tree.specs.declared.tree.Owner.TheVariants.{Leaf, Marker, Blank}
use Rattle.cm_tree.specs.Definitions.{Targets, add_first}
use Rattle.cm_scan.specs.blocks.Lines.{is_blank, marks}
use Rattle.cm_scan.specs.blocks.Parts.{LeafPart, definition, leaf_block}
use Rattle.cm_scan.specs.blocks.Starts.{continuation_in_quote, continuation_in_item}
use Rattle.cm_scan.specs.laws.PartLaws.{goes_inward}
use Rattle.cm_block.specs.OpenLeaf.{OpenLeaf, no_leaf, closed_leaves, blank_lines_after, LeafLine, stays_open, is_last, line_of_leaf, LineOpens, begins_nothing, begins_leaf, begins_quote, begins_item, begin_of}
use Rattle.cm_block.specs.Machine.{Open, in_leaf, in_quote, in_item, has_open_text}
use Rattle.cm_block.specs.Level.{Level, empty_level, closed_blocks, push_blank, block_opens, item_opens, block_closes, Item, item_closes}

-- the owners of the lines so far, except those of the open leaf; how many leaves they have; and the table of the definitions among
-- these leaves
pub record Owned : Type 0 where
  pub owners : List Owner
  pub leaves : ℕ
  pub table : Targets

-- the level of the document, what is open in it, and the owners with the table
pub record Stack : Type 0 where
  pub level : Level
  pub now : Open Level
  pub owned : Owned

-- a stack of these
abbrev pub stack : Level → Open Level → Owned → Stack
stack level now owned = record { level = level; now = now; owned = owned }

-- the stack of no lines
abbrev pub empty_stack : Stack
empty_stack = stack empty_level (in_leaf no_leaf) (record { owners = []; leaves = 0; table = [] })

-- Closing

unfoldable pub close_leaves : Level → List (LeafPart × ℕ) → Level
close_leaves level [] = level
close_leaves level (x ∷ xs) = close_leaves (block_closes level (leaf_block x.0)) xs

unfoldable pub push_blanks : ℕ → Level → Level
push_blanks zero level = level
push_blanks (suc n) level = push_blanks n (push_blank level)

-- what the list needs of an item with this level
abbrev pub item_of : Level → Item
item_of inside = record { blocks = closed_blocks inside; ends_blank = inside.ends_blank; separated = inside.separated }

-- the level once what is open in it is closed
unfoldable pub close_open : Level → Open Level → Level
close_open level (in_leaf x) = push_blanks (blank_lines_after x) (close_leaves level (closed_leaves x))
close_open level (in_quote inside now) = block_closes level (Quote (closed_blocks (close_open inside now)))
close_open level (in_item kind column bare inside now) = item_closes level (item_of (close_open inside now))

-- a table after one more leaf: the first of definitions with matching labels counts (4.7 Link reference definitions)
abbrev pub table_with : Targets → LeafPart → Targets
table_with table (definition label dest title) = add_first table (fold_label label) (unescape dest, unescape title)
table_with table _ = table

-- the owners and the table after the lines of one more leaf
abbrev pub own_leaf : Owned → LeafPart → ℕ → Owned
own_leaf owned x lines = record { owners = owned.owners ++ replicate lines (Leaf (suc owned.leaves)); leaves = suc owned.leaves; table = table_with owned.table x }

-- the owners after lines of no leaf
abbrev pub own_lines : Owned → List Owner → Owned
own_lines owned os = record { owners = owned.owners ++ os; leaves = owned.leaves; table = owned.table }

unfoldable pub own_leaves : Owned → List (LeafPart × ℕ) → Owned
own_leaves owned [] = owned
own_leaves owned (x ∷ xs) = own_leaves (own_leaf owned x.0 x.1) xs

-- the owner of a blank line, inside a block quote or not
abbrev pub blank_owner : (in_a_quote : Bool) → Owner
blank_owner true = Marker
blank_owner false = Blank

unfoldable pub own_blanks : (in_a_quote : Bool) → ℕ → Owned → Owned
own_blanks in_a_quote zero owned = owned
own_blanks in_a_quote (suc n) owned = own_blanks in_a_quote n (own_lines owned (blank_owner in_a_quote ∷ []))

-- the owners and the table once what is open is closed
unfoldable pub own_open : (in_a_quote : Bool) → Owned → Open Level → Owned
own_open in_a_quote owned (in_leaf x) = own_blanks in_a_quote (blank_lines_after x) (own_leaves owned (closed_leaves x))
own_open in_a_quote owned (in_quote inside now) = own_open true owned now
own_open in_a_quote owned (in_item kind column bare inside now) = own_open in_a_quote owned now

-- the blocks, the owners and the table of definitions of a closed stack
pub record Closed : Type 0 where
  pub blocks : List Block
  pub owners : List Owner
  pub definitions : Targets

-- The blocks, the owners and the table of definitions once all that is open is closed. This uses neither what a line starts nor which
-- lines stay in a container.
unfoldable pub close_stack : Stack → Closed
close_stack before =
    let owned = own_open false before.owned before.now in
    record { blocks = closed_blocks (close_open before.level before.now); owners = owned.owners; definitions = owned.table }

-- One more line

-- a line of a leaf, in the level in which that was opened
abbrev pub push_leaf_line : Owned → Level → LeafLine → Stack
push_leaf_line owned level (stays_open x) = stack level (in_leaf x) owned
push_leaf_line owned level (is_last leaves) = stack (close_leaves level leaves) (in_leaf no_leaf) (own_leaves owned leaves)

-- a level whose last line counts as one that isn't blank, since the marker of an item was removed from it
abbrev pub not_blank : Level → Level
not_blank inside = record { blocks = inside.blocks; open_list = inside.open_list; has_block = inside.has_block; ends_blank = false; separated = inside.separated }

-- what a line starts; `push` gives it for a line after a marker
abbrev pub push_by : ((in_a_quote : Bool) → Owned → Level → LineView → Stack) → (in_a_quote : Bool) → Owned → Level → LineOpens → Stack
push_by push in_a_quote owned level begins_nothing = stack (push_blank level) (in_leaf no_leaf) (own_lines owned (blank_owner in_a_quote ∷ []))
push_by push in_a_quote owned level (begins_leaf l) = push_leaf_line owned (block_opens level) l
push_by push in_a_quote owned level (begins_quote inner) = let c = push true owned empty_level inner in stack (block_opens level) (in_quote c.level c.now) c.owned
push_by push in_a_quote owned level (begins_item kind column inner) =
    let c = push true owned empty_level inner in stack (item_opens level kind) (in_item kind column (is_blank inner) (not_blank c.level) c.now) c.owned

unfoldable pub push_within : Rules → ℕ → (in_a_quote : Bool) → Owned → Level → LineView → Stack
push_within rules zero in_a_quote owned level line = stack level (in_leaf no_leaf) owned
push_within rules (suc n) in_a_quote owned level line = push_by (λ in_a_quote owned level inner. push_within rules n in_a_quote owned level inner) in_a_quote owned level (begin_of rules line)

unfoldable pub push_begin : Rules → (in_a_quote : Bool) → Owned → Level → LineView → Stack
push_begin rules in_a_quote owned level line = push_within rules (suc (marks line.text)) in_a_quote owned level line

-- what is open is closed, and the line starts something
abbrev pub push_after : Rules → (in_a_quote : Bool) → Owned → Level → Open Level → LineView → Stack
push_after rules in_a_quote owned level now line = push_begin rules in_a_quote (own_open in_a_quote owned now) (close_open level now) line

-- the same for an open leaf, given whether the line belongs to it
abbrev pub push_to_leaf : Rules → (in_a_quote : Bool) → Owned → Level → OpenLeaf → LineView → Option LeafLine → Stack
push_to_leaf rules in_a_quote owned level x line (Some l) = push_leaf_line owned level l
push_to_leaf rules in_a_quote owned level x line None = push_after rules in_a_quote owned level (in_leaf x) line

-- one more line, at one level
unfoldable pub push_in : Rules → (in_a_quote : Bool) → Owned → Level → Open Level → LineView → Stack
push_in rules in_a_quote owned level (in_leaf x) line = push_to_leaf rules in_a_quote owned level x line (line_of_leaf rules x line)
push_in rules in_a_quote owned level (in_quote inside now) line = elim (goes_inward (continuation_in_quote rules line) (has_open_text now)) [
  | Some inner ↦ let c = push_in rules true owned inside now inner in stack level (in_quote c.level c.now) c.owned
  | None ↦ push_after rules in_a_quote owned level (in_quote inside now) line
]
push_in rules in_a_quote owned level (in_item kind column bare inside now) line = elim (goes_inward (continuation_in_item rules column bare line) (has_open_text now)) [
  | Some inner ↦ let c = push_in rules in_a_quote owned inside now inner in stack level (in_item kind column false c.level c.now) c.owned
  | None ↦ push_after rules in_a_quote owned level (in_item kind column bare inside now) line
]

-- the stack after one more line
unfoldable pub push_line : Rules → Stack → LineView → Stack
push_line rules before line = push_in rules false before.owned before.level before.now line

-- the stack after more lines
unfoldable pub push_lines : Rules → Stack → List LineView → Stack
push_lines rules before [] = before
push_lines rules before (line ∷ lines) = push_lines rules (push_line rules before line) lines
