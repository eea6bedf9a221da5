-- One level read from the left: the blocks so far, the list that an item may continue, and what decides whether a list is loose
-- (CommonMark 0.31.2, 5.3 Lists).
use Rattle.std.specs.Prelude.{◌≡◌, Bool, true, false, not, ◌&&◌, ◌||◌, List, [], ◌∷◌, ◌++◌, Option, Some, None}
use Rattle.cm_tree.specs.declared.tree.ListKind.{ListKind}
use Rattle.cm_tree.specs.declared.tree.Block.{Block}
use Rattle.cm_tree.specs.declared.tree.Block.TheVariants.{Quote, List as ListBlock}
use Rattle.cm_scan.specs.blocks.LineForms.{is_same_kind}
use Rattle.cm_scan.specs.blocks.Parts.{Parts, none, last_item, leaf_block, is_separated, items_end_blank, ends_blank_after, blocks_of_parts}
use Rattle.cm_block.specs.Machine.{ClosedPart, closed_blank, closed_leaf, closed_quote, closed_item, put_all}

-- a list with its closed items, and whether it is loose so far; another item of it may be open
pub record OpenList : Type 0 where
  pub kind : ListKind
  pub loose : Bool
  pub items : List (List Block)

-- The closed blocks, the open list after them, whether there is a block, whether the last line is blank as seen at this level, and
-- whether a blank line comes directly before the second or a later block.
pub record Level : Type 0 where
  pub blocks : List Block
  pub open_list : Option OpenList
  pub has_block : Bool
  pub ends_blank : Bool
  pub separated : Bool

-- the level of no blocks
abbrev pub empty_level : Level
empty_level = record { blocks = []; open_list = None; has_block = false; ends_blank = false; separated = false }

abbrev pub with_list : List Block → Option OpenList → List Block
with_list blocks None = blocks
with_list blocks (Some list) = blocks ++ ListBlock list.kind (not list.loose) list.items ∷ []

-- all blocks of a level, with the open list
abbrev pub closed_blocks : Level → List Block
closed_blocks level = with_list level.blocks level.open_list

-- a level after a blank line
abbrev pub push_blank : Level → Level
push_blank level = record { blocks = level.blocks; open_list = level.open_list; has_block = level.has_block; ends_blank = true; separated = level.separated }

-- Opening a block: what follows from a blank line right before it is settled then, and not when it is closed.

abbrev pub separated_next : Level → Bool
separated_next level = level.separated || level.has_block && level.ends_blank

-- A block that is no item ends the open list.
abbrev pub block_opens : Level → Level
block_opens level = record { blocks = closed_blocks level; open_list = None; has_block = level.has_block; ends_blank = false; separated = separated_next level }

abbrev pub list_opens : Level → ListKind → Level
list_opens level kind = record {
  blocks = closed_blocks level;
  open_list = Some (record { kind = kind; loose = false; items = [] });
  has_block = true;
  ends_blank = false;
  separated = separated_next level;
}

-- a blank line right before a further item makes the list loose
abbrev pub list_goes_on : Level → OpenList → Level
list_goes_on level list = record {
  blocks = level.blocks;
  open_list = Some (record { kind = list.kind; loose = list.loose || level.ends_blank; items = list.items });
  has_block = true;
  ends_blank = false;
  separated = level.separated;
}

abbrev pub item_opens_in : Level → Option OpenList → ListKind → Level
item_opens_in level None kind = list_opens level kind
item_opens_in level (Some list) kind = elim (is_same_kind list.kind kind) [ true ↦ list_goes_on level list | false ↦ list_opens level kind ]

-- A level in which an item is opened: it continues the open list if that is of its kind, or starts a list.
abbrev pub item_opens : Level → ListKind → Level
item_opens level kind = item_opens_in level level.open_list kind

-- Closing: the level is the one where the block was opened.

-- a level in which this block was opened, once it is closed
abbrev pub block_closes : Level → Block → Level
block_closes level block = record { blocks = level.blocks ++ block ∷ []; open_list = level.open_list; has_block = true; ends_blank = false; separated = level.separated }

-- what a list needs of one of its items: its blocks, whether its last line is blank, and whether a blank line separates two blocks
pub record Item : Type 0 where
  pub blocks : List Block
  pub ends_blank : Bool
  pub separated : Bool

-- An item with a blank line between two blocks makes its list loose.
abbrev pub with_item : Option OpenList → Item → Option OpenList
with_item None item = None
with_item (Some list) item = Some (record { kind = list.kind; loose = list.loose || item.separated; items = list.items ++ item.blocks ∷ [] })

-- a level in which an item was opened, once it is closed
abbrev pub item_closes : Level → Item → Level
item_closes level item = record { blocks = level.blocks; open_list = with_item level.open_list item; has_block = true; ends_blank = item.ends_blank; separated = level.separated }

-- Both at once, and the same for closed parts.

abbrev pub push_block : Level → Block → Level
push_block level block = block_closes (block_opens level) block

abbrev pub push_item : Level → ListKind → Item → Level
push_item level kind item = item_closes (item_opens level kind) item

-- an item with these parts
abbrev pub item_of_parts : Parts → Item
item_of_parts inside = record { blocks = blocks_of_parts inside; ends_blank = items_end_blank (last_item inside); separated = is_separated false false inside }

unfoldable pub add : Level → ClosedPart → Level
add level closed_blank = push_blank level
add level (closed_leaf x lines) = push_block level (leaf_block x)
add level (closed_quote inside) = push_block level (Quote (blocks_of_parts inside))
add level (closed_item kind inside) = push_item level kind (item_of_parts inside)

unfoldable pub add_all : Level → List ClosedPart → Level
add_all level [] = level
add_all level (closed_part ∷ closed_parts) = add_all (add level closed_part) closed_parts

-- A level read from the left has the blocks of its parts, and what decides whether a list is loose.
pub record LevelOfParts (closed_parts : List ClosedPart) : Type 0 where
  pub blocks : closed_blocks (add_all empty_level closed_parts) ≡ blocks_of_parts (put_all closed_parts none)
  pub separated : (add_all empty_level closed_parts).separated ≡ is_separated false false (put_all closed_parts none)
  pub ends_blank : (add_all empty_level closed_parts).ends_blank ≡ ends_blank_after false (put_all closed_parts none)
