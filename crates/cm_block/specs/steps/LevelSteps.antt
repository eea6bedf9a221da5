-- Steps of the code over a level.
use Rattle.std.specs.Prelude.{Bool, true, false, ◌||◌, List, Option, Some, None}
use Rattle.std.specs.Option.{option_map}
use Rattle.cm_tree.specs.declared.tree.Block.{Block}
use Rattle.cm_tree.specs.declared.tree.ListKind.{ListKind}
use Rattle.cm_scan.specs.blocks.LineForms.{is_same_kind}
use Rattle.cm_block.specs.Level.{OpenList, Level, closed_blocks, Item}

-- the list at the end of the blocks
abbrev pub without_list : Level → Level
without_list level = record {
  blocks = closed_blocks level;
  open_list = None;
  has_block = level.has_block;
  ends_blank = level.ends_blank;
  separated = level.separated;
}

abbrev pub item_with : List Block → Bool → Bool → Item
item_with blocks ends_blank separated = record { blocks = blocks; ends_blank = ends_blank; separated = separated }

abbrev pub is_list_of : Option OpenList → ListKind → Bool
is_list_of None kind = false
is_list_of (Some list) kind = is_same_kind list.kind kind

-- an item of this kind continues the list
abbrev pub has_list_of : Level → ListKind → Bool
has_list_of level kind = is_list_of level.open_list kind

abbrev loosened : Bool → OpenList → OpenList
loosened loose list = record { kind = list.kind; loose = list.loose || loose; items = list.items }

-- the list continues an item
abbrev pub goes_on : Level → Level
goes_on level = record {
  blocks = level.blocks;
  open_list = option_map (loosened level.ends_blank) level.open_list;
  has_block = true;
  ends_blank = false;
  separated = level.separated;
}
