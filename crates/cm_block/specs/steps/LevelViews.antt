-- A level as the code has it.
use Rattle.std.specs.Prelude.{Option, Some, None, ⊤}
use Rattle.std.specs.Option.{option_map}
use Rattle.cm_tree.specs.RawBlocks.{Raw, blocks_in, items_in, ArePlaced, AreItems}
use Rattle.cm_block.specs.declared.level.Level as code
use Rattle.cm_block.specs.declared.level.OpenList as code_list
use Rattle.cm_block.specs.Level.{OpenList, Level}

abbrev pub list_in : Raw → code_list.OpenList → OpenList
list_in raw list = record { kind = list.kind; loose = list.loose; items = items_in raw list.items.items }

abbrev pub level_in : Raw → code.Level → Level
level_in raw level = record {
  blocks = blocks_in raw level.blocks.items;
  open_list = option_map (list_in raw) level.open_list;
  has_block = level.has_block;
  ends_blank = level.ends_blank;
  separated = level.separated;
}

abbrev pub IsListPlaced : Raw → Option code_list.OpenList → Type 0
IsListPlaced raw None = ⊤
IsListPlaced raw (Some list) = AreItems raw list.items.items

-- what its blocks are made of is there
pub record IsLevelPlaced (raw : Raw) (level : code.Level) : Type 0 where
  pub blocks : ArePlaced raw level.blocks.items
  pub open_list : IsListPlaced raw level.open_list
