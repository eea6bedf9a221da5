-- The faces of blocks: which is a paragraph's, and those of the blocks of items.
use Rattle.std.specs.Prelude.{Bool, true, false, map, List}
use Rattle.cm_text.specs.Rules.{Rules}
use Rattle.cm_tree.specs.declared.tree.Block.{Block}
use Rattle.cm_source.specs.Refusals as refusals

abbrev pub is_paragraph : refusals.BlockFace → Bool
is_paragraph refusals.ParagraphFace = true
is_paragraph face = false

-- what the blocks of each item are to those next to them
abbrev pub faces_of_items : Rules → List (List Block) → List (List refusals.BlockFace)
faces_of_items rules items = map refusals.faces (map (map (refusals.judged_block rules)) items)
