-- Blocks that are before all that is open: they go to the front of the outermost level.
use Rattle.std.specs.Prelude.{List, [], ◌∷◌, ◌++◌}
use Rattle.cm_tree.specs.declared.tree.Block.{Block}
use Rattle.cm_block.specs.Level.{Level}
use Rattle.cm_block.specs.Frames.{Frame}

abbrev pub level_after : (front : List Block) → Level → Level
level_after front level = record {
  blocks = front ++ level.blocks;
  open_list = level.open_list;
  has_block = level.has_block;
  ends_blank = level.ends_blank;
  separated = level.separated;
}

-- the open containers, of which the first one's level is the document's
abbrev pub frames_after : (front : List Block) → List Frame → List Frame
frames_after front [] = []
frames_after front (f ∷ fs) = record { level = level_after front f.level; container = f.container } ∷ fs

-- the innermost level, which is the document's where no container is open
abbrev pub innermost : (front : List Block) → List Frame → Level → Level
innermost front [] level = level_after front level
innermost front (f ∷ fs) level = level
