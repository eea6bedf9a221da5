-- The blocks of a document that is held in chunks.
use Rattle.std.specs.Prelude.{List, [], ◌∷◌, ◌++◌}
use Rattle.cm_tree.specs.declared.tree.Block.{Block}

-- the blocks of each chunk, chunk after chunk
abbrev pub all_blocks : (chunks : List (List Block)) → List Block
all_blocks [] = []
all_blocks (chunk ∷ chunks) = chunk ++ all_blocks chunks
