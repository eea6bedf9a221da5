use Rattle.std.proofs.Common.{◌≡◌, ◌++◌, drop}
use Rattle.cm_tree.specs.RawTrees.{all_blocks}
use Rattle.cm_block.proofs.parser.Outline.to_blocks.Given as goal

-- what was made and what is left come to the whole
abbrev pub invariant-loop-chunk : goal.invariant-loop-chunk
invariant-loop-chunk l = l.made ++ all_blocks (drop l.chunk-index l.chunks) ≡ all_blocks l.chunks
