use Rattle.std.proofs.Common.{◌≡◌, ◌++◌, drop}
use Rattle.cm_tree.specs.RawBlocks.{blocks_in, ArePlaced}
use Rattle.cm_block.proofs.outline.push_chunk.Given as goal

-- what was made and what is left come to the chunk
abbrev pub invariant-loop-block : goal.invariant-loop-block
invariant-loop-block l =
    let left = drop l.block-index l.top in
    record {
      made : l.made ++ blocks_in l.inside left ≡ l.fn.made ++ l.fn.chunk;
      placed : ArePlaced l.inside left;
    }
