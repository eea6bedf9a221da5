use Rattle.std.proofs.Common.{◌≡◌, length}
use Rattle.std.specs.Vec.Iter.{into_iter_items}
use Rattle.cm_tool.specs.steps.LeafWalks.{all_left, ArePlacedLeft}
use Rattle.cm_tool.proofs.outlines.leaf_walk.Unread.next_chunk.Given as goal

-- No block is left out while chunks are freed.
abbrev pub invariant-loop-self : goal.invariant-loop-self
invariant-loop-self l = record {
  left : all_left l.self ≡ all_left l.initial.self;
  placed : ArePlacedLeft l.self;
  limits : l.self.limits ≡ l.initial.self.limits;
}

-- A chunk is freed in each turn but the last.
abbrev pub decreases-loop-self : goal.decreases-loop-self
decreases-loop-self l = length (into_iter_items l.self.chunks)
