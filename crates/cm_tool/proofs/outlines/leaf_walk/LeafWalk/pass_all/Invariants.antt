use Rattle.std.proofs.Common.{length}
use Rattle.cm_tool.specs.steps.LeafWalks.{all_left, HasReadSome}
use Rattle.cm_tool.proofs.outlines.leaf_walk.LeafWalk.pass_all.Given as goal

abbrev pub invariant-loop-block : goal.invariant-loop-block
invariant-loop-block l = HasReadSome l.initial.self l.self

abbrev pub decreases-loop-block : goal.decreases-loop-block
decreases-loop-block l = length (all_left l.self.unread)
