use Rattle.std.proofs.Common.{◌≡◌, ◌++◌, length}
use Rattle.cm_tool.specs.steps.LeafWalks.{all_left, HasReadSome}
use Rattle.cm_tool.proofs.outlines.leaf_walk.LeafWalk.all_blocks.Given as goal

-- what was read and what is left come to the whole
abbrev pub invariant-loop-read : goal.invariant-loop-read
invariant-loop-read l = record {
  read : l.read ++ all_left l.self.unread ≡ all_left l.initial.self.unread;
  passes : HasReadSome l.initial.self l.self;
}

abbrev pub decreases-loop-read : goal.decreases-loop-read
decreases-loop-read l = length (all_left l.self.unread)
