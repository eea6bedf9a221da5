use Rattle.std.proofs.Common.{◌≡◌, length}
use Rattle.cm_tool.specs.steps.Handing.{Hands}
use Rattle.cm_tool.proofs.reading.parser.hand_over.Given as goal

abbrev pub invariant-loop-feed : goal.invariant-loop-feed
invariant-loop-feed l = record {
  limits : l.blocks.limits ≡ l.initial.blocks.limits;
  handed : Hands l.initial.feed l.initial.blocks l.feed l.blocks;
}

abbrev pub decreases-loop-feed : goal.decreases-loop-feed
decreases-loop-feed l = length l.feed.cut.ended
