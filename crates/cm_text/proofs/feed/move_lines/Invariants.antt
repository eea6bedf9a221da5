use Rattle.std.proofs.Common.{length, map}
use Rattle.cm_text.specs.Lines.{seen_line}
use Rattle.cm_text.specs.steps.FeedSteps.{Moves}
use Rattle.cm_text.proofs.feed.move_lines.Given as goal

abbrev pub invariant-loop-line : goal.invariant-loop-line
invariant-loop-line l = Moves (map seen_line l.initial.ready.items) l.initial.buffer (map seen_line l.ready.items) l.buffer

abbrev pub decreases-loop-line : goal.decreases-loop-line
decreases-loop-line l = length l.buffer.cut.ended
