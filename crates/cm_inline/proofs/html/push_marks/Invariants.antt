use Rattle.cm_inline.proofs.lemmas.Words.{length, ◌-◌}
use Rattle.cm_inline.specs.steps.Writing.{TextWaits}
use Rattle.cm_inline.proofs.html.push_marks.Given as goal

abbrev pub invariant-loop-next : goal.invariant-loop-next
invariant-loop-next l = TextWaits l.source l.definitions l.reader l.initial.html l.html l.next

abbrev pub decreases-loop-next : goal.decreases-loop-next
decreases-loop-next l = length l.marks - l.next.mark
