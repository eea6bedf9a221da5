use Rattle.cm_inline.proofs.lemmas.Words.{Targets}
use Rattle.cm_inline.specs.steps.Writing.{IsImageAt, IsWrittenTo}
use Rattle.cm_inline.proofs.alternative_text.push_alternative_text.Given as goal

abbrev pub invariant-loop-at : goal.invariant-loop-at
invariant-loop-at l = (targets : Targets) → IsImageAt l.source targets l.reader l.initial.html l.start l.link → IsWrittenTo l.source targets l.reader l.initial.html l.html l.start l.link l.from l.at
