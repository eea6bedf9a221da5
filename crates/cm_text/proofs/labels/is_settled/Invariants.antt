use Rattle.std.proofs.Common.{◌≡◌, true, drop}
use Rattle.cm_text.specs.steps.LabelSteps.{is_settled}
use Rattle.cm_text.proofs.labels.is_settled.Given as goal

-- what is left decides
abbrev pub invariant-loop-b : goal.invariant-loop-b
invariant-loop-b l = is_settled true l.text ≡ is_settled l.beyond_gap (drop l.b-index l.text)
