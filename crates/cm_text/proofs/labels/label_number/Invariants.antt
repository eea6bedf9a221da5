use Rattle.std.proofs.Common.{◌≡◌, drop}
use Rattle.cm_text.specs.LabelNumbers.{number_from, number_of}
use Rattle.cm_text.proofs.labels.label_number.Given as goal

-- what was read and what is left come to the label's number
abbrev pub invariant-loop-b : goal.invariant-loop-b
invariant-loop-b l = number_from l.number (drop l.b-index l.label) ≡ number_of l.label
