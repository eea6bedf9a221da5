use Rattle.std.proofs.Common.{◌≡◌, ◌&&◌, true, drop}
use Rattle.cm_text.specs.LabelNumbers.{number_from, number_of}
use Rattle.cm_text.specs.PlainLabels.{is_plain, is_all_ascii}
use Rattle.cm_text.proofs.labels.plain_label_number.Given as goal

-- what was read and what is left come to the label's number, and what is left decides whether it is plain and ASCII
abbrev pub invariant-loop-b : goal.invariant-loop-b
invariant-loop-b l = (number_from l.number (drop l.b-index l.label) ≡ number_of l.label)
    × (is_plain true l.label ≡ is_plain l.beyond_space (drop l.b-index l.label))
    × (is_all_ascii l.label ≡ (l.ascii && is_all_ascii (drop l.b-index l.label)))
