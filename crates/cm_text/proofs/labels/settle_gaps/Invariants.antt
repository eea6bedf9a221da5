use Rattle.std.proofs.Common.{◌≡◌, ◌++◌, string_bytes}
use Rattle.cm_text.specs.Labels.{settle_gaps}
use Rattle.cm_text.proofs.lemmas.LabelLemmas.{rest_after}
use Rattle.cm_text.proofs.labels.settle_gaps.Given as goal

-- what was made and what is left come to the whole
abbrev pub invariant-loop-c : goal.invariant-loop-c
invariant-loop-c l = string_bytes l.settled ++ rest_after (string_bytes l.settled) l.after_gap l.c-iterator.rest.now ≡ settle_gaps l.text
