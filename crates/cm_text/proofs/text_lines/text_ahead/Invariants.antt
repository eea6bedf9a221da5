use Rattle.std.proofs.Common.{◌≡◌, ◌+◌, ◌-◌, ◌≤◌, length}
use Rattle.cm_text.specs.steps.TextAhead.{IsAhead}
use Rattle.cm_text.proofs.lemmas.TextLineLemmas.{next_spaces}
use Rattle.cm_text.proofs.text_lines.text_ahead.Given as goal

abbrev pub invariant-loop-first : goal.invariant-loop-first
invariant-loop-first l = record {
  ahead : IsAhead l.ahead l.text;
  first : l.first ≡ l.ahead.len + next_spaces l.ahead.count l.spaces;
  spaces : l.ahead.spaces ≡ l.spaces;
  few : l.ahead.count ≤ l.ahead.len;
}

abbrev pub decreases-loop-first : goal.decreases-loop-first
decreases-loop-first l = length l.text - l.ahead.len
