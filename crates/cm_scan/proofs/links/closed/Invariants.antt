use Rattle.std.proofs.Common.{◌≡◌, ◌-◌, ◌≤◌, ◌==◌, false, length, drop}
use Rattle.cm_scan.specs.steps.LinkSteps.{is_barred}
use Rattle.cm_scan.proofs.lemmas.links.BracketedParts.{part, ahead_from}
use Rattle.cm_scan.proofs.links.closed.Given as goal

-- what was skipped, and the part that is read from here on, come to the whole
abbrev pub invariant-loop-at : goal.invariant-loop-at
invariant-loop-at l = record {
  read : ahead_from l.text l.from l.at (part (λ c. c == l.bounds.close) (is_barred l.bounds.open l.bounds.one_line) l.left l.bounds.blank_lines l.escaped (drop l.at l.text))
      ≡ part (λ c. c == l.bounds.close) (is_barred l.bounds.open l.bounds.one_line) l.bounds.most l.bounds.blank_lines false (drop l.from l.text);
  within : (l.from ≤ l.at) × (l.at ≤ length l.text);
}

abbrev pub decreases-loop-at : goal.decreases-loop-at
decreases-loop-at l = length l.text - l.at
