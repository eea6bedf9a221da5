use Rattle.std.proofs.Common.{◌≡◌, ◌-◌, ◌≤◌, false, length, drop}
use Rattle.cm_scan.specs.inlines.Links.{bare_run}
use Rattle.cm_scan.proofs.lemmas.links.BracketedParts.{ahead_from}
use Rattle.cm_scan.proofs.links.bare_end.Given as goal

-- what was skipped, and the run that is read from here on, come to the whole
abbrev pub invariant-loop-at : goal.invariant-loop-at
invariant-loop-at l = record {
  read : ahead_from l.text l.from l.at (bare_run l.opened l.escaped (drop l.at l.text)) ≡ bare_run 0 false (drop l.from l.text);
  within : (l.from ≤ l.at) × (l.at ≤ length l.text);
  few : l.opened ≤ 32;
}

abbrev pub decreases-loop-at : goal.decreases-loop-at
decreases-loop-at l = length l.text - l.at
