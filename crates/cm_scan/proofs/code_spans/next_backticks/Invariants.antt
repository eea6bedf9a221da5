use Rattle.std.proofs.Common.{◌≡◌, ◌+◌, ◌-◌, ◌*◌, ◌≤◌, false, length, drop}
use Rattle.cm_scan.specs.spans.CodeSpans.{up_to_run}
use Rattle.cm_scan.proofs.lemmas.links.BracketedParts.{ahead_from}
use Rattle.cm_scan.proofs.code_spans.next_backticks.Given as goal

-- what was skipped, and the part that is read from here on, come to the whole
abbrev pub invariant-loop-plain : goal.invariant-loop-plain
invariant-loop-plain g l = record {
  read : ahead_from l.text l.from l.at (up_to_run l.count false (drop l.at l.text)) ≡ up_to_run l.count false (drop l.from l.text);
  within : (l.from ≤ l.at) × (l.at ≤ length l.text);
  looks : l.looks + 18 * l.from ≤ l.fn.looks + 18 * l.at;
}

abbrev pub decreases-loop-plain : goal.decreases-loop-plain
decreases-loop-plain g l = length l.text - l.at
