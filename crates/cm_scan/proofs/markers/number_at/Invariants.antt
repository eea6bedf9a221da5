use Rattle.std.proofs.Common.{◌≡◌, ◌+◌, ◌-◌, ◌<◌, ◌≤◌, drop, length}
use Rattle.std.specs.List.{fold}
use Rattle.std.specs.Char.{is_ascii_digit}
use Rattle.cm_scan.specs.Words.{front_of, skip}
use Rattle.cm_scan.specs.blocks.LineForms.{decimal_value, most_digits}
use Rattle.cm_scan.specs.steps.LineSteps.{with_digit}
use Rattle.cm_scan.proofs.lemmas.blocks.MarkerLemmas.{bound}
use Rattle.cm_scan.proofs.markers.number_at.Given as goal

abbrev pub invariant-loop-end : goal.invariant-loop-end
invariant-loop-end l = record {
  begin : l.at ≤ l.end;
  within : l.end ≤ length l.bytes;
  count : l.end + length (front_of is_ascii_digit (drop l.end l.bytes)) ≡ l.at + length (front_of is_ascii_digit (drop l.at l.bytes));
  value : fold with_digit l.number (front_of is_ascii_digit (drop l.end l.bytes)) ≡ decimal_value (front_of is_ascii_digit (drop l.at l.bytes));
  left : skip is_ascii_digit (drop l.end l.bytes) ≡ skip is_ascii_digit (drop l.at l.bytes);
  few : l.end - l.at ≤ most_digits;
  fits : l.number < bound (l.end - l.at);
}

abbrev pub decreases-loop-end : goal.decreases-loop-end
decreases-loop-end l = length l.bytes - l.end
