use Rattle.std.proofs.Common.{◌≡◌, ◌-◌, ◌≤◌, length, drop, IsUtf8}
use Rattle.std.specs.Str.{IsCharBoundary}
use Rattle.cm_scan.specs.Words.{trim_start}
use Rattle.cm_scan.proofs.gaps.after_blanks.Given as goal

abbrev pub invariant-loop-end : goal.invariant-loop-end
invariant-loop-end l = record {
  skipped : trim_start (drop l.end l.text) ≡ trim_start (drop l.at l.text);
  within : l.end ≤ length l.text;
  boundary : IsUtf8 l.text → IsCharBoundary l.text l.at → IsCharBoundary l.text l.end;
}

abbrev pub decreases-loop-end : goal.decreases-loop-end
decreases-loop-end l = length l.text - l.end
