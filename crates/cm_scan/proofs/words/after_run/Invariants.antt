use Rattle.std.proofs.Common.{◌≡◌, ◌+◌, ◌-◌, ◌<◌, ◌≤◌, drop, length}
use Rattle.std.specs.Str.{IsCharBoundary}
use Rattle.cm_scan.specs.Words.{run_length, after_run}
use Rattle.cm_scan.proofs.words.after_run.Given as goal

abbrev pub invariant-loop-end : goal.invariant-loop-end
invariant-loop-end l = record {
  within : l.end ≤ length l.bytes;
  counted : l.end + run_length l.marker (drop l.end l.bytes) ≡ l.at + run_length l.marker (drop l.at l.bytes);
  left : after_run l.marker (drop l.end l.bytes) ≡ after_run l.marker (drop l.at l.bytes);
  boundary : l.marker < 128 → IsCharBoundary l.bytes l.at → IsCharBoundary l.bytes l.end;
}

abbrev pub decreases-loop-end : goal.decreases-loop-end
decreases-loop-end l = length l.bytes - l.end
