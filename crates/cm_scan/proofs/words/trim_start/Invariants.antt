use Rattle.std.proofs.Common.{◌≡◌, ◌-◌, length, drop}
use Rattle.std.specs.Str.{IsCharBoundary}
use Rattle.cm_scan.specs.Words.{trim_start}
use Rattle.cm_scan.proofs.words.trim_start.Given as goal

abbrev pub invariant-loop-start : goal.invariant-loop-start
invariant-loop-start l = record {
  trimmed : trim_start (drop l.start l.bytes) ≡ trim_start l.bytes;
  boundary : IsCharBoundary l.bytes l.start;
}

abbrev pub decreases-loop-start : goal.decreases-loop-start
decreases-loop-start l = length l.bytes - l.start
