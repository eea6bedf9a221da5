use Rattle.std.proofs.Common.{◌≡◌, take}
use Rattle.std.specs.Str.{IsCharBoundary}
use Rattle.cm_scan.specs.Words.{trim_end_by}
use Rattle.cm_scan.specs.steps.LineSteps.{is_trimmed}
use Rattle.cm_scan.proofs.words.trim_end_by.Given as goal

abbrev pub invariant-loop-end : goal.invariant-loop-end
invariant-loop-end l = record {
  trimmed : trim_end_by (is_trimmed l.tabs) (take l.end l.bytes) ≡ trim_end_by (is_trimmed l.tabs) l.bytes;
  boundary : IsCharBoundary l.bytes l.end;
}

abbrev pub decreases-loop-end : goal.decreases-loop-end
decreases-loop-end l = l.end
