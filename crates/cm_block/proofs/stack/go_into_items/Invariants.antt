use Rattle.std.proofs.Common.{◌≡◌, Bool, false, drop}
use Rattle.cm_text.specs.Rules as all
use Rattle.cm_block.specs.Prelude.{Raw, seen_view}
use Rattle.cm_block.specs.steps.FrameSteps.{matching, beyond}
use Rattle.cm_block.specs.steps.FrameViews.{frames_in}
use Rattle.cm_block.proofs.stack.go_into_items.Given as goal

-- after the items so far, the rest decide; each was one reading
abbrev pub invariant-loop-depth : goal.invariant-loop-depth
invariant-loop-depth l = record {
  through : (rules : all.Rules) (open_text : Bool) (raw : Raw)
      → beyond l.depth (matching rules false open_text (drop l.depth (frames_in raw l.frames)) (seen_view l.line.inner))
      ≡ matching rules false open_text (frames_in raw l.frames) (seen_view l.fn.line.inner);
  lazy : l.line.inner.lazy ≡ false;
  tests : l.line.tests ≡ l.depth;
}
