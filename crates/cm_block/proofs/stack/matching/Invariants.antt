use Rattle.std.proofs.Common.{◌≡◌, drop}
use Rattle.cm_text.specs.Views.{seen_view}
use Rattle.cm_block.specs.steps.FrameSteps.{matching, beyond}
use Rattle.cm_tree.specs.RawBlocks.{Raw}
use Rattle.cm_block.specs.steps.FrameViews.{frames_in}
use Rattle.cm_block.specs.steps.LineTests.{Tested}
use Rattle.cm_block.proofs.stack.matching.Given as goal

-- after the containers so far, the rest decide; each was one reading
abbrev pub invariant-loop-depth : goal.invariant-loop-depth
invariant-loop-depth l = record {
  rest : (raw : Raw) → beyond l.depth (matching l.rules l.bare l.open_text (drop l.depth (frames_in raw l.frames)) (seen_view l.line.rest))
      ≡ matching l.rules l.bare l.open_text (frames_in raw l.frames) (seen_view l.fn.line.rest);
  tests : Tested 0 l.depth l.fn.line.tests l.line.tests;
}
