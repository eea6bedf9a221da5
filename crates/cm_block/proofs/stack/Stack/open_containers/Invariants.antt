use Rattle.std.proofs.Common.{◌≡◌, ◌≤◌, ◌+◌, ◌-◌, true, length}
use Rattle.cm_text.specs.Views.{seen_view}
use Rattle.cm_scan.specs.blocks.Lines.{is_blank}
use Rattle.cm_block.specs.steps.LineTests.{Tested}
use Rattle.cm_block.specs.Stack.{Owned}
use Rattle.cm_block.specs.steps.FrameSteps.{closed_to}
use Rattle.cm_block.specs.steps.FrameStarts.{begun_by, left_of}
use Rattle.cm_block.proofs.stack.Stack.open_containers.Given as goal

-- what is left in the innermost of the containers that stay comes to the same, and each container was one
-- reading
abbrev pub invariant-loop-kept : goal.invariant-loop-kept
invariant-loop-kept l = record {
  within : l.kept ≤ length l.self.frames;
  none : l.self.bare ≡ true → is_blank (seen_view l.line.rest) ≡ true;
  left : (owned : Owned) → begun_by l.rules (closed_to l.depth l.fn.self) (seen_view l.fn.line.rest) owned ≡ left_of l.rules (closed_to l.kept l.self) (seen_view l.line.rest) owned;
  deeper : l.depth ≤ l.kept;
  tests : Tested (l.kept - l.depth) (l.kept - l.depth) l.fn.line.tests l.line.tests;
}

abbrev pub decreases-loop-kept : goal.decreases-loop-kept
decreases-loop-kept l = l.limit + 1 - l.kept
