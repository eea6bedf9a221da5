use Rattle.std.proofs.Common.{subst, sym}
use Rattle.cm_block.specs.steps.FrameViews.{AreFramesPlaced}
use Rattle.cm_block.proofs.stack.Stack.new.Goals as goal

pub invariant_of-result-2 : goal.invariant_of-result-2
invariant_of-result-2 c = (subst (AreFramesPlaced c.new-5.result) (sym c.new-2.ensures.items) tt, c.new-4.ensures.placed c.new-5.result)
