use Rattle.std.proofs.Common.{subst, sym, arith}
use Rattle.std.proofs.lemmas.Grind.{common_steps}
use Rattle.cm_block.specs.steps.FrameViews.{AreFramesPlaced}
use Rattle.cm_block.specs.steps.LevelViews.{IsLevelPlaced}
use Rattle.cm_block.specs.steps.FrameViews.{container_of}
use Rattle.cm_block.proofs.lemmas.QuoteLemmas.{quotes-fit, quotes-pushed}
use Rattle.cm_block.proofs.lemmas.RowLemmas.{one-more-frame}
use Rattle.cm_block.proofs.stack.Stack.open.Goals as goal

pub overflow_add-self : goal.overflow_add-self
overflow_add-self c =
    omega (arith, c.self.inside.counted, c.quotes.ensures, quotes-fit c.self.inside.frames.items (container_of c.args.container), c.self.inside.frames.small)

pub invariant_of-self-inside-2 : goal.invariant_of-self-inside-2
invariant_of-self-inside-2 c =
    (quotes-pushed c.self.inside.frames.items c.push.new.self.items _ c.self.inside.quotes c.quotes.result c.in_ok-push.ensures.items c.self.inside.counted c.quotes.ensures, tt)

pub invariant_of-self : goal.invariant_of-self
invariant_of-self c = (
  subst (AreFramesPlaced c.self.inside.raw) (sym c.in_err-push.ensures.items) c.self.invariant.0,
  subst (IsLevelPlaced c.self.inside.raw) (sym c.replace-level.ensures.after) (c.new-inside.ensures.placed c.self.inside.raw),
)

pub invariant_of-self-2 : goal.invariant_of-self-2
invariant_of-self-2 c = (
  one-more-frame c.self.inside.raw c.self.inside.frames.items c.push.new.self.items _ c.in_ok-push.ensures.items c.self.invariant.0
      (subst (IsLevelPlaced c.self.inside.raw) (sym c.replace-level.ensures.value) c.self.invariant.1),
  subst (IsLevelPlaced c.self.inside.raw) (sym c.replace-level.ensures.after) (c.new-inside.ensures.placed c.self.inside.raw),
)

pub returns-clause-frames : goal.returns-clause-frames
returns-clause-frames c = grind (arith, common_steps)

pub returns-clause-level : goal.returns-clause-level
returns-clause-level c = grind (arith, common_steps)
