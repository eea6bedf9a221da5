use Rattle.std.proofs.Common.{◌∙◌, sym, subst, arith, add-one}
use Rattle.cm_text.specs.Views.{seen_view}
use Rattle.cm_text.specs.declared.view.View.{View}
use Rattle.cm_block.specs.steps.FrameSteps.{LeavesNext}
use Rattle.cm_block.specs.steps.FrameViews.{frames_in}
use Rattle.cm_block.proofs.lemmas.Matching.{leaves_item, goes_into_item}
use Rattle.cm_block.proofs.stack.go_into_items.Goals as goal

pub returns-then-not-stays_in-clause-leaves : goal.returns-then-not-stays_in-clause-leaves
returns-then-not-stays_in-clause-leaves c _ raw =
    let frames = c.args.frames.now in
    subst (λ (v : View). LeavesNext (frames_in raw frames) c.loop-depth.depth (seen_view v)) (sym (c.stays_in.ensures.same c.if-not-stays_in.true))
    (leaves_item raw frames c.loop-depth.depth _ c.in-Item.kind c.in-Item.column (seen_view c.loop-depth.line.inner)
    c.loop-depth-test.true c.in-Item.is c.if-not-stays_in.ensures.continuation)

pub loop-depth-preserved : goal.loop-depth-preserved
loop-depth-preserved c = record {
  through = λ rules open_text raw. rw add-one (
      sym (goes_into_item raw c.args.frames.now c.loop-depth.depth _ c.in-Item.kind c.in-Item.column (seen_view c.loop-depth.line.inner)
      c.loop-depth-test.true c.in-Item.is rules open_text (seen_view c.stays_in.new.self.inner) (c.if-not-stays_in.ensures.continuation rules))
      ∙ c.loop-depth.invariant.through rules open_text raw);
  lazy = c.stays_in.ensures.lazy;
  tests = omega (arith, c.stays_in.ensures.tests, c.loop-depth.invariant.tests);
}
