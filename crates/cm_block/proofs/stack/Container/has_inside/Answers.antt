use Rattle.std.proofs.Common.{sym, subst}
use Rattle.cm_text.specs.Views.{seen_view}
use Rattle.cm_scan.specs.blocks.Starts.{continuation_if_lazy}
use Rattle.cm_block.specs.steps.FrameSteps.{continuation_in}
use Rattle.cm_block.specs.steps.FrameViews.{container_of}
use Rattle.cm_block.specs.steps.ContinuationViews.{IsInside}
use Rattle.cm_block.proofs.stack.Container.has_inside.Goals as goal

pub returns-in-Quote-clause-continuation : goal.returns-in-Quote-clause-continuation
returns-in-Quote-clause-continuation c by =
    let before = seen_view c.args.line.now.rest in
    subst (λ k. IsInside c.stays_in_quote.result (continuation_in by (container_of k) c.args.bare before) (continuation_if_lazy by before) (seen_view c.stays_in_quote.new.self.rest))
    (sym c.in-Quote.is) (c.stays_in_quote.ensures.continuation by)

pub returns-in-Item-clause-continuation : goal.returns-in-Item-clause-continuation
returns-in-Item-clause-continuation c by =
    let before = seen_view c.args.line.now.rest in
    subst (λ k. IsInside c.stays_in_item.result (continuation_in by (container_of k) c.args.bare before) (continuation_if_lazy by before) (seen_view c.stays_in_item.new.self.rest))
    (sym c.in-Item.is) (c.stays_in_item.ensures.continuation by)
