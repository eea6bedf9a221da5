use Rattle.std.proofs.Common.{◌∙◌, sym, ap}
use Rattle.cm_text.specs.Views.{seen_view}
use Rattle.cm_text.specs.declared.view.View.{View}
use Rattle.cm_scan.specs.blocks.Starts.{Stays, start_of, after_quote_marker}
use Rattle.cm_block.specs.steps.ContinuationViews.{begins_quote}
use Rattle.cm_block.proofs.lemmas.ContinuationLemmas.{in_quote_as, in_quote_if_lazy}
use Rattle.cm_block.proofs.counted_line.CountedLine.stays_in_quote.Goals as goal

pub returns-in_default-clause-continuation : goal.returns-in_default-clause-continuation
returns-in_default-clause-continuation c by =
    in_quote_if_lazy by (seen_view c.args.self.now.rest) (ap (λ (v : View). begins_quote (start_of by (seen_view v))) (sym c.read.ensures.line) ∙ c.in_default.ensures by)

pub returns-clause-continuation : goal.returns-clause-continuation
returns-clause-continuation c by =
    let h = c.in-Some.ensures by in
    in_quote_as by (seen_view c.args.self.now.rest) (ap (λ (v : View). start_of by (seen_view v)) (sym c.read.ensures.line) ∙ h.0)
    ∙ ap Stays (ap (λ (v : View). after_quote_marker (seen_view v)) (sym c.read.ensures.line) ∙ sym h.1 ∙ ap seen_view (sym c.enter.ensures.line))
