use Rattle.std.proofs.Common.{false, ◌≡◌, ◌∙◌, sym, ap}
use Rattle.std.specs.Prelude.{◌&&◌}
use Rattle.cm_text.specs.Lines.{LineView}
use Rattle.cm_text.specs.Views.{seen_view}
use Rattle.cm_scan.specs.blocks.Lines.{is_blank}
use Rattle.cm_scan.specs.blocks.Starts.{Stays, continuation_if_lazy, continuation_in_item}
use Rattle.cm_block.proofs.lemmas.ContinuationLemmas.{in_item_lazy, in_item_ends, in_item_with_more}
use Rattle.cm_block.proofs.counted_line.CountedLine.stays_in_item.Goals as goal

pub returns-then-is_lazy-clause-continuation : goal.returns-then-is_lazy-clause-continuation
returns-then-is_lazy-clause-continuation c by =
    let same = c.with_columns-line.ensures ∙ ap seen_view c.read.ensures.line in
    in_item_lazy by c.args.column c.args.bare (seen_view c.args.self.now.rest) (ap (λ (v : LineView). v.lazy) (sym same) ∙ sym c.is_lazy.ensures ∙ c.if-is_lazy.true)

pub returns-in_default-clause-continuation : goal.returns-in_default-clause-continuation
returns-in_default-clause-continuation c by =
    let same = c.with_columns-line.ensures ∙ ap seen_view c.read.ensures.line in
    in_item_ends by c.args.column c.args.bare (seen_view c.args.self.now.rest) (ap (λ (v : LineView). v.lazy) (sym same) ∙ sym c.is_lazy.ensures ∙ c.if-is_lazy.false)
    (ap (λ (v : LineView). c.args.bare && is_blank v) (sym same) ∙ c.in_default.ensures.ends)

pub returns-in_default-inside_item-clause-continuation : goal.returns-in_default-inside_item-clause-continuation
returns-in_default-inside_item-clause-continuation c by =
    let same = c.with_columns-line.ensures ∙ ap seen_view c.read.ensures.line in
    let inside = ap seen_view c.in-Some.ensures.same ∙ same in
    in_item_with_more by c.args.column c.args.bare (seen_view c.args.self.now.rest) (ap (λ (v : LineView). v.lazy) (sym same) ∙ sym c.is_lazy.ensures ∙ c.if-is_lazy.false)
    (ap (λ (v : LineView). c.args.bare && is_blank v) (sym same) ∙ c.in-Some.ensures.stays)
    ∙ ap (continuation_in_item by c.args.column false) (sym inside) ∙ c.in_default-inside_item.ensures.continuation by ∙ ap (continuation_if_lazy by) inside

pub returns-clause-continuation : goal.returns-clause-continuation
returns-clause-continuation c by =
    let same = c.with_columns-line.ensures ∙ ap seen_view c.read.ensures.line in
    let inside = ap seen_view c.in-Some.ensures.same ∙ same in
    in_item_with_more by c.args.column c.args.bare (seen_view c.args.self.now.rest) (ap (λ (v : LineView). v.lazy) (sym same) ∙ sym c.is_lazy.ensures ∙ c.if-is_lazy.false)
    (ap (λ (v : LineView). c.args.bare && is_blank v) (sym same) ∙ c.in-Some.ensures.stays)
    ∙ ap (continuation_in_item by c.args.column false) (sym inside) ∙ c.in-Some-inside_item.ensures.continuation by ∙ ap Stays (ap seen_view (sym c.enter.ensures.line))
