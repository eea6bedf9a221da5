use Rattle.std.proofs.Common.{◌≡◌, true, IfSome, subst, ◌∙◌, sym, ap, arith}
use Rattle.std.specs.Str.{IsCharBoundary}
use Rattle.cm_text.specs.Views.{seen_view}
use Rattle.cm_scan.specs.Words.{begins_with, given}
use Rattle.cm_block.specs.steps.ContinuationViews.{begins_quote}
use Rattle.cm_block.proofs.lemmas.StartLemmas.{starts_lazy, starts_code, starts_near, content_left, is_there, is_not_there}
use Rattle.cm_block.proofs.lemmas.MarkerPlaces.{no_quote, a-quote, quote_plain}
use Rattle.cm_block.proofs.lemmas.ContinuationLemmas.{past_content, after_quote}
use Rattle.cm_block.proofs.counted_line.continuations.quote_content.Goals.{After-strip}
use Rattle.cm_block.proofs.counted_line.continuations.quote_content.Goals as goal

pub returns-then-is_none : goal.returns-then-is_none
returns-then-is_none c by =
    let none = is_not_there (begins_with 62 c.content.result.now) 1 c.quote_marker.result c.quote_marker.ensures.marker (sym c.if-is_none.ensures) in
    no_quote by (seen_view c.args.line.now) (ap (begins_with 62) (sym c.content.ensures.content) ∙ none)

pub returns-then-line : goal.returns-then-line
returns-then-line c by = ap begins_quote (sym (starts_lazy by (seen_view c.args.line.now) c.if-line.true))

pub returns-then-indent-ge4 : goal.returns-then-indent-ge4
returns-then-indent-ge4 c by =
    ap begins_quote (sym (starts_code by (seen_view c.args.line.now) c.if-line.false (omega (arith, c.indent_of-indent.ensures, c.if-indent-ge4.true))))

-- its marker is at the start of what is left
there : (c : After-strip) → begins_with 62 c.content.result.now ≡ true
there c = is_there (begins_with 62 c.content.result.now) 1 c.quote_marker.result c.quote_marker.ensures.marker (sym c.if-is_none.ensures)

left : (c : After-strip) → c.content.result.now ≡ c.strip.result.rest.now
left c =
    c.content.ensures.content
    ∙ sym (content_left (seen_view c.args.line.now) c.indent_of-indent.result c.strip.result c.indent_of-indent.ensures c.strip.ensures.line
    (c.strip.ensures.bare (omega (arith, c.indent_of-indent.ensures))))

pub past-requires-clause-boundary : goal.past-requires-clause-boundary
past-requires-clause-boundary c =
    let at = (goal.at.past-requires-clause-boundary c).After-strip in
    let text = c.content.result.now in
    subst (λ t. IsCharBoundary t 1) (left at)
    (subst (λ r. IfSome r (λ end. IsCharBoundary text end)) (c.quote_marker.ensures.marker ∙ ap (λ b. given b 1) (there at)) c.quote_marker.ensures.boundary)

pub past-requires-clause-plain : goal.past-requires-clause-plain
past-requires-clause-plain c =
    let at = (goal.at.past-requires-clause-plain c).After-strip in
    quote_plain c.strip.result.rest.now (ap (begins_with 62) (sym (left at)) ∙ there at)

pub returns : goal.returns
returns c by =
    let line = seen_view c.args.line.now in
    let none = c.strip.ensures.bare (omega (arith, c.indent_of-indent.ensures)) in
    let at = (goal.at.returns c).After-strip in
    let start = starts_near by line c.indent_of-indent.result c.strip.result c.if-line.false c.indent_of-indent.ensures (omega (arith, c.if-indent-ge4.false)) c.strip.ensures.line none in
    let beyond = c.past.ensures ∙ past_content line c.indent_of-indent.result 1 c.strip.result c.indent_of-indent.ensures c.strip.ensures.line none in (
      sym start ∙ a-quote by c.strip.result.rest.now (ap (begins_with 62) (sym (left at)) ∙ there at),
      after_quote line (seen_view c.strip-2.result) c.past.result beyond c.strip-2.ensures.line,
    )
