use Rattle.std.proofs.Common.{refl, ◌∙◌, sym, ap}
use Rattle.cm_text.specs.Views.{seen_view}
use Rattle.cm_scan.specs.blocks.Starts.{ItemStart, continuation_if_lazy}
use Rattle.cm_scan.specs.laws.PartLaws.{goes_inward}
use Rattle.cm_block.proofs.lemmas.ContinuationLemmas.{lazy_closed, lazy_blank, lazy_other}
use Rattle.cm_block.specs.steps.ContinuationViews.{seen_marker}
use Rattle.cm_block.proofs.lemmas.PlainItems.{plain_starts, plain_shows}
use Rattle.cm_block.proofs.counted_line.continuations.can_be_lazy.Goals as goal

pub returns-then-not-open_text : goal.returns-then-not-open_text
returns-then-not-open_text c =
    lazy_closed _ (seen_view c.args.line.now) ∙ ap (goes_inward (continuation_if_lazy c.args.rules (seen_view c.args.line.now))) (sym c.if-not-open_text.true)

pub returns-in-Some : goal.returns-in-Some
returns-in-Some c =
    let line = c.args.line.now in
    let marker = seen_marker c.in-Some.field-0.0 in
    let end = c.in-Some.field-0.1 in
    ap (λ p. goes_inward p c.args.open_text)
    (lazy_other c.args.rules (seen_view line) (ItemStart marker) (plain_shows line marker end c.in-Some.ensures) (sym (plain_starts line marker end c.in-Some.ensures c.args.rules)) refl)

pub returns-then-is_blank : goal.returns-then-is_blank
returns-then-is_blank c =
    ap (λ p. goes_inward p c.args.open_text) (lazy_blank _ (seen_view c.args.line.now) (sym c.is_blank.ensures ∙ c.if-is_blank.true))

pub returns : goal.returns
returns c = c.begins_lazily.ensures ∙ ap (goes_inward (continuation_if_lazy c.args.rules (seen_view c.args.line.now))) (sym c.if-not-open_text.false)
