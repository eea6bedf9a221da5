use Rattle.cm_inline.proofs.lemmas.Words.{◌≤◌, ◌++◌, List, ℕ, sym, ap, ◌∙◌, arith, append_assoc, next_place}
use Rattle.cm_html.specs.Elements.{start_tag, end_tag}
use Rattle.cm_html.specs.declared.elements.Element.TheVariants.{Code}
use Rattle.cm_inline.specs.steps.Marks.{is_changed_in_code}
use Rattle.cm_inline.proofs.lemmas.CodeLemmas.{unchanged-line}
use Rattle.cm_inline.proofs.lemmas.HtmlLemmas.{on-ok}
use Rattle.cm_inline.proofs.html_texts.push_code.Goals as goal

pub returns : goal.returns
returns c = record {
  pushed = let source = c.args.source.now in
      let html : List ℕ = c.args.html.now in
      let text = c.range-text.result.now in
      let start = c.start.result.now in
      let stop = c.end.result.now in
      let low : c.args.to ≤ next_place is_changed_in_code source c.args.from = omega (arith, c.if-next_changed-to.false, c.next_changed.ensures.next ∙ ap (λ t. next_place is_changed_in_code t c.args.from) c.as_bytes.ensures.value) in
      let same = unchanged-line source c.args.from c.args.to low ∙ sym c.range-text.ensures.value in
      on-ok c.push_str-3.result c.push_str-3.ensures
      (λ e. e
      ∙ ap (λ t. t ++ stop) (c.in_ok-push_str-2.ensures ∙ ap (λ t. t ++ text) c.in_ok-push_str.ensures ∙ append_assoc html start text)
      ∙ append_assoc html (start ++ text) stop
      ∙ ap (λ t. html ++ ((t ++ text) ++ stop)) c.start.ensures
      ∙ ap (λ t. html ++ ((start_tag Code ++ text) ++ t)) c.end.ensures
      ∙ ap (λ t. html ++ ((start_tag Code ++ t) ++ end_tag Code)) (sym same));
}
