use Rattle.std.proofs.Common.{rules, ◌≡◌, ◌∙◌, ◌++◌, ap, length, string_bytes, subst, sym}
use Rattle.cm_html.specs.steps.Pages.{with_insertions, AreInOrder}
use Rattle.cm_html.proofs.lemmas.PageLemmas.{insertion_after, order_after}
use Rattle.cm_html.proofs.page.Page.push_insertion.Goals as goal

pub invariant_of-self-2 : goal.invariant_of-self-2
invariant_of-self-2 c =
    let text = string_bytes c.self.inside.text in
    let at : c.len-place.result ≡ length text = search (rules, c.len-place.ensures) in
    subst (AreInOrder 0 text) (sym c.in_ok-push.ensures.items) (order_after 0 text c.self.inside.insertions.items _ at c.self.invariant)

pub returns : goal.returns
returns c =
    let text = string_bytes c.self.inside.text in
    let at : c.len-place.result ≡ length text = search (rules, c.len-place.ensures) in
    ap (with_insertions 0 text) c.in_ok-push.ensures.items ∙ insertion_after 0 text c.self.inside.insertions.items _ at c.self.invariant ∙ ap (λ t. t ++ c.args.text) c.self.view_is
