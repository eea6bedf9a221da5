use Rattle.std.proofs.Common.{rules, ◌≡◌, ◌+◌, ◌∷◌, drop, get_or, subst}
use Rattle.cm_html.specs.steps.Pages.{AreInOrder}
use Rattle.cm_html.proofs.lemmas.PageLemmas.{first_place}
use Rattle.cm_html.proofs.lemmas.WritingLemmas.{next_item}
use Rattle.cm_html.proofs.page.Page.push_to.Goals as goal

pub range-requires-clause-end_boundary : goal.range-requires-clause-end_boundary
range-requires-clause-end_boundary c =
    let is = c.as_slice-insertions.result.now in
    let at = c.loop-insertion.insertion-index in
    let text = c.as_str-text.result.now in
    let i = c.insertion-item.result in
    let here : get_or is at i ≡ i = search rules in
    let order : AreInOrder c.loop-insertion.from text (i ∷ drop (at + 1) is) =
    subst (AreInOrder c.loop-insertion.from text) (next_item is at i c.loop-insertion-test.true here) c.loop-insertion.invariant.order in
    first_place i.place text (drop (at + 1) is) order.2
