use Rattle.std.proofs.Common.{rules, ◌≡◌, ◌∙◌, ◌++◌, ◌+◌, ◌<◌, ◌∷◌, ap, drop, get_or, length, subst, sym, arith, flat_map}
use Rattle.std.proofs.lemmas.List.{drop_all, take_rest}
use Rattle.cm_html.specs.steps.Pages.{Adds, AreInOrder, with_insertions}
use Rattle.cm_html.proofs.lemmas.PageLemmas.{first_place}
use Rattle.cm_html.proofs.lemmas.WritingLemmas.{insertion_first, last_sent, left_fits, next_item, next_lost, next_sent, piece_fits}
use Rattle.cm_html.proofs.writing.add_page.Goals as goal

pub slice_bounds-add_texts-end : goal.slice_bounds-add_texts-end
slice_bounds-add_texts-end g c =
    let is = c.as_slice-insertions.result.now in
    let at = c.loop-insertion.insertion-index in
    let text = c.as_bytes-text.result.now in
    let i = c.insertion-item.result in
    let here : get_or is at i ≡ i = search rules in
    let order : AreInOrder c.loop-insertion.from text (i ∷ drop (at + 1) is) =
    subst (AreInOrder c.loop-insertion.from text) (next_item is at i c.loop-insertion-test.true here) c.loop-insertion.invariant.order in
    omega (arith, order.1, (first_place i.place text (drop (at + 1) is) order.2).0)

pub add_texts-requires-clause-counted : goal.add_texts-requires-clause-counted
add_texts-requires-clause-counted g c =
    let is = c.as_slice-insertions.result.now in
    let at = c.loop-insertion.insertion-index in
    let i = c.insertion-item.result in
    let here : get_or is at i ≡ i = search rules in
    piece_fits c.args.out.now c.loop-insertion.out _ _ _ _ c.loop-insertion.invariant.left _ _
    (insertion_first g.K.Phrases.written c.loop-insertion.from at c.as_bytes-text.result.now c.as_bytes-inserted.result.now is i c.loop-insertion-test.true here
    (c.as_bytes-inserted.ensures.value ∙ c.as_str.ensures)) _ c.requires.counted

pub returns-in-Err : goal.returns-in-Err
returns-in-Err g c =
    let is = c.as_slice-insertions.result.now in
    let at = c.loop-insertion.insertion-index in
    let i = c.insertion-item.result in
    let here : get_or is at i ≡ i = search rules in
    next_lost c.args.out.now c.loop-insertion.out _ _ _ _ c.loop-insertion.invariant.left _ _
    (insertion_first g.K.Phrases.written c.loop-insertion.from at c.as_bytes-text.result.now c.as_bytes-inserted.result.now is i c.loop-insertion-test.true here
    (c.as_bytes-inserted.ensures.value ∙ c.as_str.ensures)) c.add_texts.new.self _ c.in-Err.failed c.in-Err.ensures

pub loop-insertion-preserved : goal.loop-insertion-preserved
loop-insertion-preserved g c =
    let is = c.as_slice-insertions.result.now in
    let at = c.loop-insertion.insertion-index in
    let i = c.insertion-item.result in
    let here : get_or is at i ≡ i = search rules in
    let order : AreInOrder c.loop-insertion.from c.as_bytes-text.result.now (i ∷ drop (at + 1) is) =
    subst (AreInOrder c.loop-insertion.from c.as_bytes-text.result.now) (next_item is at i c.loop-insertion-test.true here) c.loop-insertion.invariant.order in
    record {
      left = next_sent c.args.out.now c.loop-insertion.out _ _ _ _ c.loop-insertion.invariant.left _ _
          (insertion_first g.K.Phrases.written c.loop-insertion.from at c.as_bytes-text.result.now c.as_bytes-inserted.result.now is i c.loop-insertion-test.true here
          (c.as_bytes-inserted.ensures.value ∙ c.as_str.ensures)) c.add_texts.new.self _ c.in-Ok.ensures;
      order = order.2;
    }

pub add_text-requires-clause-counted : goal.add_text-requires-clause-counted
add_text-requires-clause-counted g c =
    let f = g.K.Phrases.written in
    let is = c.as_slice-insertions.result.now in
    let at = c.loop-insertion.insertion-index in
    let text = c.as_bytes-text.result.now in
    let from = c.loop-insertion.from in
    subst (λ t. c.loop-insertion.out.written + length (c.loop-insertion.out.waiting.items ++ flat_map f t) < 18446744073709551616)
    (ap (with_insertions from text) (drop_all at is c.loop-insertion-test.false) ∙ sym (take_rest text from))
    (left_fits c.args.out.now c.loop-insertion.out _ _ _ _ c.loop-insertion.invariant.left _ c.requires.counted)

pub returns : goal.returns
returns g c =
    let f = g.K.Phrases.written in
    let is = c.as_slice-insertions.result.now in
    let at = c.loop-insertion.insertion-index in
    let text = c.as_bytes-text.result.now in
    let from = c.loop-insertion.from in
    last_sent c.args.out.now c.loop-insertion.out _ _ _ _ c.loop-insertion.invariant.left c.add_text.result c.add_text.new.self _
    (subst (λ t. Adds c.add_text.result c.loop-insertion.out c.add_text.new.self (flat_map f t) (g.W.Sink.seen c.loop-insertion.sink) (g.W.Sink.seen c.add_text.new.sink))
    (take_rest text from ∙ sym (ap (with_insertions from text) (drop_all at is c.loop-insertion-test.false))) c.add_text.ensures)
