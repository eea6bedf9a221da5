use Rattle.std.proofs.Common.{rules, ◌≡◌, get_or, flat_map}
use Rattle.cm_html.proofs.lemmas.WritingLemmas.{page_first, next_sent, next_lost, piece_fits}
use Rattle.cm_html.proofs.writing.add_full.Goals as goal

pub add_page-requires-clause-counted : goal.add_page-requires-clause-counted
add_page-requires-clause-counted g c =
    let page = c.page-item.result in
    let here : get_or c.args.pages.now c.loop-page.page-index page ≡ page = search rules in
    piece_fits c.args.out.now c.loop-page.out _ _ _ _ c.loop-page.invariant (flat_map g.K.Phrases.written page) _
    (page_first g.K.Phrases.written c.args.pages.now c.loop-page.page-index page c.loop-page-test.true here) _ c.requires.counted

pub returns-in-Err : goal.returns-in-Err
returns-in-Err g c =
    let page = c.page-item.result in
    let here : get_or c.args.pages.now c.loop-page.page-index page ≡ page = search rules in
    next_lost c.args.out.now c.loop-page.out _ _ _ _ c.loop-page.invariant _ _
    (page_first g.K.Phrases.written c.args.pages.now c.loop-page.page-index page c.loop-page-test.true here) c.add_page.new.out _ c.in-Err.failed c.in-Err.ensures

pub loop-page-preserved : goal.loop-page-preserved
loop-page-preserved g c =
    let page = c.page-item.result in
    let here : get_or c.args.pages.now c.loop-page.page-index page ≡ page = search rules in
    next_sent c.args.out.now c.loop-page.out _ _ _ _ c.loop-page.invariant _ _
    (page_first g.K.Phrases.written c.args.pages.now c.loop-page.page-index page c.loop-page-test.true here) c.add_page.new.out _ c.in-Ok.ensures
