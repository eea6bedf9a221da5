use Rattle.std.proofs.Common.{◌+◌, ◌<◌, ◌++◌, length, subst, sym, flat_map}
use Rattle.std.specs.List.{concat}
use Rattle.std.proofs.lemmas.List.Concat.{flat_map-append}
use Rattle.cm_html.specs.steps.Pages.{Adds}
use Rattle.cm_html.proofs.lemmas.WritingLemmas.{both, all_left, piece_fits, still_fits}
use Rattle.cm_html.proofs.writing.add_all.Goals as goal

pub add_full-requires-clause-counted : goal.add_full-requires-clause-counted
add_full-requires-clause-counted g c =
    let f = g.K.Phrases.written in
    let here = g.W.Sink.seen c.args.sink.now in
    let all = flat_map f (concat c.args.full.now ++ c.args.last.now) in
    piece_fits c.args.out.now c.args.out.now all all here here (all_left c.args.out.now all here) (flat_map f (concat c.args.full.now)) (flat_map f c.args.last.now)
    (sym (flat_map-append f (concat c.args.full.now) c.args.last.now)) _ c.requires.counted

pub add_page-requires-clause-counted : goal.add_page-requires-clause-counted
add_page-requires-clause-counted g c =
    let f = g.K.Phrases.written in
    still_fits _ _ (flat_map f (concat c.args.full.now)) (flat_map f c.args.last.now) c.args.out.now c.add_full.new.out c.in_ok-add_full.ensures _
    (subst (λ t. c.args.out.now.written + length (c.args.out.now.waiting.items ++ t) < 18446744073709551616) (flat_map-append f (concat c.args.full.now) c.args.last.now) c.requires.counted)

pub returns : goal.returns
returns g c =
    let f = g.K.Phrases.written in
    subst (λ t. Adds c.add_page.result c.args.out.now c.add_page.new.out t (g.W.Sink.seen c.args.sink.now) (g.W.Sink.seen c.add_page.new.sink))
    (sym (flat_map-append f (concat c.args.full.now) c.args.last.now))
    (both _ _ (flat_map f (concat c.args.full.now)) (flat_map f c.args.last.now) c.args.out.now c.add_full.new.out c.in_ok-add_full.ensures c.add_page.result c.add_page.new.out _ c.add_page.ensures)
