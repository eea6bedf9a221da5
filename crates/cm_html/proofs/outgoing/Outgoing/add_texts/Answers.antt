use Rattle.std.proofs.Common.{◌++◌, subst, sym, flat_map}
use Rattle.std.proofs.lemmas.List.Concat.{flat_map-append}
use Rattle.cm_html.specs.steps.Pages.{Adds}
use Rattle.cm_html.proofs.lemmas.WritingLemmas.{both, all_left, piece_fits}
use Rattle.cm_html.proofs.outgoing.Outgoing.add_texts.Goals as goal

pub add_text-requires-clause-counted : goal.add_text-requires-clause-counted
add_text-requires-clause-counted g c =
    let f = g.K.Phrases.written in
    let here = g.W.Sink.seen c.args.sink.now in
    let all = flat_map f (c.args.first.now ++ c.args.second.now) in
    piece_fits c.args.self.now c.args.self.now all all here here (all_left c.args.self.now all here) (flat_map f c.args.first.now) (flat_map f c.args.second.now)
    (sym (flat_map-append f c.args.first.now c.args.second.now)) _ c.requires.counted

pub returns : goal.returns
returns g c =
    let f = g.K.Phrases.written in
    subst (λ t. Adds c.add_text-2.result c.args.self.now c.add_text-2.new.self t (g.W.Sink.seen c.args.sink.now) (g.W.Sink.seen c.add_text-2.new.sink))
    (sym (flat_map-append f c.args.first.now c.args.second.now))
    (both _ _ (flat_map f c.args.first.now) (flat_map f c.args.second.now) c.args.self.now c.add_text.new.self c.in_ok-add_text.ensures c.add_text-2.result c.add_text-2.new.self _ c.add_text-2.ensures)
