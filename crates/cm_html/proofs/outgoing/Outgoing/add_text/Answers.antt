use Rattle.std.proofs.Common.{◌≡◌, ◌+◌, ◌<◌, ◌++◌, length, subst}
use Rattle.std.specs.Prelude.{flat_map}
use Rattle.cm_html.proofs.lemmas.WritingLemmas.{cut, left_fits, piece_fits, next_sent, next_lost, last_sent}
use Rattle.cm_html.proofs.outgoing.Outgoing.add_text.Goals as goal

pub add_both-requires-clause-counted : goal.add_both-requires-clause-counted
add_both-requires-clause-counted g c =
    piece_fits c.args.self.now c.loop-at.self _ _ _ _ c.loop-at.invariant _ _
    (cut g.K.Phrases.written c.loop-at.rest.now c.split_at.result.0.now c.split_at.result.1.now c.as_bytes.result.now c.in-Some.phrase.now c.in-Some.at c.in-Some.ensures.some.1
    c.split_at.ensures.front c.split_at.ensures.back c.as_bytes.ensures.value)
    _ c.requires.counted

pub loop-at-preserved : goal.loop-at-preserved
loop-at-preserved g c =
    next_sent c.args.self.now c.loop-at.self _ _ _ _ c.loop-at.invariant _ _
    (cut g.K.Phrases.written c.loop-at.rest.now c.split_at.result.0.now c.split_at.result.1.now c.as_bytes.result.now c.in-Some.phrase.now c.in-Some.at c.in-Some.ensures.some.1
    c.split_at.ensures.front c.split_at.ensures.back c.as_bytes.ensures.value)
    c.add_both.new.self _ c.in-Ok.ensures

pub returns-in-Err : goal.returns-in-Err
returns-in-Err g c =
    next_lost c.args.self.now c.loop-at.self _ _ _ _ c.loop-at.invariant _ _
    (cut g.K.Phrases.written c.loop-at.rest.now c.split_at.result.0.now c.split_at.result.1.now c.as_bytes.result.now c.in-Some.phrase.now c.in-Some.at c.in-Some.ensures.some.1
    c.split_at.ensures.front c.split_at.ensures.back c.as_bytes.ensures.value)
    c.add_both.new.self _ c.in-Err.failed c.in-Err.ensures

pub add-requires-clause-counted : goal.add-requires-clause-counted
add-requires-clause-counted g c =
    let none : flat_map g.K.Phrases.written c.loop-at.rest.now ≡ c.loop-at.rest.now = c.first.ensures.none cc in
    subst (λ t. c.loop-at.self.written + length (c.loop-at.self.waiting.items ++ t) < 18446744073709551616) none
    (left_fits c.args.self.now c.loop-at.self _ _ _ _ c.loop-at.invariant _ c.requires.counted)

pub returns : goal.returns
returns g c =
    let none : flat_map g.K.Phrases.written c.loop-at.rest.now ≡ c.loop-at.rest.now = c.first.ensures.none cc in
    last_sent c.args.self.now c.loop-at.self _ _ _ _ c.loop-at.invariant c.add.result c.add.new.self _
    (rw none c.add.ensures)
