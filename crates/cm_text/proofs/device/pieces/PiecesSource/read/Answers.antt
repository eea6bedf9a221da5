use Rattle.std.proofs.Common.{ap, sym, ◌∙◌, arith, length, ◌≤◌, Some, rules, ◌≡◌, ◌+◌, ◌++◌, drop, get_or, min}
use Rattle.std.specs.List.{flat_map}
use Rattle.cm_text.specs.Devices.{next_piece}
use Rattle.cm_text.proofs.lemmas.PiecesLemmas.{joined_next, piece_passed, bytes_given, some_given, some_left, none_left, unwrapped, piece_here, piece_later, piece_none, given_of_piece}
use Rattle.cm_text.proofs.device.pieces.PiecesSource.read.Goals as goal

pub returns-then-self-piece-clause-bytes : goal.returns-then-self-piece-clause-bytes
returns-then-self-piece-clause-bytes c =
    let later = flat_map (λ piece. piece.items) (drop (c.loop-self.self.index + 1) c.loop-self.self.pieces.items) in
    let next = joined_next (λ piece. piece.items) c.loop-self.self.pieces.items c.loop-self.self.index c.index.result.now (omega arith) in
    let whole : flat_map (λ piece. piece.items) (drop c.loop-self.self.index c.loop-self.self.pieces.items) ≡ c.as_slice-piece.result.now ++ later = cc in
    let given = bytes_given _ c.as_slice-piece.result.now later c.give-given.new.buf c.loop-self.self.start c.give-given.result (length c.loop-self.buf)
    whole c.if-self-piece.true c.give-given.ensures.count c.give-given.ensures.given in
    (sym c.loop-self.invariant.same ∙ given, λ none some. absurd (omega (arith, some_given c.as_slice-piece.result.now _ _ _ c.if-self-piece.true c.give-given.ensures.count none)))

pub returns-then-self-piece-clause-piece : goal.returns-then-self-piece-clause-piece
returns-then-self-piece-clause-piece c =
    let here : (get_or c.loop-self.self.pieces.items c.loop-self.self.index c.index.result.now).items ≡ c.as_slice-piece.result.now = cc in
    let next = piece_here (λ piece. piece.items) c.loop-self.self.pieces.items c.loop-self.self.index c.loop-self.self.start c.index.result.now c.as_slice-piece.result.now (omega arith) here c.if-self-piece.true in
    given_of_piece c.as_slice-piece.result.now c.loop-self.self.start c.give-given.result (length c.loop-self.buf) (sym c.loop-self.invariant.piece ∙ next) c.give-given.ensures.count
    ∙ ap (min (length (next_piece c.args.self.now))) c.loop-self.invariant.room

pub returns-clause-piece : goal.returns-clause-piece
returns-clause-piece c =
    let past : length c.loop-self.self.pieces.items ≤ c.loop-self.self.index = omega (arith, c.loop-self-test.false, c.len.ensures, c.loop-self.self.pieces.ok) in
    let none = sym c.loop-self.invariant.piece ∙ piece_none (λ piece. piece.items) c.loop-self.self.pieces.items c.loop-self.self.index c.loop-self.self.start past in
    grind (arith, ap length none)

pub loop-self-preserved : goal.loop-self-preserved
loop-self-preserved c =
    let next = joined_next (λ piece. piece.items) c.loop-self.self.pieces.items c.loop-self.self.index c.index.result.now (omega arith) in
    let passed = piece_passed c.as_slice-piece.result.now (flat_map (λ piece. piece.items) (drop (c.loop-self.self.index + 1) c.loop-self.self.pieces.items)) c.loop-self.self.start c.if-self-piece.false in
    let here : (get_or c.loop-self.self.pieces.items c.loop-self.self.index c.index.result.now).items ≡ c.as_slice-piece.result.now = cc in
    let later = piece_later (λ piece. piece.items) c.loop-self.self.pieces.items c.loop-self.self.index c.loop-self.self.start c.index.result.now c.as_slice-piece.result.now (omega arith) here (omega arith) in
    record { same = cc; piece = sym later ∙ c.loop-self.invariant.piece; room = c.loop-self.invariant.room; failures = search rules; fails = search rules }

pub returns-then-self-piece-clause-ends : goal.returns-then-self-piece-clause-ends
returns-then-self-piece-clause-ends c = λ fails none.
    let later = flat_map (λ piece. piece.items) (drop (c.loop-self.self.index + 1) c.loop-self.self.pieces.items) in
    let next = joined_next (λ piece. piece.items) c.loop-self.self.pieces.items c.loop-self.self.index c.index.result.now (omega arith) in
    let whole : flat_map (λ piece. piece.items) (drop c.loop-self.self.index c.loop-self.self.pieces.items) ≡ c.as_slice-piece.result.now ++ later = cc in
    absurd (some_left c.as_slice-piece.result.now later c.loop-self.self.start c.if-self-piece.true (ap (drop c.loop-self.self.start) (sym whole) ∙ c.loop-self.invariant.same ∙ unwrapped _ _ none))

pub returns-then-self-clause-fails : goal.returns-then-self-clause-fails
returns-then-self-clause-fails c =
    let i = c.loop-self.invariant in
    let past : length c.loop-self.self.pieces.items ≤ c.loop-self.self.index = omega (arith, c.loop-self-test.false, c.len.ensures, c.loop-self.self.pieces.ok) in
    (ap Some (sym i.same ∙ none_left (λ piece. piece.items) c.loop-self.self.pieces.items c.loop-self.self.index c.loop-self.self.start past), sym i.fails ∙ c.if-self.true)

pub returns-clause-ends : goal.returns-clause-ends
returns-clause-ends c = λ fails none. sym c.if-self.false ∙ c.loop-self.invariant.fails ∙ fails
