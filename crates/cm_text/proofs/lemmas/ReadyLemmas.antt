-- A feed of which the lines that have ended are held apart.
use Rattle.std.proofs.Common.{◌≡◌, ◌∙◌, ℕ, ◌+◌, map, List, [], ◌∷◌, ◌++◌, take, refl, sym, ap, subst, arith, cond, drop, false, is_some, length, length-append, ◌≤◌, append_assoc, append-nil, Some, None}
use Rattle.std.specs.Prelude.{Option, Result, Ok, Err, option_to_list}
use Rattle.std.specs.Str.Lossy.{utf8_valid_len}
use Rattle.cm_text.specs.declared.fault.TextFault.{TextFault}
use Rattle.cm_text.specs.declared.fault.TextFault.TheVariants.{NotUtf8, TooLong, NoMemory}
use Rattle.cm_text.specs.Lines.{LineView, seen_line, text_of, plain_line, last_line}
use Rattle.cm_text.specs.Cut.{Cut, IsFront}
use Rattle.cm_text.specs.Faults.{left_of}
use Rattle.cm_text.specs.Feed.{Feed, StandsFor, with_ready}
use Rattle.cm_text.specs.steps.FeedSteps.{Steps, Closes, Refused, Moves, LetsGo, after_ready, joined_of, next_cut, next_feed}
use Rattle.cm_text.specs.declared.lines.Line.{Line}
use Rattle.cm_text.proofs.lemmas.CutLemmas.{beyond, cut_after}
use Rattle.cm_text.proofs.lemmas.FeedLemmas.{pass_stands, front_trans}

-- moving lines changes nothing that is seen
pub moves_same : (ready more : List LineView) (fault : Option TextFault) (old new : Feed) → Moves ready old more new
    → after_ready more fault new ≡ after_ready ready fault old
moves_same ready more fault old new moves =
    let ended = ap (λ t. t ++ new.cut.ended) moves.1 ∙ append_assoc ready moves.0 new.cut.ended ∙ ap (λ t. ready ++ t) (sym moves.2) in
    ap (λ (f : Feed). record {
      limit = f.limit;
      start = f.start;
      pending = f.pending;
      cut = record f.cut { ended = more ++ new.cut.ended };
      ended = f.ended;
      fault = fault;
    }) moves.3
    ∙ ap (λ t. record {
      limit = old.limit;
      start = old.start;
      pending = old.pending;
      cut = record old.cut { ended = t };
      ended = old.ended;
      fault = fault;
    }) ended

next_after : (ready : List LineView) (fault : Option TextFault) (old : Feed) (piece : List ℕ)
    → next_cut (after_ready ready fault old) piece ≡ beyond ready (next_cut old piece)
next_after ready fault old piece =
    let joined = joined_of old piece in
    cut_after ready old.cut (text_of (take (utf8_valid_len joined) joined))

front_after : (ready front all : List LineView) → IsFront front all → IsFront (ready ++ front) (ready ++ all)
front_after ready front all h = (h.0, ap (λ t. ready ++ t) h.1 ∙ sym (append_assoc ready front h.0))

feed_after : (ready : List LineView) (fault : Option TextFault) (old new : Feed) (piece : List ℕ) → new ≡ next_feed old piece
    → after_ready ready fault new ≡ next_feed (after_ready ready fault old) piece
feed_after ready fault old new piece step =
    ap (after_ready ready fault) step
    ∙ ap (λ c. record {
      limit = old.limit;
      start = old.start + utf8_valid_len (joined_of old piece);
      pending = left_of (joined_of old piece);
      cut = c;
      ended = old.ended;
      fault = fault;
    }) (sym (next_after ready fault old piece))

-- one piece more
pub steps_after : (r : Result (Unit {0}) TextFault) (ready : List LineView) (fault : Option TextFault) (old new : Feed) (piece : List ℕ)
    → Steps r old piece new → Steps r (after_ready ready fault old) piece (after_ready ready fault new)
steps_after (Ok x) ready fault old new piece steps = (feed_after ready fault old new piece steps.0, steps.1)
steps_after (Err (NotUtf8 at)) ready fault old new piece steps = (feed_after ready fault old new piece steps.0, steps.1)
steps_after (Err (TooLong at)) ready fault old new piece steps = (feed_after ready fault old new piece steps.0, steps.1)
steps_after (Err NoMemory) ready fault old new piece refused =
    record {
      limit = refused.limit;
      ended = refused.ended;
      fault = refl;
      ready = subst (λ (c : Cut). IsFront (ready ++ new.cut.ended) c.ended) (sym (next_after ready fault old piece)) (front_after ready new.cut.ended (next_cut old piece).ended refused.ready);
    }

-- the lines after a piece are a front of those that it leads to
pub steps_front : (r : Result (Unit {0}) TextFault) (old new : Feed) (piece : List ℕ) → Steps r old piece new → IsFront new.cut.ended (next_cut old piece).ended
steps_front (Ok x) old new piece steps = ([], sym (append-nil new.cut.ended ∙ ap (λ (f : Feed). f.cut.ended) steps.0))
steps_front (Err (NotUtf8 at)) old new piece steps = ([], sym (append-nil new.cut.ended ∙ ap (λ (f : Feed). f.cut.ended) steps.0))
steps_front (Err (TooLong at)) old new piece steps = ([], sym (append-nil new.cut.ended ∙ ap (λ (f : Feed). f.cut.ended) steps.0))
steps_front (Err NoMemory) old new piece refused = refused.ready

-- the end
pub closes_after : (r : Result (Unit {0}) TextFault) (ready : List LineView) (fault : Option TextFault) (old new : Feed)
    → Closes r old new → Closes r (after_ready ready fault old) (after_ready ready fault new)
closes_after (Ok x) ready fault old new closed = record {
  pending = closed.pending;
  limit = closed.limit;
  fault = refl;
  ended = closed.ended;
  ready = ap (λ t. ready ++ t) closed.ready ∙ sym (append_assoc ready old.cut.ended (map plain_line (last_line old.cut.partial)));
}
closes_after (Err (NotUtf8 at)) ready fault old new short = (ap (after_ready ready fault) short.0, short.1, short.2)
closes_after (Err (TooLong at)) ready fault old new none = none
closes_after (Err NoMemory) ready fault old new lost = (lost.0, front_after ready new.cut.ended old.cut.ended lost.1)

-- one line more goes
pub moves_one : (ready more : List LineView) (old middle new : Feed) (line : LineView) → Moves ready old more middle
    → middle.cut.ended ≡ line ∷ drop 1 middle.cut.ended → new ≡ with_ready (drop 1 middle.cut.ended) middle → Moves ready old (more ++ line ∷ []) new
moves_one ready more old middle new line moves first passed =
    let rest : new.cut.ended ≡ drop 1 middle.cut.ended = ap (λ (f : Feed). f.cut.ended) passed in (
      moves.0 ++ line ∷ [],
      ap (λ t. t ++ line ∷ []) moves.1 ∙ append_assoc ready moves.0 (line ∷ []),
      moves.2 ∙ ap (λ t. moves.0 ++ t) (first ∙ ap (λ t. line ∷ t) (sym rest)) ∙ sym (append_assoc moves.0 (line ∷ []) new.cut.ended),
      passed ∙ ap (with_ready (drop 1 middle.cut.ended)) moves.3 ∙ ap (λ t. with_ready t old) (sym rest),
    )

-- what has gone is a prefix of what was there
gone_front : (ready more : List LineView) (old new : Feed) → LetsGo ready old more new → IsFront more (ready ++ old.cut.ended)
gone_front ready more old new gone =
    (gone.left, ap (λ t. ready ++ t) gone.parts ∙ sym (append_assoc ready gone.gone gone.left) ∙ ap (λ t. t ++ gone.left) (sym gone.went))

-- a piece, and then the lines go
pub steps_moved : (r : Result (Unit {0}) TextFault) (ready more : List LineView) (fault : Option TextFault) (old middle new : Feed) (piece : List ℕ)
    → Steps r old piece middle → Moves ready middle more new → Steps r (after_ready ready fault old) piece (after_ready more fault new)
steps_moved r ready more fault old middle new piece steps moves =
    subst (Steps r (after_ready ready fault old) piece) (sym (moves_same ready more fault middle new moves)) (steps_after r ready fault old middle piece steps)

pub closes_moved : (r : Result (Unit {0}) TextFault) (ready more : List LineView) (fault : Option TextFault) (old middle new : Feed)
    → Closes r old middle → Moves ready middle more new → Closes r (after_ready ready fault old) (after_ready more fault new)
closes_moved r ready more fault old middle new closes moves =
    subst (Closes r (after_ready ready fault old)) (sym (moves_same ready more fault middle new moves)) (closes_after r ready fault old middle closes)

-- or memory is refused then
pub steps_refused : (r : Result (Unit {0}) TextFault) (ready more : List LineView) (fault : Option TextFault) (old middle new : Feed) (piece : List ℕ)
    → old.ended ≡ false → Steps r old piece middle → LetsGo ready middle more new → new.cut.ended ≡ [] → new.limit ≡ old.limit
    → Refused (after_ready ready fault old) piece (after_ready more fault new)
steps_refused r ready more fault old middle new piece going steps gone none limit = record {
  limit = limit;
  ended = gone.ended ∙ sym going;
  fault = refl;
  ready =
      let all = (next_cut (after_ready ready fault old) piece).ended in
      let P : List LineView → Type 0 = λ t. IsFront t all in
      subst P (sym (ap (λ t. more ++ t) none ∙ append-nil more))
      (front_trans more (ready ++ middle.cut.ended) all (gone_front ready more middle new gone)
      (subst (λ (c : Cut). IsFront (ready ++ middle.cut.ended) c.ended) (sym (next_after ready fault old piece))
      (front_after ready middle.cut.ended (next_cut old piece).ended (steps_front r old middle piece steps))));
}

-- at the end there is one line at most, so none has gone
one_at_most : (r : Result (Unit {0}) TextFault) (old new : Feed) → old.cut.ended ≡ [] → Closes r old new → length new.cut.ended ≤ 1
one_at_most (Ok x) old new none closed =
    omega (arith, ap length (closed.ready ∙ ap (λ t. t ++ map plain_line (last_line old.cut.partial)) none), one (last_line old.cut.partial) (at_most old.cut.partial))
  where
    at_most : (partial : List ℕ) → length (last_line partial) ≤ 1
    at_most [] = omega arith
    at_most (b ∷ bs) = omega arith

    one : (lines : List (List ℕ)) → length lines ≤ 1 → length (map plain_line lines) ≤ 1
    one [] few = omega arith
    one (l ∷ []) few = omega arith
    one (l ∷ k ∷ ls) few = absurd (omega (arith, few))
one_at_most (Err NoMemory) old new none lost = omega (arith, ap length (sym none ∙ lost.1.1), length-append new.cut.ended lost.1.0)
one_at_most (Err (NotUtf8 at)) old new none short = omega (arith, ap length (ap (λ (f : Feed). f.cut.ended) short.0 ∙ none))
one_at_most (Err (TooLong at)) old new none closed = absurd closed

pub closes_refused : (r : Result (Unit {0}) TextFault) (ready more : List LineView) (fault : Option TextFault) (old middle new : Feed)
    → old.cut.ended ≡ [] → Closes r old middle → LetsGo ready middle more new → new.cut.ended ≡ [] → new.limit ≡ old.limit
    → Closes (Err NoMemory) (after_ready ready fault old) (after_ready more fault new)
closes_refused r ready more fault old middle new before closes gone none limit =
    let few : length gone.gone ≡ 0 = omega (arith, one_at_most r old middle before closes, ap length gone.parts, length-append gone.gone gone.left, gone.some) in
    let same : more ≡ ready = gone.went ∙ ap (λ t. ready ++ t) (nothing gone.gone few) ∙ append-nil ready in
    (limit, ([], ap (λ t. ready ++ t) before ∙ append-nil ready ∙ sym (append-nil (more ++ new.cut.ended) ∙ ap (λ t. more ++ t) none ∙ append-nil more ∙ same)))
  where
    nothing : (lines : List LineView) → length lines ≡ 0 → lines ≡ []
    nothing [] is = refl
    nothing (l ∷ ls) is = absurd (omega arith)

-- the next line is taken
pub next_stands : (fault : Option TextFault) (buffer : Feed) (r : Option Line) (items rest : List Line) (bytes : List ℕ) (taken : ℕ) → items ≡ option_to_list r ++ rest
    → StandsFor (after_ready (map seen_line items) fault buffer) bytes taken
    → StandsFor (after_ready (map seen_line rest) fault buffer) bytes (cond (is_some r) (taken + 1) taken)
next_stands fault buffer None items rest bytes taken is stands =
    let P : List Line → Type 0 = λ t. StandsFor (after_ready (map seen_line t) fault buffer) bytes taken in
    subst P is stands
next_stands fault buffer (Some line) items rest bytes taken is stands =
    let P : List Line → Type 0 = λ t. StandsFor (after_ready (map seen_line t) fault buffer) bytes taken in
    pass_stands (after_ready (map seen_line (line ∷ rest)) fault buffer) bytes taken (omega arith) (subst P is stands)
