-- What a feed stands for, as more bytes come.
use Rattle.std.proofs.Common.{◌≡◌, ℕ, ◌+◌, ◌-◌, ◌<◌, ◌≤◌, Bool, true, false, List, [], ◌∷◌, ◌++◌, length, take, drop, IsUtf8, refl, sym, ap, subst, ◌∙◌, arith, ⊎_elim, append_assoc, length-append, length-drop, length-take, take_all, take-append-drop, Some, None}
use Rattle.std.proofs.lemmas.Str.{IsUtf8-append, utf8_valid_len-IsUtf8, utf8_valid_len-IsValidUpTo, utf8_valid_len_le}
use Rattle.std.specs.Str.Lossy.{utf8_valid_len, utf8_error_len}
use Rattle.std.proofs.Common.{zero, suc, add-one, cond, ◌==◌, nat_lt, is_some, map, drop-drop, append-nil}
use Rattle.std.proofs.lemmas.Bool.{ltb-false, cond-true, cond-false, lt-ltb, le-ltb}
use Rattle.std.proofs.lemmas.Bool.Decides.{nat_tests}
use Rattle.cm_text.specs.declared.fault.TextFault.TheVariants.{NotUtf8, TooLong, NoMemory}
use Rattle.cm_text.specs.declared.fault.TextFault.{TextFault}
use Rattle.std.specs.Prelude.{Option, Result, Ok, Err}
use Rattle.std.proofs.lemmas.List.{drop-append-le, length-take-le}
use Rattle.std.proofs.Math.Seq.{drop-append-add, take-append-add}
use Rattle.cm_text.specs.Lines.{LineView, plain_lines_of, last_line, plain_line, text_of}
use Rattle.cm_text.specs.Cut.{Cut, cut_byte, end_line, IsFront, cut_more, nothing_cut, without}
use Rattle.cm_text.specs.Faults.{left_of, valid_len, after_valid, settled_fault, text_fault}
use Rattle.cm_text.specs.Feed.{Feed, Goes, StandsAs, StandsFor, Answers, HasFailed, LostMemory, cut_valid, cut_bytes, with_ready}
use Rattle.cm_text.specs.steps.FeedSteps.{Steps, Closes, HasClosed, Refused, joined_of, next_cut, next_feed, next_fault}
use Rattle.cm_text.proofs.lemmas.CutLemmas.{ended_stays, cut_text-append}
use Rattle.cm_text.proofs.lemmas.LinesLemmas.{lines_are_cut}
use Rattle.cm_text.proofs.lemmas.Utf8Lemmas.{error_len-nil, utf8_valid_len-cases, valid_front-IsUtf8, IsUtf8-cancel}

pub valid_stays : (cut : Cut) (bytes : List ℕ) → IsFront cut.ended (cut_valid cut bytes).ended
valid_stays cut bytes = ended_stays cut (text_of (take (utf8_valid_len bytes) bytes))

pub without_step : (n : ℕ) (cut : Cut) (b : ℕ) → n ≤ length cut.ended → cut_byte (without n cut) b ≡ without n (cut_byte cut b)
without_step n cut b fits = by_feed (b == 10) (b == 13) cut.after_return
  where
    ends : drop n cut.ended ++ plain_line cut.partial ∷ [] ≡ drop n (cut.ended ++ plain_line cut.partial ∷ [])
    ends = sym (drop-append-le n cut.ended (plain_line cut.partial ∷ []) fits)

    by_feed : (feed return after_return : Bool)
        → cond feed (cond after_return (record { ended = drop n cut.ended; partial = cut.partial; after_return = false }) (end_line (without n cut) false)) (cond return (end_line (without n cut) true) (record { ended = drop n cut.ended; partial = cut.partial ++ b ∷ []; after_return = false }))
        ≡ without n (cond feed (cond after_return (record { ended = cut.ended; partial = cut.partial; after_return = false }) (end_line cut false)) (cond return (end_line cut true) (record { ended = cut.ended; partial = cut.partial ++ b ∷ []; after_return = false })))
    by_feed true return true = refl
    by_feed true return false = ap (λ t. record { ended = t; partial = []; after_return = false }) ends
    by_feed false true after_return = ap (λ t. record { ended = t; partial = []; after_return = true }) ends
    by_feed false false after_return = refl

longer : (cut : Cut) (bytes : List ℕ) (n : ℕ) → n ≤ length cut.ended → n ≤ length (cut_more cut bytes).ended
longer cut bytes n fits =
    let stays = ended_stays cut bytes in
    omega (arith, ap length stays.1, length-append cut.ended stays.0)

pub without_more : (n : ℕ) (cut : Cut) (bytes : List ℕ) → n ≤ length cut.ended → cut_more (without n cut) bytes ≡ without n (cut_more cut bytes)
without_more n cut [] fits = refl
without_more n cut (b ∷ bytes) fits =
    ap (λ d. cut_more d bytes) (without_step n cut b fits) ∙ without_more n (cut_byte cut b) bytes (longer cut (b ∷ []) n fits)

-- a text at the start is skipped
pub valid_shift : (f x : List ℕ) → IsUtf8 f → utf8_valid_len (f ++ x) ≡ length f + utf8_valid_len x
valid_shift f x u = ⊎_elim
    (λ w. utf8_valid_len-IsUtf8 (f ++ x) (IsUtf8-append f x u w) ∙ length-append f x ∙ ap (λ n. length f + n) (sym (utf8_valid_len-IsUtf8 x w)))
    (λ v.
    let n = utf8_valid_len x in
    utf8_valid_len-IsValidUpTo (f ++ x) (length f + n) (record {
      short = omega (arith, length-append f x, v.short);
      front = subst IsUtf8 (sym (take-append-add f x n)) (IsUtf8-append f (take n x) u v.front);
      longest = λ m above w.
          let k = m - length f in
          let same : m ≡ length f + k = omega arith in
          v.longest k (omega arith) (IsUtf8-cancel f (take k x) u (subst IsUtf8 (ap (λ i. take i (f ++ x)) same ∙ take-append-add f x k) w));
    }))
    (utf8_valid_len-cases x)

pub left_shift : (f x : List ℕ) → IsUtf8 f → left_of (f ++ x) ≡ left_of x
left_shift f x u = ap (λ n. drop n (f ++ x)) (valid_shift f x u) ∙ drop-append-add f x (utf8_valid_len x)

pub cut_shift : (cut : Cut) (f x : List ℕ) → IsUtf8 f → cut_valid cut (f ++ x) ≡ cut_valid (cut_more cut (text_of f)) x
cut_shift cut f x u =
    ap (λ t. cut_more cut (text_of t)) (ap (λ n. take n (f ++ x)) (valid_shift f x u) ∙ take-append-add f x (utf8_valid_len x))
    ∙ cut_text-append cut f (take (utf8_valid_len x) x)

pub none_of_two : {A : Type 0} (t u : Bool) (x y : A) → cond t (Some x) (cond u (Some y) None) ≡ None → (t ≡ false) × (u ≡ false)
none_of_two true u x y none = cc
none_of_two false true x y none = cc
none_of_two false false x y none = (refl, refl)

pub within_limit : (limit : ℕ) (bytes : List ℕ) → settled_fault limit bytes ≡ None → length bytes ≤ limit
within_limit limit bytes sound =
    let two = none_of_two _ _ _ _ sound in
    ltb-false limit (length bytes) two.1

past_limit : (limit n m room : ℕ) → n ≤ limit → room ≡ limit - n → nat_lt limit (n + m) ≡ nat_lt room m
past_limit limit n m room fits is = grind (arith, nat_tests)

-- how the bytes so far and a piece read
pub record Moved (old : Feed) (piece bytes : List ℕ) (taken : ℕ) : Type 0 where
  pub valid : valid_len old.limit (bytes ++ piece) ≡ old.start + utf8_valid_len (joined_of old piece)
  pub left : after_valid old.limit (bytes ++ piece) ≡ left_of (joined_of old piece)
  pub whole : cut_bytes old.limit (bytes ++ piece) ≡ cut_valid (cut_bytes old.limit bytes) (joined_of old piece)
  pub cut : next_cut old piece ≡ without taken (cut_bytes old.limit (bytes ++ piece))
  pub settled : settled_fault old.limit (bytes ++ piece) ≡ next_fault old piece
  pub in_order : taken ≤ length (cut_bytes old.limit (bytes ++ piece)).ended

pub moved : (old : Feed) (piece bytes : List ℕ) (taken : ℕ) → Goes old bytes taken → Moved old piece bytes taken
moved old piece bytes taken goes =
    let within = within_limit old.limit bytes goes.sound in
    let whole = take_all old.limit bytes within in
    let window = take old.limit bytes in
    let front = take (utf8_valid_len window) window in
    let joined = joined_of old piece in
    let u = valid_front-IsUtf8 window in
    let len : length front ≡ old.start = length-take-le _ window (utf8_valid_len_le window) ∙ sym goes.start in
    let parts : front ++ old.pending ≡ bytes = ap (λ t. front ++ t) goes.pending ∙ take-append-drop _ window ∙ whole in
    let total : length bytes ≡ old.start + length old.pending = ap length (sym parts) ∙ length-append front old.pending ∙ ap (λ n. n + length old.pending) len in
    let room : old.limit ≡ length bytes + (old.limit - (old.start + length old.pending)) = omega arith in
    let wider : take old.limit (bytes ++ piece) ≡ front ++ joined =
    ap (λ n. take n (bytes ++ piece)) room ∙ take-append-add bytes piece _ ∙ ap (λ t. t ++ take (old.limit - (old.start + length old.pending)) piece) (sym parts)
    ∙ append_assoc front old.pending _ in
    let valid : valid_len old.limit (bytes ++ piece) ≡ old.start + utf8_valid_len joined = ap utf8_valid_len wider ∙ valid_shift front joined u ∙ ap (λ n. n + utf8_valid_len joined) len in
    let left : after_valid old.limit (bytes ++ piece) ≡ left_of joined = ap left_of wider ∙ left_shift front joined u in
    let all_cut : cut_bytes old.limit (bytes ++ piece) ≡ cut_valid (cut_bytes old.limit bytes) joined = ap (cut_valid nothing_cut) wider ∙ cut_shift nothing_cut front joined u in
    let past : nat_lt old.limit (length (bytes ++ piece)) ≡ nat_lt (old.limit - (old.start + length old.pending)) (length piece) =
    ap (nat_lt old.limit) (length-append bytes piece) ∙ past_limit old.limit (length bytes) (length piece) _ within (omega arith) in
    let text = text_of (take (utf8_valid_len joined) joined) in
    record {
      valid = valid;
      left = left;
      whole = all_cut;
      cut = ap (λ d. cut_valid d joined) goes.cut ∙ without_more taken (cut_bytes old.limit bytes) text goes.in_order ∙ ap (without taken) (sym all_cut);
      settled =
          ap (λ t. cond (is_some (utf8_error_len t)) (Some (NotUtf8 (valid_len old.limit (bytes ++ piece)))) (cond (nat_lt old.limit (length (bytes ++ piece))) (Some (TooLong old.limit)) None)) left
          ∙ ap (λ n. cond (is_some (utf8_error_len (left_of joined))) (Some (NotUtf8 n)) (cond (nat_lt old.limit (length (bytes ++ piece))) (Some (TooLong old.limit)) None)) valid
          ∙ ap (λ b. cond (is_some (utf8_error_len (left_of joined))) (Some (NotUtf8 (old.start + utf8_valid_len joined))) (cond b (Some (TooLong old.limit)) None)) past;
      in_order = subst (λ (d : Cut). taken ≤ length d.ended) (sym all_cut) (longer (cut_bytes old.limit bytes) text taken goes.in_order);
    }

pub goes : (feed : Feed) (bytes : List ℕ) (taken : ℕ) → feed.fault ≡ None → feed.ended ≡ false → StandsFor feed bytes taken → Goes feed bytes taken
goes feed bytes taken sound going stands =
    let P : Option TextFault → Type 0 = λ o. StandsAs o feed.ended feed bytes taken in
    let Q : Bool → Type 0 = λ b. StandsAs None b feed bytes taken in
    subst Q going (subst P sound stands)

pub goes_on : (feed : Feed) (bytes : List ℕ) (taken : ℕ) → feed.fault ≡ None → feed.ended ≡ false → Goes feed bytes taken → StandsFor feed bytes taken
goes_on feed bytes taken sound going stands =
    let P : Option TextFault → Type 0 = λ o. StandsAs o feed.ended feed bytes taken in
    let Q : Bool → Type 0 = λ b. StandsAs None b feed bytes taken in
    subst P (sym sound) (subst Q (sym going) stands)

pub answers : (r : Result (Unit {0}) TextFault) (old new : Feed) (piece bytes : List ℕ) (taken : ℕ) → Goes old bytes taken
    → Steps r old piece new → Answers r (settled_fault old.limit (bytes ++ piece))
answers (Ok x) old new piece bytes taken g steps = (moved old piece bytes taken g).settled ∙ steps.1
answers (Err NoMemory) old new piece bytes taken g steps = tt
answers (Err (NotUtf8 at)) old new piece bytes taken g steps = (moved old piece bytes taken g).settled ∙ steps.1
answers (Err (TooLong at)) old new piece bytes taken g steps = (moved old piece bytes taken g).settled ∙ steps.1

pub push_goes : (old new : Feed) (piece bytes : List ℕ) (taken : ℕ) → old.fault ≡ None → old.ended ≡ false → Goes old bytes taken
    → Steps (Ok tt) old piece new → StandsFor new (bytes ++ piece) taken
push_goes old new piece bytes taken sound going g steps =
    let m = moved old piece bytes taken g in
    subst (λ (f : Feed). StandsFor f (bytes ++ piece) taken) (sym steps.0)
    (goes_on (next_feed old piece) (bytes ++ piece) taken sound going (record {
      sound = m.settled ∙ steps.1;
      start = sym m.valid;
      pending = sym m.left;
      cut = m.cut;
      in_order = m.in_order;
    }))

pub settled_text : (limit : ℕ) (bytes : List ℕ) (fault : TextFault) → settled_fault limit bytes ≡ Some fault → text_fault limit bytes ≡ Some fault
settled_text limit bytes fault is = cond-true _ _ _ (ap is_some is) ∙ is

-- the feed with its fault
abbrev pub failed : TextFault → Feed → Feed
failed fault feed = record { limit = feed.limit; start = feed.start; pending = feed.pending; cut = feed.cut; ended = feed.ended; fault = Some fault }

has_failed : (fault : TextFault) (old new : Feed) (piece bytes : List ℕ) (taken : ℕ) → Goes old bytes taken
    → new ≡ next_feed old piece → next_fault old piece ≡ Some fault → HasFailed fault (failed fault new) (bytes ++ piece) taken
has_failed fault old new piece bytes taken g step told =
    let m = moved old piece bytes taken g in
    subst (λ (f : Feed). HasFailed fault (failed fault f) (bytes ++ piece) taken) (sym step)
    (record {
      told = settled_text old.limit (bytes ++ piece) fault (m.settled ∙ told);
      ready = ap (λ (d : Cut). d.ended) m.cut;
      in_order = m.in_order;
    })

lost_memory : (old new : Feed) (piece bytes : List ℕ) (taken : ℕ) → Goes old bytes taken
    → Refused old piece new → LostMemory (failed NoMemory new) (bytes ++ piece) taken
lost_memory old new piece bytes taken g refused =
    let m = moved old piece bytes taken g in
    let ready : IsFront new.cut.ended (drop taken (cut_bytes old.limit (bytes ++ piece)).ended) =
    (refused.ready.0, sym (ap (λ (d : Cut). d.ended) m.cut) ∙ refused.ready.1) in
    let P : ℕ → Type 0 = λ limit. IsFront new.cut.ended (drop taken (cut_bytes limit (bytes ++ piece)).ended) in
    let Q : ℕ → Type 0 = λ limit. taken ≤ length (cut_bytes limit (bytes ++ piece)).ended in
    record { ready = subst P (sym refused.limit) ready; in_order = subst Q (sym refused.limit) m.in_order }

pub push_fails : (fault : TextFault) (old new : Feed) (piece bytes : List ℕ) (taken : ℕ) → Goes old bytes taken
    → Steps (Err fault) old piece new → StandsAs (Some fault) new.ended (failed fault new) (bytes ++ piece) taken
push_fails NoMemory old new piece bytes taken g steps = lost_memory old new piece bytes taken g steps
push_fails (NotUtf8 at) old new piece bytes taken g steps = has_failed (NotUtf8 at) old new piece bytes taken g steps.0 steps.1
push_fails (TooLong at) old new piece bytes taken g steps = has_failed (TooLong at) old new piece bytes taken g steps.0 steps.1

-- one line is taken
dropped : (all rest : List LineView) (line : LineView) (n : ℕ) → line ∷ rest ≡ drop n all → (rest ≡ drop (n + 1) all) × (n + 1 ≤ length all)
dropped all rest line n is = (ap (drop 1) is ∙ drop-drop 1 n all, omega (arith, ap length is, length-drop n all))

one_taken : (fault : Option TextFault) (ended : Bool) (old : Feed) (line : LineView) (rest : List LineView) (bytes : List ℕ) (taken : ℕ)
    → old.cut.ended ≡ line ∷ rest → StandsAs fault ended old bytes taken → StandsAs fault ended (with_ready rest old) bytes (taken + 1)
one_taken None false old line rest bytes taken first g =
    let both = dropped (cut_bytes old.limit bytes).ended rest line taken (sym first ∙ ap (λ (d : Cut). d.ended) g.cut) in
    record {
      sound = g.sound;
      start = g.start;
      pending = g.pending;
      cut = ap (λ t. record { ended = t; partial = old.cut.partial; after_return = old.cut.after_return }) both.0
          ∙ ap (λ (d : Cut). record { ended = drop (taken + 1) (cut_bytes old.limit bytes).ended; partial = d.partial; after_return = d.after_return }) g.cut;
      in_order = both.1;
    }
one_taken None true old line rest bytes taken first g =
    let both = dropped (plain_lines_of (text_of bytes)) rest line taken (sym first ∙ g.ready) in
    record { sound = g.sound; ready = both.0; in_order = both.1 }
one_taken (Some (NotUtf8 at)) ended old line rest bytes taken first g =
    let both = dropped (cut_bytes old.limit bytes).ended rest line taken (sym first ∙ g.ready) in
    record { told = g.told; ready = both.0; in_order = both.1 }
one_taken (Some (TooLong at)) ended old line rest bytes taken first g =
    let both = dropped (cut_bytes old.limit bytes).ended rest line taken (sym first ∙ g.ready) in
    record { told = g.told; ready = both.0; in_order = both.1 }
one_taken (Some NoMemory) ended old line rest bytes taken first g =
    let both = dropped (cut_bytes old.limit bytes).ended (rest ++ g.ready.0) line taken (ap (λ t. t ++ g.ready.0) (sym first) ∙ sym g.ready.1) in
    record { ready = (g.ready.0, sym both.0); in_order = both.1 }

pub pass_stands : (old : Feed) (bytes : List ℕ) (taken : ℕ) → 0 < length old.cut.ended → StandsFor old bytes taken
    → StandsFor (with_ready (drop 1 old.cut.ended) old) bytes (taken + 1)
pass_stands old bytes taken some stands = go old.cut.ended refl some
  where
    go : (lines : List LineView) → old.cut.ended ≡ lines → 0 < length lines → StandsFor (with_ready (drop 1 lines) old) bytes (taken + 1)
    go [] is some = absurd (omega arith)
    go (line ∷ rest) is some = one_taken old.fault old.ended old line rest bytes taken is stands

-- a number of lines, one after another
pub pass_all_stand : (n : ℕ) (old : Feed) (bytes : List ℕ) (taken : ℕ) → n ≤ length old.cut.ended → StandsFor old bytes taken
    → StandsFor (with_ready (drop n old.cut.ended) old) bytes (taken + n)
pass_all_stand zero old bytes taken within stands = subst (StandsFor old bytes) (omega arith) stands
pass_all_stand (suc n) old bytes taken within stands =
    let lines = old.cut.ended in
    let most = pass_all_stand n old bytes taken (omega (arith, within)) stands in
    let one = pass_stands (with_ready (drop n lines) old) bytes (taken + n) (omega (arith, within, length-drop n lines)) most in
    subst (λ k. StandsFor (with_ready (drop k lines) old) bytes (taken + suc n)) (add-one n)
    (subst (λ (t : List LineView). StandsFor (with_ready t old) bytes (taken + suc n)) (drop-drop 1 n lines)
    (subst (StandsFor (with_ready (drop 1 (drop n lines)) old) bytes) (omega arith) one))

-- the text ends
-- the longest well-formed prefix within the limit
abbrev valid_front : ℕ → List ℕ → List ℕ
valid_front limit bytes = take (valid_len limit bytes) (take limit bytes)

nothing_left : (feed : Feed) (bytes : List ℕ) (taken : ℕ) → Goes feed bytes taken → feed.pending ≡ [] → valid_front feed.limit bytes ≡ bytes
nothing_left feed bytes taken g none =
    let whole = take_all feed.limit bytes (within_limit feed.limit bytes g.sound) in
    sym (append-nil _) ∙ ap (λ t. valid_front feed.limit bytes ++ t) (sym none ∙ g.pending) ∙ take-append-drop _ (take feed.limit bytes) ∙ whole

last_fault : (feed : Feed) (bytes : List ℕ) (taken : ℕ) → Goes feed bytes taken
    → text_fault feed.limit bytes ≡ cond (nat_lt (valid_len feed.limit bytes) (length bytes)) (Some (NotUtf8 (valid_len feed.limit bytes))) None
last_fault feed bytes taken g = cond-false _ _ _ (ap is_some g.sound)

pub end_sound : (feed : Feed) (bytes : List ℕ) (taken : ℕ) → Goes feed bytes taken → feed.pending ≡ [] → text_fault feed.limit bytes ≡ None
end_sound feed bytes taken g none =
    let whole = nothing_left feed bytes taken g none in
    let len = ap length whole in
    let no_more : nat_lt (valid_len feed.limit bytes) (length bytes) ≡ false =
    le-ltb (valid_len feed.limit bytes) (length bytes) (omega (arith, len, length-take (valid_len feed.limit bytes) (take feed.limit bytes))) in
    last_fault feed bytes taken g ∙ cond-false _ _ _ no_more

pub end_cut_short : (feed : Feed) (bytes : List ℕ) (taken : ℕ) → Goes feed bytes taken → 0 < length feed.pending → text_fault feed.limit bytes ≡ Some (NotUtf8 feed.start)
end_cut_short feed bytes taken g some =
    let whole = take_all feed.limit bytes (within_limit feed.limit bytes g.sound) in
    let more : nat_lt (valid_len feed.limit bytes) (length bytes) ≡ true =
    lt-ltb _ _ (omega (arith, ap length g.pending, length-drop (valid_len feed.limit bytes) (take feed.limit bytes), ap length whole)) in
    last_fault feed bytes taken g ∙ cond-true _ _ _ more ∙ ap (λ n. Some (NotUtf8 n)) (sym g.start)

pub end_ready : (feed : Feed) (bytes : List ℕ) (taken : ℕ) → Goes feed bytes taken → feed.pending ≡ []
    → (feed.cut.ended ++ map plain_line (last_line feed.cut.partial) ≡ drop taken (plain_lines_of (text_of bytes)))
    × (taken ≤ length (plain_lines_of (text_of bytes)))
end_ready feed bytes taken g none =
    let whole = nothing_left feed bytes taken g none in
    let all = cut_bytes feed.limit bytes in
    let last = map plain_line (last_line all.partial) in
    let same : all.ended ++ last ≡ plain_lines_of (text_of bytes) =
    sym (lines_are_cut (text_of (valid_front feed.limit bytes))) ∙ ap (λ t. plain_lines_of (text_of t)) whole in (
      ap (λ (d : Cut). d.ended ++ map plain_line (last_line d.partial)) g.cut ∙ sym (drop-append-le taken all.ended last g.in_order) ∙ ap (drop taken) same,
      omega (arith, g.in_order, length-append all.ended last, ap length same),
    )

-- the lines of a text without a fault are those that have ended and the last one
pub whole_lines : (limit : ℕ) (bytes : List ℕ) → text_fault limit bytes ≡ None
    → plain_lines_of (text_of bytes) ≡ (cut_bytes limit bytes).ended ++ map plain_line (last_line (cut_bytes limit bytes).partial)
whole_lines limit bytes sound =
    let two = none_of_rest (settled_fault limit bytes) _ _ sound in
    let within = within_limit limit bytes two.0 in
    let all = take_all limit bytes within in
    let long : length bytes ≤ valid_len limit bytes = ltb-false _ _ two.1 in
    let same : valid_front limit bytes ≡ bytes = take_all (valid_len limit bytes) (take limit bytes) (omega (arith, ap length all)) ∙ all in
    sym (ap (λ t. plain_lines_of (text_of t)) same) ∙ lines_are_cut (text_of (valid_front limit bytes))
  where
    none_of_rest : (o : Option TextFault) (t : Bool) (at : TextFault) → cond (is_some o) o (cond t (Some at) None) ≡ None → (o ≡ None) × (t ≡ false)
    none_of_rest None false at h = (refl, refl)
    none_of_rest None true at h = cc
    none_of_rest (Some f) t at h = cc

pub end_lost : (feed : Feed) (bytes : List ℕ) (taken : ℕ) → Goes feed bytes taken
    → IsFront feed.cut.ended (drop taken (cut_bytes feed.limit bytes).ended) × (taken ≤ length (cut_bytes feed.limit bytes).ended)
end_lost feed bytes taken g = (([], sym (append-nil _ ∙ ap (λ (d : Cut). d.ended) g.cut)), g.in_order)

pub close_stands : (old new : Feed) (bytes : List ℕ) (taken : ℕ) → old.fault ≡ None → old.ended ≡ false → StandsFor old bytes taken
    → HasClosed old new → StandsFor new bytes taken
close_stands old new bytes taken sound going stands closed =
    let g = goes old bytes taken sound going stands in
    let P : ℕ → Type 0 = λ l. text_fault l bytes ≡ None in
    let last = end_ready old bytes taken g closed.pending in
    let whole : StandsAs None true new bytes taken =
    record { sound = subst P (sym closed.limit) (end_sound old bytes taken g closed.pending); ready = closed.ready ∙ last.0; in_order = last.1 } in
    let Q : Option TextFault → Type 0 = λ o. StandsAs o new.ended new bytes taken in
    let R : Bool → Type 0 = λ b. StandsAs None b new bytes taken in
    subst Q (sym (closed.fault ∙ sound)) (subst R (sym closed.ended) whole)

-- what the end returns
pub close_answers : (r : Result (Unit {0}) TextFault) (old new : Feed) (bytes : List ℕ) (taken : ℕ) → Goes old bytes taken → Closes r old new
    → Answers r (text_fault old.limit bytes)
close_answers (Ok x) old new bytes taken g closed = end_sound old bytes taken g closed.pending
close_answers (Err NoMemory) old new bytes taken g lost = tt
close_answers (Err (NotUtf8 at)) old new bytes taken g short = end_cut_short old bytes taken g short.1 ∙ ap (λ n. Some (NotUtf8 n)) (sym short.2)
close_answers (Err (TooLong at)) old new bytes taken g none = absurd none

pub front_trans : (xs ys zs : List LineView) → IsFront xs ys → IsFront ys zs → IsFront xs zs
front_trans xs ys zs h k = (h.0 ++ k.0, k.1 ∙ ap (λ t. t ++ k.0) h.1 ∙ append_assoc xs h.0 k.0)

-- and where it leaves a feed with a fault
pub close_fails : (fault : TextFault) (old new : Feed) (bytes : List ℕ) (taken : ℕ) → Goes old bytes taken → Closes (Err fault) old new
    → StandsAs (Some fault) new.ended (failed fault new) bytes taken
close_fails NoMemory old new bytes taken g lost =
    let before = end_lost old bytes taken g in
    let P : ℕ → Type 0 = λ limit. IsFront new.cut.ended (drop taken (cut_bytes limit bytes).ended) in
    let Q : ℕ → Type 0 = λ limit. taken ≤ length (cut_bytes limit bytes).ended in
    record {
      ready = subst P (sym lost.0) (front_trans new.cut.ended old.cut.ended _ lost.1 before.0);
      in_order = subst Q (sym lost.0) before.1;
    }
close_fails (NotUtf8 at) old new bytes taken g short =
    subst (λ (f : Feed). HasFailed (NotUtf8 at) (failed (NotUtf8 at) f) bytes taken) (sym short.0)
    (record {
      told = end_cut_short old bytes taken g short.1 ∙ ap (λ n. Some (NotUtf8 n)) (sym short.2);
      ready = ap (λ (d : Cut). d.ended) g.cut;
      in_order = g.in_order;
    })
close_fails (TooLong at) old new bytes taken g none = absurd none

-- a new feed
valid_nil : utf8_valid_len [] ≡ 0
unfolding utf8_valid_len
valid_nil = refl

pub new_goes : (feed : Feed) → feed.start ≡ 0 → feed.pending ≡ [] → feed.cut ≡ nothing_cut → Goes feed [] 0
new_goes feed start pending cut =
    let w : take feed.limit [] ≡ [] = take_all feed.limit [] (omega arith) in
    let no_more : nat_lt feed.limit 0 ≡ false = le-ltb feed.limit 0 (omega arith) in
    let valid : valid_len feed.limit [] ≡ 0 = ap utf8_valid_len w ∙ valid_nil in
    let left : after_valid feed.limit [] ≡ [] = ap left_of w ∙ ap (λ n. drop n []) valid_nil in
    let text : take (utf8_valid_len (take feed.limit [])) (take feed.limit []) ≡ [] = ap (λ t. take (utf8_valid_len t) t) w ∙ ap (λ n. take n []) valid_nil in
    record {
      sound = cond-false _ _ _ (ap (λ t. is_some (utf8_error_len t)) left ∙ ap is_some error_len-nil) ∙ cond-false _ _ _ no_more;
      start = start ∙ sym valid;
      pending = pending ∙ sym left;
      cut = cut ∙ sym (ap (λ t. without 0 (cut_more nothing_cut (text_of t))) text);
      in_order = omega arith;
    }
