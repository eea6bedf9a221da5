-- Backtick strings, found one after another.
use Rattle.std.proofs.Common.{◌≡◌, ℕ, zero, suc, ◌+◌, ◌-◌, ◌<◌, ◌≤◌, ◌==◌, ◌&&◌, not, Bool, true, false, List, [], ◌∷◌, ◌++◌, length, take, drop, get_or, Option, Some, None, refl, sym, ap, ◌∙◌, arith, eq-eqb, drop-drop, take-add, append_assoc, drop-cons, length-drop, get_or-drop, subst}
use Rattle.memchr.specs.Find.{IsFirstByte, is_byte}
use Rattle.std.specs.List.{slice_range}
use Rattle.std.proofs.lemmas.List.{append-nil, drop_all}
use Rattle.std.proofs.lemmas.Bool.{eqb-true}
use Rattle.cm_scan.specs.Words.{run_length, after_run}
use Rattle.cm_scan.specs.inlines.Links.{Reading, beyond}
use Rattle.cm_scan.specs.spans.CodeSpans.{up_to_run, as_written, spanned_as_written, code_span, span_content}
use Rattle.cm_scan.specs.Scanned.{run_at}
use Rattle.cm_scan.proofs.lemmas.texts.WordsGoOn.{none-some}
use Rattle.cm_scan.proofs.lemmas.links.BracketedParts.{ahead, ahead_from, slice-none}
use Rattle.cm_scan.proofs.lemmas.texts.WordLemmas.{run_step}
use Rattle.cm_scan.proofs.lemmas.texts.FoundWords.{drop-later}

ahead-nothing : (o : Option Reading) → ahead [] o ≡ o
ahead-nothing None = refl
ahead-nothing (Some r) = refl

beyond-ahead : (b : ℕ) (front : List ℕ) (o : Option Reading) → beyond b (ahead front o) ≡ ahead (b ∷ front) o
beyond-ahead b front None = refl
beyond-ahead b front (Some r) = refl

ahead-ahead : (front more : List ℕ) (o : Option Reading) → ahead front (ahead more o) ≡ ahead (front ++ more) o
ahead-ahead front more None = refl
ahead-ahead front more (Some r) = ap (λ t. Some (record { text = t; rest = r.rest })) (sym (append_assoc front more r.text))

pub not-same : (b c : ℕ) → (b ≡ c → ⊥) → (b == c) ≡ false
not-same b c other = go (b == c) refl
  where
    go : (v : Bool) → (b == c) ≡ v → v ≡ false
    go true h = absurd (other (eqb-true b c h))
    go false h = refl

-- the next backtick
pub record Found (text : List ℕ) (at plain : ℕ) : Type 0 where
  pub inside : at + plain < length text
  pub none : (k : ℕ) → k < plain → get_or (drop at text) k 0 ≡ 96 → ⊥
  pub tick : get_or text (at + plain) 0 ≡ 96

found-in : (text : List ℕ) (at plain : ℕ) → at ≤ length text → IsFirstByte (is_byte 96) (drop at text) (Some plain) → Found text at plain
found-in text at plain within h = record {
  inside = omega (arith, within, h.0.high, length-drop at text);
  none = λ k below e. h.0.before k (omega arith) below (eq-eqb _ _ e);
  tick = sym (get_or-drop at text plain 0) ∙ eqb-true _ _ h.1;
}

pub found-at : (text bytes : List ℕ) (at plain : ℕ) → bytes ≡ drop at text → at ≤ length text → IsFirstByte (is_byte 96) bytes (Some plain) → Found text at plain
found-at text bytes at plain same within h = found-in text at plain within (subst (λ t. IsFirstByte (is_byte 96) t (Some plain)) same h)

pub nowhere : (text bytes : List ℕ) (at : ℕ) → bytes ≡ drop at text → IsFirstByte (is_byte 96) bytes None → (k : ℕ) → k < length (drop at text) → get_or (drop at text) k 0 ≡ 96 → ⊥
nowhere text bytes at same h = λ k below e. subst (λ t. IsFirstByte (is_byte 96) t None) same h k (omega arith) below (eq-eqb _ _ e)

module _ (n : ℕ) where
  -- a byte where no run starts
  passed : (in_run : Bool) (b : ℕ) (bs : List ℕ) → (b == 96 && not in_run && run_length 96 (b ∷ bs) == n) ≡ false → up_to_run n in_run (b ∷ bs) ≡ beyond b (up_to_run n (b == 96) bs)
  unfolding up_to_run
  passed in_run b bs h = ap (λ c. elim c as (λ _. Option Reading) [ true ↦ Some (record { text = []; rest = after_run 96 (b ∷ bs) }) | false ↦ beyond b (up_to_run n (b == 96) bs) ]) h

  plain-passed : (in_run : Bool) (b : ℕ) (bs : List ℕ) → (b == 96) ≡ false → up_to_run n in_run (b ∷ bs) ≡ beyond b (up_to_run n false bs)
  plain-passed in_run b bs h =
      passed in_run b bs (ap (λ c. c && not in_run && run_length 96 (b ∷ bs) == n) h) ∙ ap (λ c. beyond b (up_to_run n c bs)) h

  in-run : (c d : Bool) → (c && not true && d) ≡ false
  in-run true d = refl
  in-run false d = refl

  -- up to the next backtick
  plain-run : (bs : List ℕ) (i : ℕ) → i ≤ length bs → ((k : ℕ) → k < i → get_or bs k 0 ≡ 96 → ⊥) → up_to_run n false bs ≡ ahead (take i bs) (up_to_run n false (drop i bs))
  plain-run bs zero within none = sym (ahead-nothing (up_to_run n false bs))
  plain-run [] (suc i) within none = absurd (omega (arith, within))
  plain-run (b ∷ bs) (suc i) within none =
      plain-passed false b bs (not-same b 96 (none 0 (omega arith)))
      ∙ ap (beyond b) (plain-run bs i (omega (arith, within)) (λ k below. none (suc k) (omega (arith, below))))
      ∙ beyond-ahead b (take i bs) (up_to_run n false (drop i bs))

  nothing : up_to_run n false [] ≡ None
  unfolding up_to_run
  nothing = refl

  pub no-run-here : (bs : List ℕ) → ((k : ℕ) → k < length bs → get_or bs k 0 ≡ 96 → ⊥) → up_to_run n false bs ≡ None
  no-run-here bs none =
      plain-run bs (length bs) (omega arith) none
      ∙ ap (λ t. ahead (take (length bs) bs) (up_to_run n false t)) (drop_all (length bs) bs (omega arith)) ∙ ap (ahead (take (length bs) bs)) nothing

  -- to the end of a run
  rest-of-run : (bs : List ℕ) → up_to_run n true bs ≡ ahead (take (run_length 96 bs) bs) (up_to_run n false (after_run 96 bs))
  unfolding up_to_run run_length after_run
  rest-of-run [] = refl
  rest-of-run (b ∷ bs) = passed true b bs (in-run (b == 96) (run_length 96 (b ∷ bs) == n)) ∙ go (b == 96) refl (rest-of-run bs)
    where
      go : (c : Bool) → (b == 96) ≡ c → up_to_run n true bs ≡ ahead (take (run_length 96 bs) bs) (up_to_run n false (after_run 96 bs))
          → beyond b (up_to_run n c bs) ≡ ahead (take (elim c as (λ _. ℕ) [ true ↦ suc (run_length 96 bs) | false ↦ 0 ]) (b ∷ bs))
          (up_to_run n false (elim c as (λ _. List ℕ) [ true ↦ after_run 96 bs | false ↦ b ∷ bs ]))
      go true h k = ap (beyond b) k ∙ beyond-ahead b (take (run_length 96 bs) bs) (up_to_run n false (after_run 96 bs))
      go false h k = sym (ahead-nothing (up_to_run n false (b ∷ bs)) ∙ plain-passed false b bs h)

  -- a run of another length
  other-run : (b : ℕ) (bs : List ℕ) → b ≡ 96 → (run_length 96 (b ∷ bs) ≡ n → ⊥)
      → up_to_run n false (b ∷ bs) ≡ ahead (take (run_length 96 (b ∷ bs)) (b ∷ bs)) (up_to_run n false (after_run 96 (b ∷ bs)))
  unfolding run_length after_run
  other-run b bs same other =
      passed false b bs (ap (λ d. b == 96 && true && d) (not-same (run_length 96 (b ∷ bs)) n other) ∙ last (b == 96))
      ∙ ap (λ c. beyond b (up_to_run n c bs)) backtick ∙ ap (beyond b) (rest-of-run bs)
      ∙ beyond-ahead b (take (run_length 96 bs) bs) (up_to_run n false (after_run 96 bs))
      ∙ sym (ap (λ c. ahead (take (elim c as (λ _. ℕ) [ true ↦ suc (run_length 96 bs) | false ↦ 0 ]) (b ∷ bs))
      (up_to_run n false (elim c as (λ _. List ℕ) [ true ↦ after_run 96 bs | false ↦ b ∷ bs ]))) backtick)
    where
      backtick : (b == 96) ≡ true
      backtick = eq-eqb b 96 same

      last : (c : Bool) → (c && true && false) ≡ false
      last true = refl
      last false = refl

  -- a run of this length
  pub this-run : (b : ℕ) (bs : List ℕ) → b ≡ 96 → run_length 96 (b ∷ bs) ≡ n → up_to_run n false (b ∷ bs) ≡ Some (record { text = []; rest = after_run 96 (b ∷ bs) })
  unfolding up_to_run
  this-run b bs same length_is =
      ap (λ c. elim c as (λ _. Option Reading) [ true ↦ Some (record { text = []; rest = after_run 96 (b ∷ bs) }) | false ↦ beyond b (up_to_run n (b == 96) bs) ])
      (ap (λ c. c && true && run_length 96 (b ∷ bs) == n) (eq-eqb b 96 same) ∙ eq-eqb (run_length 96 (b ∷ bs)) n length_is)

  -- the same by places in a text

  slice-join : (text : List ℕ) (from at next : ℕ) → from ≤ at → at ≤ next → slice_range text from at ++ slice_range text at next ≡ slice_range text from next
  slice-join text from at next low high =
      let place : from + (at - from) ≡ at = omega (arith, low) in
      let size : at - from + (next - at) ≡ next - from = omega (arith, low, high) in
      ap (λ k. slice_range text from at ++ take (next - at) (drop k text)) (sym place)
      ∙ ap (λ t. slice_range text from at ++ take (next - at) t) (sym (drop-drop (at - from) from text))
      ∙ sym (take-add (at - from) (next - at) (drop from text)) ∙ ap (λ k. take k (drop from text)) size

  ahead-step : (text : List ℕ) (from at next : ℕ) (o : Option Reading) → from ≤ at → at ≤ next → up_to_run n false (drop at text) ≡ ahead (slice_range text at next) o
      → ahead_from text from next o ≡ ahead_from text from at (up_to_run n false (drop at text))
  ahead-step text from at next o low high h =
      sym (ap (ahead_from text from at) h ∙ ahead-ahead (slice_range text from at) (slice_range text at next) o ∙ ap (λ t. ahead t o) (slice-join text from at next low high))

  module _ (text : List ℕ) (from at plain : ℕ) (low : from ≤ at) (found : Found text at plain) where
    to-run : ahead_from text from (at + plain) (up_to_run n false (drop (at + plain) text)) ≡ ahead_from text from at (up_to_run n false (drop at text))
    to-run =
        let size : at + plain - at ≡ plain = omega arith in
        ahead-step text from at (at + plain) (up_to_run n false (drop (at + plain) text)) low (omega arith)
        (plain-run (drop at text) plain (omega (arith, found.inside, length-drop at text)) found.none
        ∙ ap (λ t. ahead (take plain (drop at text)) (up_to_run n false t)) (drop-drop plain at text)
        ∙ ap (λ k. ahead (take k (drop at text)) (up_to_run n false (drop (at + plain) text))) (sym size))

    module _ (end : ℕ) (run : end ≡ at + plain + run_length 96 (drop (at + plain) text)) (left : drop end text ≡ after_run 96 (drop (at + plain) text)) where
      pub further : at < end
      further = let more = run_step 96 text (at + plain) found.inside found.tick in omega (arith, run, more)

      pub past-run : (end - (at + plain) ≡ n → ⊥) → ahead_from text from end (up_to_run n false (drop end text)) ≡ ahead_from text from at (up_to_run n false (drop at text))
      past-run other =
          let size : end - (at + plain) ≡ run_length 96 (drop (at + plain) text) = omega (arith, run) in
          let front = drop-cons text (at + plain) 0 found.inside in
          ahead-step text from (at + plain) end (up_to_run n false (drop end text)) (omega (arith, low)) (omega (arith, run))
          (ap (up_to_run n false) front
          ∙ other-run (get_or text (at + plain) 0) (drop (suc (at + plain)) text) found.tick (λ e. other (size ∙ ap (run_length 96) front ∙ e))
          ∙ ap (λ t. ahead (take (run_length 96 t) t) (up_to_run n false (after_run 96 t))) (sym front)
          ∙ ap (λ k. ahead (take k (drop (at + plain) text)) (up_to_run n false (after_run 96 (drop (at + plain) text)))) (sym size)
          ∙ ap (λ t. ahead (slice_range text (at + plain) end) (up_to_run n false t)) (sym left))
          ∙ to-run

      pub at-run : end - (at + plain) ≡ n → run_at text from (Some (at + plain, end)) ≡ ahead_from text from at (up_to_run n false (drop at text))
      at-run same =
          let size : end - (at + plain) ≡ run_length 96 (drop (at + plain) text) = omega (arith, run) in
          let front = drop-cons text (at + plain) 0 found.inside in
          ap (λ t. Some (record { text = t; rest = drop end text })) (sym (append-nil (slice_range text from (at + plain))))
          ∙ ap (λ t. Some (record { text = slice_range text from (at + plain) ++ []; rest = t })) left
          ∙ sym (ap (ahead_from text from (at + plain)) (ap (up_to_run n false) front
          ∙ this-run (get_or text (at + plain) 0) (drop (suc (at + plain)) text) found.tick (sym (size ∙ ap (run_length 96) front) ∙ same)
          ∙ ap (λ t. Some (record { text = []; rest = after_run 96 t })) (sym front)))
          ∙ to-run

  pub no-run-left : (text : List ℕ) (from at : ℕ) → ((k : ℕ) → k < length (drop at text) → get_or (drop at text) k 0 ≡ 96 → ⊥)
      → ahead_from text from at (up_to_run n false (drop at text)) ≡ None
  no-run-left text from at none = ap (ahead_from text from at) (no-run-here (drop at text) none)

  pub from-here : (text : List ℕ) (from : ℕ) → ahead_from text from from (up_to_run n false (drop from text)) ≡ up_to_run n false (drop from text)
  from-here text from =
      ap (λ t. ahead t (up_to_run n false (drop from text))) (slice-none text from) ∙ ahead-nothing (up_to_run n false (drop from text))

  -- where no run is found, none is found further on

  beyond-none : (b : ℕ) (o : Option Reading) → beyond b o ≡ None → o ≡ None
  beyond-none b None h = refl
  beyond-none b (Some r) h = none-some (sym h)

  pub one-further : (in_run : Bool) (b : ℕ) (bs : List ℕ) → up_to_run n in_run (b ∷ bs) ≡ None → up_to_run n (b == 96) bs ≡ None
  unfolding up_to_run
  one-further in_run b bs h = go (b == 96 && not in_run && run_length 96 (b ∷ bs) == n) h
    where
      go : (c : Bool) → elim c as (λ _. Option Reading) [ true ↦ Some (record { text = []; rest = after_run 96 (b ∷ bs) }) | false ↦ beyond b (up_to_run n (b == 96) bs) ] ≡ None
          → up_to_run n (b == 96) bs ≡ None
      go true e = none-some (sym e)
      go false e = beyond-none b (up_to_run n (b == 96) bs) e

  beyond-run : (in_run : Bool) (bs : List ℕ) → up_to_run n in_run bs ≡ None → up_to_run n false (after_run 96 bs) ≡ None
  unfolding after_run
  beyond-run in_run [] h = nothing
  beyond-run in_run (b ∷ bs) h = go (b == 96) refl (beyond-run (b == 96) bs (one-further in_run b bs h))
    where
      go : (c : Bool) → (b == 96) ≡ c → up_to_run n false (after_run 96 bs) ≡ None → up_to_run n false (elim c as (λ _. List ℕ) [ true ↦ after_run 96 bs | false ↦ b ∷ bs ]) ≡ None
      go true e k = k
      go false e k = plain-passed false b bs e ∙ sym (plain-passed in_run b bs e) ∙ h

  further-none : (in_run : Bool) (bs : List ℕ) (k : ℕ) → up_to_run n in_run bs ≡ None → up_to_run n false (after_run 96 (drop k bs)) ≡ None
  further-none in_run bs zero h = beyond-run in_run bs h
  further-none in_run [] (suc k) h = beyond-run in_run [] h
  further-none in_run (b ∷ bs) (suc k) h = further-none (b == 96) bs k (one-further in_run b bs h)

written-none : (n : ℕ) (bs : List ℕ) → up_to_run n false bs ≡ None → as_written n bs ≡ None
written-none zero bs h = refl
written-none (suc n) bs h = h

-- no other run starts after a run

after-drop : (bs : List ℕ) → drop (run_length 96 bs) bs ≡ after_run 96 bs
unfolding run_length after_run
after-drop [] = refl
after-drop (b ∷ bs) = go (b == 96) (after-drop bs)
  where
    go : (c : Bool) → drop (run_length 96 bs) bs ≡ after_run 96 bs
        → drop (elim c as (λ _. ℕ) [ true ↦ suc (run_length 96 bs) | false ↦ 0 ]) (b ∷ bs) ≡ elim c as (λ _. List ℕ) [ true ↦ after_run 96 bs | false ↦ b ∷ bs ]
    go true k = k
    go false k = refl

after-twice : (bs : List ℕ) → after_run 96 (after_run 96 bs) ≡ after_run 96 bs
unfolding after_run
after-twice [] = refl
after-twice (b ∷ bs) = go (b == 96) refl (after-twice bs)
  where
    go : (c : Bool) → (b == 96) ≡ c → after_run 96 (after_run 96 bs) ≡ after_run 96 bs
        → after_run 96 (elim c as (λ _. List ℕ) [ true ↦ after_run 96 bs | false ↦ b ∷ bs ]) ≡ elim c as (λ _. List ℕ) [ true ↦ after_run 96 bs | false ↦ b ∷ bs ]
    go true e k = k
    go false e k = ap (λ c. elim c as (λ _. List ℕ) [ true ↦ after_run 96 bs | false ↦ b ∷ bs ]) e

-- where no run is found from a place before a backtick string's end, the string starts no code span
pub none-beyond : (n : ℕ) (text : List ℕ) (from at start : ℕ) → start ≡ at + n → run_length 96 (drop at text) ≡ n → from ≤ start → up_to_run n false (drop from text) ≡ None
    → spanned_as_written (drop at text) ≡ None
unfolding spanned_as_written
none-beyond n text from at start place same low h =
    let left = sym (after-drop (drop at text)) ∙ ap (λ k. drop k (drop at text)) same ∙ drop-drop n at text ∙ ap (λ k. drop k text) (sym place) in
    ap (λ m. as_written m (after_run 96 (drop at text))) same
    ∙ written-none n (after_run 96 (drop at text))
    (ap (up_to_run n false) (sym (after-twice (drop at text))) ∙ ap (λ t. up_to_run n false (after_run 96 t)) (left ∙ drop-later text from start low)
    ∙ further-none n false (drop from text) (start - from) h)

-- where no run is found after a run of another length, none is found from before it either
pub none-before : (n : ℕ) (text : List ℕ) (at plain : ℕ) → Found text at plain → (end : ℕ) → end ≡ at + plain + run_length 96 (drop (at + plain) text) → drop end text ≡ after_run 96 (drop (at + plain) text)
    → (end - (at + plain) ≡ n → ⊥) → up_to_run n false (drop end text) ≡ None → up_to_run n false (drop at text) ≡ None
none-before n text at plain found end run left other h =
    sym (past-run n text at at plain (omega arith) found end run left other ∙ from-here n text at) ∙ ap (ahead_from text at end) h

-- where a backtick string has no end, no later one of the same length has one
no-run-inside : (n : ℕ) (bs : List ℕ) → up_to_run n false (after_run 96 bs) ≡ None → up_to_run n true bs ≡ None
no-run-inside n bs h = rest-of-run n bs ∙ ap (ahead (take (run_length 96 bs) bs)) h

span-later : (m n : ℕ) (bs : List ℕ) (k : ℕ) → run_length 96 bs ≡ n → as_written n (after_run 96 bs) ≡ None → m ≡ n → as_written m (after_run 96 (drop k bs)) ≡ None
span-later m zero bs k e h same = ap (λ l. as_written l (after_run 96 (drop k bs))) same
span-later m (suc n) bs k e h same = ap (λ l. as_written l (after_run 96 (drop k bs))) same ∙ further-none (suc n) true bs k (no-run-inside (suc n) bs h)

pub no-span-later : (text : List ℕ) (at later : ℕ) → at ≤ later → None ≡ spanned_as_written (drop at text) → run_length 96 (drop later text) ≡ run_length 96 (drop at text)
    → spanned_as_written (drop later text) ≡ None
unfolding spanned_as_written
no-span-later text at later low h same =
    let place = drop-later text at later low in
    ap (λ t. as_written (run_length 96 t) (after_run 96 t)) place
    ∙ span-later (run_length 96 (drop (later - at) (drop at text))) (run_length 96 (drop at text)) (drop at text) (later - at) refl (sym h) (ap (run_length 96) (sym place) ∙ same)

-- what a scanner returns

written-some : (n : ℕ) (bs : List ℕ) → 0 < n → as_written n bs ≡ up_to_run n false bs
written-some zero bs some = absurd (omega (arith, some))
written-some (suc n) bs some = refl

pub span-none : (text : List ℕ) (at start : ℕ) → start ≡ at + run_length 96 (drop at text) → start ≡ at → None ≡ spanned_as_written (drop at text)
unfolding spanned_as_written
span-none text at start run same = let none : run_length 96 (drop at text) ≡ 0 = omega (arith, run, same) in sym (ap (λ m. as_written m (after_run 96 (drop at text))) none)

pub span-is : (text : List ℕ) (at start : ℕ) → start ≡ at + run_length 96 (drop at text) → drop start text ≡ after_run 96 (drop at text) → (start ≡ at → ⊥)
    → up_to_run (start - at) false (drop start text) ≡ spanned_as_written (drop at text)
unfolding spanned_as_written
span-is text at start run left other =
    let size : start - at ≡ run_length 96 (drop at text) = omega (arith, run) in
    let some : 0 < run_length 96 (drop at text) = omega (arith, run, other) in
    ap (λ m. up_to_run m false (drop start text)) size ∙ ap (up_to_run (run_length 96 (drop at text)) false) left
    ∙ sym (written-some (run_length 96 (drop at text)) (after_run 96 (drop at text)) some)

pub span-content : (text : List ℕ) (o : Option Reading) → o ≡ spanned_as_written text → span_content o ≡ code_span text
unfolding spanned_as_written code_span
span-content text o h = ap span_content h
