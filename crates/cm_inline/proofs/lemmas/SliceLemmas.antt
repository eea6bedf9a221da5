-- A source between its places.
use Rattle.cm_inline.proofs.lemmas.Words.{◌≡◌, ℕ, ◌+◌, ◌-◌, ◌<◌, ◌≤◌, List, [], ◌∷◌, ◌++◌, length, take, drop, get_or, reverse, sym, ap, ◌∙◌, arith, drop-drop}
use Rattle.cm_inline.proofs.lemmas.Words.{take-add, slice_range, reverse-append, drop_more, take-append-drop, rules}

-- the source between two places
pub slice-front : (source : List ℕ) (at end : ℕ) → at ≤ end → drop at source ≡ slice_range source at end ++ drop end source
slice-front source at end low =
    let place : at + (end - at) ≡ end = omega (arith, low) in
    sym (take-append-drop (end - at) (drop at source)) ∙ ap (λ t. slice_range source at end ++ t) (drop-drop (end - at) at source ∙ ap (λ n. drop n source) place)

-- what is before a place, the last first
pub before-later : (source : List ℕ) (at end : ℕ) → at ≤ end → reverse (take end source) ≡ reverse (slice_range source at end) ++ reverse (take at source)
before-later source at end low =
    let place : at + (end - at) ≡ end = omega (arith, low) in
    ap (λ n. reverse (take n source)) (sym place) ∙ ap reverse (take-add at (end - at) source) ∙ reverse-append (take at source) (slice_range source at end)

pub one-slice : (source : List ℕ) (at : ℕ) → at < length source → slice_range source at (at + 1) ≡ get_or source at 0 ∷ []
one-slice source at within =
    let one : at + 1 - at ≡ 1 = omega arith in
    ap (λ n. take n (drop at source)) one ∙ ap (take 1) (drop_more source at 0 within)

-- what was read up to a place, and the byte there
pub before-one : (source : List ℕ) (at end : ℕ) → at < end → at < length source → reverse (slice_range source (at + 1) end) ++ get_or source at 0 ∷ reverse (take at source) ≡ reverse (take end source)
before-one source at end low within =
    ap (λ t. reverse (slice_range source (at + 1) end) ++ t) (sym (before-later source at (at + 1) (omega arith) ∙ ap (λ t. reverse t ++ reverse (take at source)) (one-slice source at within)))
    ∙ sym (before-later source (at + 1) end (omega (arith, low)))

-- between three places, and none
pub slice-both : (source : List ℕ) (from to end : ℕ) → from ≤ to → to ≤ end → slice_range source from end ≡ slice_range source from to ++ slice_range source to end
slice-both source from to end first second =
    let long : end - from ≡ to - from + (end - to) = omega (arith, first, second) in
    let place : from + (to - from) ≡ to = omega (arith, first) in
    search (rules, take-add, drop-drop)

pub slice-none : (source : List ℕ) (from : ℕ) → slice_range source from from ≡ []
slice-none source from = let none : from - from ≡ 0 = omega arith in ap (λ n. take n (drop from source)) none
