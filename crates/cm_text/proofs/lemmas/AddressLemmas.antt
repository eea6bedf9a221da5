-- Where a scheme ends.
use Rattle.std.proofs.Common.{◌≡◌, ℕ, ◌+◌, ◌-◌, ◌≤◌, Bool, true, false, not, ◌||◌, ◌==◌, Option, Some, None, List, [], ◌∷◌, get_or, length, take, drop, refl, sym, ap, ◌∙◌, arith, length-drop}
use Rattle.std.specs.List.{position_or_len, prefix_len}
use Rattle.std.proofs.lemmas.Bool.Decides.{nat_tests}
use Rattle.std.proofs.lemmas.List.Sums.{prefix_len-le-length}
use Rattle.std.specs.Option.{option_map}
use Rattle.std.proofs.lemmas.List.{get_or_past, get_or-drop}
use Rattle.cm_text.specs.Addresses.{begins_a_part, address_scheme}

abbrev pub ends_scheme : ℕ → Bool
ends_scheme b = b == 58 || begins_a_part b

abbrev pub scheme_before : ℕ → List ℕ → Option (List ℕ)
scheme_before n bs = elim (get_or bs n 0 == 58) [ true ↦ Some (take n bs) | false ↦ None ]

scheme-before : (bs : List ℕ) → address_scheme bs ≡ scheme_before (position_or_len ends_scheme bs) bs
unfolding address_scheme
scheme-before [] = refl
scheme-before (b ∷ bs) = at-end (scheme-before bs) (b == 58) (begins_a_part b) refl refl
  where
    onto : (t : Bool) (scheme : List ℕ) → option_map (λ s. b ∷ s) (elim t [ true ↦ Some scheme | false ↦ None ]) ≡ elim t [ true ↦ Some (b ∷ scheme) | false ↦ None ]
    onto true scheme = refl
    onto false scheme = refl

    at-end : address_scheme bs ≡ scheme_before (position_or_len ends_scheme bs) bs → (s t : Bool) → (b == 58) ≡ s → begins_a_part b ≡ t → address_scheme (b ∷ bs) ≡ scheme_before (position_or_len ends_scheme (b ∷ bs)) (b ∷ bs)
    at-end more true t e f = grind (arith, e)
    at-end more false true e f = grind (arith, e, f)
    at-end more false false e f = grind (arith, e, f, more, onto (get_or bs (position_or_len ends_scheme bs) 0 == 58) (take (position_or_len ends_scheme bs) bs))

-- the scheme, by what is left after the bytes that continue one
module _ (bs rest : List ℕ) (left : rest ≡ drop (prefix_len (λ b. not (ends_scheme b)) bs) bs) where
  count : length bs - length rest ≡ position_or_len ends_scheme bs
  count = omega (arith, ap length left, length-drop (position_or_len ends_scheme bs) bs, prefix_len-le-length (λ b. not (ends_scheme b)) bs)

  next : (b : ℕ) (beyond : List ℕ) → rest ≡ b ∷ beyond → get_or bs (position_or_len ends_scheme bs) 0 ≡ b
  next b beyond is =
      let place : position_or_len ends_scheme bs + 0 ≡ position_or_len ends_scheme bs = omega arith in
      ap (λ n. get_or bs n 0) (sym place) ∙ sym (get_or-drop (position_or_len ends_scheme bs) bs 0 0) ∙ ap (λ t. get_or t 0 0) (sym left ∙ is)

  pub scheme-found : (beyond : List ℕ) → rest ≡ 58 ∷ beyond → address_scheme bs ≡ Some (take (length bs - length rest) bs)
  scheme-found beyond is = scheme-before bs ∙ grind (arith, next 58 beyond is, count)

  pub scheme-other : (b : ℕ) (beyond : List ℕ) → rest ≡ b ∷ beyond → (b ≡ 58 → ⊥) → address_scheme bs ≡ None
  scheme-other b beyond is other = scheme-before bs ∙ grind (arith, nat_tests, next b beyond is, other)

  pub scheme-none : rest ≡ [] → address_scheme bs ≡ None
  scheme-none is =
      let past : length bs ≤ position_or_len ends_scheme bs = omega (arith, count, ap length is) in
      scheme-before bs ∙ grind (arith, get_or_past bs (position_or_len ends_scheme bs) 0 past)
