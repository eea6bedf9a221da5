-- The markers of list items, by their digits and what follows them.
use Rattle.std.proofs.Common.{⊎_elim, ◌≡◌, ℕ, zero, suc, ◌+◌, ◌-◌, ◌*◌, ◌<◌, ◌≤◌, ◌==◌, true, false, List, [], ◌∷◌, length, drop, get_or, Some, None, refl, sym, ap, ◌∙◌, arith, add-one, drop-cons}
use Rattle.std.specs.Prelude.{Option, if◌then◌else◌}
use Rattle.std.specs.List.{fold}
use Rattle.std.specs.Char.{is_ascii_digit}
use Rattle.std.proofs.lemmas.Bool.{cases_Bool}
use Rattle.std.proofs.lemmas.List.{drop_all}
use Rattle.cm_tree.specs.declared.tree.ListKind.{ListKind}
use Rattle.cm_scan.specs.Words.{front_of, skip, ◌<|>◌}
use Rattle.cm_scan.specs.blocks.LineForms.{most_digits, ItemMarker, bullet_kind, ordered_kind, marker_at_gap, bullet_marker, decimal_value, marker_after, ordered_marker, item_marker}
use Rattle.cm_scan.specs.steps.LineSteps.{with_digit}

-- digits

front-digit : (b : ℕ) (bs : List ℕ) → is_ascii_digit b ≡ true → front_of is_ascii_digit (b ∷ bs) ≡ b ∷ front_of is_ascii_digit bs
unfolding front_of
front-digit b bs digit = grind (arith, digit)

front-other : (b : ℕ) (bs : List ℕ) → is_ascii_digit b ≡ false → front_of is_ascii_digit (b ∷ bs) ≡ []
unfolding front_of
front-other b bs other = grind (arith, other)

skip-digit : (b : ℕ) (bs : List ℕ) → is_ascii_digit b ≡ true → skip is_ascii_digit (b ∷ bs) ≡ skip is_ascii_digit bs
unfolding skip
skip-digit b bs digit = grind (arith, digit)

skip-other : (b : ℕ) (bs : List ℕ) → is_ascii_digit b ≡ false → skip is_ascii_digit (b ∷ bs) ≡ b ∷ bs
unfolding skip
skip-other b bs other = grind (arith, other)

module _ (bs : List ℕ) (i : ℕ) where
  module _ (within : i < length bs) where
    pub front_step : is_ascii_digit (get_or bs i 0) ≡ true → front_of is_ascii_digit (drop i bs) ≡ get_or bs i 0 ∷ front_of is_ascii_digit (drop (i + 1) bs)
    front_step digit = rw (drop-cons bs i 0, add-one) (front-digit (get_or bs i 0) (drop (suc i) bs) digit)

    pub skip_step : is_ascii_digit (get_or bs i 0) ≡ true → skip is_ascii_digit (drop i bs) ≡ skip is_ascii_digit (drop (i + 1) bs)
    skip_step digit = rw (drop-cons bs i 0, add-one) (skip-digit (get_or bs i 0) (drop (suc i) bs) digit)

    pub front_stop : is_ascii_digit (get_or bs i 0) ≡ false → front_of is_ascii_digit (drop i bs) ≡ []
    front_stop other = rw (drop-cons bs i 0) (front-other (get_or bs i 0) (drop (suc i) bs) other)

    pub skip_stop : is_ascii_digit (get_or bs i 0) ≡ false → skip is_ascii_digit (drop i bs) ≡ get_or bs i 0 ∷ drop (i + 1) bs
    skip_stop other = rw (drop-cons bs i 0, add-one) (skip-other (get_or bs i 0) (drop (suc i) bs) other)

  pub front_end : length bs ≤ i → front_of is_ascii_digit (drop i bs) ≡ []
  unfolding front_of
  front_end past = rw (drop_all i bs past) refl

  pub skip_end : length bs ≤ i → skip is_ascii_digit (drop i bs) ≡ []
  unfolding skip
  skip_end past = rw (drop_all i bs past) refl

-- the bound of a number with the given number of digits
abbrev pub bound : ℕ → ℕ
bound zero = 1
bound (suc k) = 10 * bound k

pub bound_step : (k : ℕ) → bound (k + 1) ≡ 10 * bound k
bound_step k = rw add-one refl

bound-more : (d k : ℕ) → bound k ≤ bound (d + k)
bound-more zero k =
    let e : 0 + k ≡ k = omega arith in
    let h : bound (0 + k) ≡ bound k = ap bound e in
    omega (arith, h)
bound-more (suc d) k =
    let e : suc d + k ≡ suc (d + k) = omega arith in
    let h : bound (suc d + k) ≡ bound (suc (d + k)) = ap bound e in
    let t : bound (suc (d + k)) ≡ 10 * bound (d + k) = refl in
    omega (arith, bound-more d k, h, t)

pub bound_most : (k : ℕ) → k < 9 → bound k ≤ 100000000
bound_most k few =
    let e : 8 - k + k ≡ 8 = omega arith in
    let h : bound (8 - k + k) ≡ 100000000 = ap bound e in
    omega (arith, bound-more (8 - k) k, h)

-- a marker, by its digits and what is after them
abbrev pub by_parts : List ℕ → List ℕ → Option ItemMarker
by_parts [] rest = bullet_marker rest
by_parts (d ∷ ds) rest = marker_after (d ∷ ds) rest

or_none : (x : Option ItemMarker) → (x <|> None) ≡ x
or_none None = refl
or_none (Some m) = refl

no_bullet : (b : ℕ) → is_ascii_digit b ≡ true → bullet_kind b ≡ None
no_bullet b digit = grind (arith, digit)

pub marker-parts : (xs : List ℕ) → item_marker xs ≡ by_parts (front_of is_ascii_digit xs) (skip is_ascii_digit xs)
unfolding item_marker bullet_marker ordered_marker marker_after front_of skip
marker-parts [] = refl
marker-parts (b ∷ bs) = ⊎_elim
    (λ (e : is_ascii_digit b ≡ true). grind (arith, e, no_bullet b e))
    (λ (e : is_ascii_digit b ≡ false). grind (arith, e, or_none (marker_at_gap (bullet_kind b) 0 bs)))
    (cases_Bool (is_ascii_digit b))

parts-nothing : (ds : List ℕ) → by_parts ds [] ≡ None
unfolding bullet_marker marker_after
parts-nothing [] = refl
parts-nothing (d ∷ ds) = refl

parts-many : (ds rest : List ℕ) → most_digits < length ds → by_parts ds rest ≡ None
unfolding marker_after
parts-many [] rest many = absurd (omega arith)
parts-many (d ∷ ds) [] many = refl
parts-many (d ∷ ds) (b ∷ bs) many = grind (arith, many)

-- the kind that a byte after the given number of digits makes
abbrev pub kind_at : ℕ → ℕ → ℕ → Option ListKind
kind_at n number b = if n == 0 then bullet_kind b else ordered_kind number b

kind-digit : (n number b : ℕ) → is_ascii_digit b ≡ true → kind_at n number b ≡ None
kind-digit n number b digit = grind (arith, digit)

parts-kind : (ds : List ℕ) (b : ℕ) (beyond : List ℕ) → length ds ≤ most_digits
    → by_parts ds (b ∷ beyond) ≡ marker_at_gap (kind_at (length ds) (decimal_value ds) b) (length ds) beyond
unfolding bullet_marker marker_after
parts-kind [] b beyond few = refl
parts-kind (d ∷ ds) b beyond few = grind (arith, few)

-- fewer, or that many and more
le_from_not : (n : ℕ) → (n < most_digits → ⊥) → most_digits ≤ n
le_from_not n fails = omega arith

-- a marker, by the place after the most digits that it may have
module _ (bs : List ℕ) (at e number : ℕ)
    (begin : at ≤ e)
    (count : e + length (front_of is_ascii_digit (drop e bs)) ≡ at + length (front_of is_ascii_digit (drop at bs)))
    (value : fold with_digit number (front_of is_ascii_digit (drop e bs)) ≡ decimal_value (front_of is_ascii_digit (drop at bs)))
    (left : skip is_ascii_digit (drop e bs) ≡ skip is_ascii_digit (drop at bs))
    (few : e - at ≤ most_digits)
    (whole : e - at < most_digits → front_of is_ascii_digit (drop e bs) ≡ []) where
  -- with nothing after them
  pub marker-end : length bs ≤ e → item_marker (drop at bs) ≡ None
  marker-end past =
      let none : skip is_ascii_digit (drop at bs) ≡ [] = sym left ∙ skip_end bs e past in
      marker-parts (drop at bs) ∙ ap (by_parts (front_of is_ascii_digit (drop at bs))) none ∙ parts-nothing (front_of is_ascii_digit (drop at bs))

  module _ (within : e < length bs) where
    after-digits : is_ascii_digit (get_or bs e 0) ≡ true → item_marker (drop at bs) ≡ None
    after-digits digit =
        let one : length (front_of is_ascii_digit (drop e bs)) ≡ suc (length (front_of is_ascii_digit (drop (e + 1) bs))) = ap length (front_step bs e within digit) in
        let all : most_digits ≤ e - at = le_from_not (e - at) (λ less. grind (arith, one, whole less)) in
        marker-parts (drop at bs) ∙ parts-many (front_of is_ascii_digit (drop at bs)) (skip is_ascii_digit (drop at bs)) (omega (arith, one, count, all))

    after-number : is_ascii_digit (get_or bs e 0) ≡ false
        → item_marker (drop at bs) ≡ marker_at_gap (kind_at (e - at) number (get_or bs e 0)) (e - at) (drop (e + 1) bs)
    after-number other =
        let none : front_of is_ascii_digit (drop e bs) ≡ [] = front_stop bs e within other in
        let ds : List ℕ = front_of is_ascii_digit (drop at bs) in
        let n : length ds ≡ e - at = omega (arith, count, ap length none) in
        let v : decimal_value ds ≡ number = sym value ∙ ap (fold with_digit number) none in
        let rest : skip is_ascii_digit (drop at bs) ≡ get_or bs e 0 ∷ drop (e + 1) bs = sym left ∙ skip_stop bs e within other in
        marker-parts (drop at bs) ∙ ap (by_parts ds) rest ∙ parts-kind ds (get_or bs e 0) (drop (e + 1) bs) (omega (arith, n, few))
        ∙ ap (λ k. marker_at_gap (kind_at k (decimal_value ds) (get_or bs e 0)) k (drop (e + 1) bs)) n
        ∙ ap (λ k. marker_at_gap (kind_at (e - at) k (get_or bs e 0)) (e - at) (drop (e + 1) bs)) v

    -- with a byte after them
    pub marker-at : item_marker (drop at bs) ≡ marker_at_gap (kind_at (e - at) number (get_or bs e 0)) (e - at) (drop (e + 1) bs)
    marker-at = ⊎_elim
        (λ (digit : is_ascii_digit (get_or bs e 0) ≡ true). after-digits digit
        ∙ ap (λ kind. marker_at_gap kind (e - at) (drop (e + 1) bs)) (sym (kind-digit (e - at) number (get_or bs e 0) digit)))
        (λ (other : is_ascii_digit (get_or bs e 0) ≡ false). after-number other)
        (cases_Bool (is_ascii_digit (get_or bs e 0)))
