-- The next byte that passes a test, found many lanes at a time.
use Rattle.std.proofs.Common.{◌≡◌, ℕ, zero, suc, ◌+◌, ◌-◌, ◌*◌, ◌/◌, ◌%◌, ◌^◌, ◌<◌, ◌≤◌, ◌==◌, ◌||◌, bit_and, Bool, true, false, not, cond, eqb, replicate, List, [], ◌∷◌, map, nat_lt, Option, Some, None, inl, inr, length, drop, get_or, subst, refl, sym, ap, ap₂, ◌∙◌, arith, w8, Fits, length-drop}
use Rattle.std.specs.Simd.Lanes.{zip2, mask_l, top, Each1}
use Rattle.std.proofs.lemmas.Nat.{and_le_r}
use Rattle.std.proofs.lemmas.Simd.{map-map, mask_l-mod, zip2_splat, swz_l, length-swz_l, get_or-swz_l_below, SwzOk, SwzOk-from_below}
use Rattle.std.proofs.lemmas.List.{length-map, map-id, ext_get_or, get_or-drop, get_or-map}
use Rattle.std.specs.Prelude.{IsUtf8}
use Rattle.std.specs.Str.{IsCharBoundary}
use Rattle.std.proofs.lemmas.Str.{IsCharBoundary-start, IsCharBoundary-after_ascii}
use Rattle.std.proofs.lemmas.Bool.Decides.{nat_tests}
use Rattle.std.proofs.lemmas.List.Sums.{prefix_len-le-length, position_or_len_is, fails_before_first, passes_at_first}
use Rattle.std.proofs.lemmas.Bool.{cases_lt, agree_below, agree_below_at, ltb-true, ltb-false, true≢false}
use Rattle.std.specs.Bool.{then_some}
use Rattle.std.specs.Option.{is_some}
use Rattle.std.specs.List.{list_all, position_or_len, prefix_len}
use Rattle.memchr.specs.Find.{IsFirstByte}
use Rattle.cm_text.specs.Search.{next_place, is_markup, is_marked, is_no_space}

zip2-map : (h : ℕ → ℕ → ℕ) (f g : ℕ → ℕ) (xs : List ℕ) → zip2 h (map f xs) (map g xs) ≡ map (λ x. h (f x) (g x)) xs
zip2-map h f g [] = refl
zip2-map h f g (x ∷ xs) = ap (λ r. h (f x) (g x) ∷ r) (zip2-map h f g xs)

-- an operation on two vectors that were computed lane by lane from v
pub joined : (h : ℕ → ℕ → ℕ) (f g : ℕ → ℕ) (v : List ℕ) {a b : List ℕ} → a ≡ map f v → b ≡ map g v → zip2 h a b ≡ map (λ x. h (f x) (g x)) v
joined h f g v p q = ap₂ (zip2 h) p q ∙ zip2-map h f g v

abbrev pub hit : ℕ → ℕ → ℕ
hit a b = cond (eqb a b) 255 0

-- `simd_eq` with a splat
pub hits : (v : List ℕ) (f : ℕ → ℕ) (y n : ℕ) → length v ≡ n → {a : List ℕ} → a ≡ map f v → zip2 hit a (replicate n y) ≡ map (λ x. hit (f x) y) v
hits v f y n long lanes =
    ap (λ a. zip2 hit a (replicate n y)) lanes ∙ zip2_splat hit (map f v) n y (length-map v f ∙ long) ∙ map-map (λ x. hit x y) f v

-- ---- a look-up in a table of 16, at places that were computed lane by lane from v

-- it can't fail
pub looks-up : (g : ℕ → ℕ) → ((x : ℕ) → x < 256 → g x < 16) → (v js : List ℕ) → length v ≡ 16 → Each1 (Fits w8) v → js ≡ map g v → SwzOk w8 16 16 0 js
looks-up g small v js long fits places =
    let many : length js ≡ 16 = ap length places ∙ length-map v g ∙ long in
    SwzOk-from_below w8 16 1 16 0 js refl (omega (arith, many)) (subst (Each1 (λ j. j < 16)) (sym places) (each v fits))
  where
    each : (v : List ℕ) → Each1 (Fits w8) v → Each1 (λ j. j < 16) (map g v)
    each [] fits = tt
    each (x ∷ xs) fits = (small x fits.0.fits, each xs fits.1)

pub looked-up : (g : ℕ → ℕ) → ((x : ℕ) → x < 256 → g x < 16) → (table v js : List ℕ) → length v ≡ 16 → Each1 (Fits w8) v → js ≡ map g v
    → swz_l w8 16 table 0 js ≡ map (λ x. get_or table (g x) 0) v
looked-up g small table v js long fits places =
    let many : length js ≡ 16 = ap length places ∙ length-map v g ∙ long in
    ext_get_or 0 _ _ (length-swz_l w8 16 table 0 js ∙ many ∙ sym (length-map v (λ x. get_or table (g x) 0) ∙ long)) (λ i h.
    let lt : i < 16 = omega (arith, h, length-swz_l w8 16 table 0 js, many) in
    let within : i < length v = omega (arith, long) in
    let is : get_or js i 0 ≡ g (get_or v i 0) = ap (λ l. get_or l i 0) places ∙ get_or-map g v i 0 0 within in
    let below : get_or js i 0 < 16 = omega (arith, is, small (get_or v i 0) (below_from_Fits-at v i fits)) in
    let place : 16 * ((0 + i) / 16) + get_or js i 0 ≡ get_or js i 0 = omega arith in
    get_or-swz_l_below w8 16 table 0 js i (omega (arith, many)) below
    ∙ ap (λ k. get_or table k 0) (place ∙ is)
    ∙ sym (get_or-map (λ x. get_or table (g x) 0) v i 0 0 within))
  where
    below_from_Fits-at : (v : List ℕ) (i : ℕ) → Each1 (Fits w8) v → get_or v i 0 < 256
    below_from_Fits-at [] i fits = omega arith
    below_from_Fits-at (x ∷ xs) zero fits = fits.0.fits
    below_from_Fits-at (x ∷ xs) (suc i) fits = below_from_Fits-at xs i fits.1

-- the last four bits as places
pub last-bits : (v : List ℕ) → length v ≡ 16 → zip2 bit_and v (replicate 16 15) ≡ map (λ x. bit_and x 15) v
last-bits v long = zip2_splat {Y = ℕ} bit_and v 16 15 long

pub last-few : (x : ℕ) → x < 256 → bit_and x 15 < 16
last-few x small = omega (arith, and_le_r x 15)

-- `swizzle_dyn` at these places can't fail
pub places-ok : (v : List ℕ) → length v ≡ 16 → Each1 (Fits w8) v → SwzOk w8 16 16 0 (zip2 bit_and v (replicate 16 15))
places-ok v long fits = looks-up (λ x. bit_and x 15) last-few v _ long fits (last-bits v long)

-- which lanes are in the table, each at the place of its last four bits
pub in-table : (table v : List ℕ) → length v ≡ 16 → Each1 (Fits w8) v
    → zip2 hit (swz_l w8 16 table 0 (zip2 bit_and v (replicate 16 15))) v ≡ map (λ x. hit (get_or table (bit_and x 15) 0) x) v
in-table table v long fits =
    joined hit (λ x. get_or table (bit_and x 15) 0) (λ x. x) v (looked-up (λ x. bit_and x 15) last-few table v _ long fits (last-bits v long)) (sym (map-id v))

tops : (f : ℕ → ℕ) (p : ℕ → Bool) → agree_below (λ x. top 7 (f x)) p 256 ≡ true → (v : List ℕ) → Each1 (Fits w8) v → map (top 7) (map f v) ≡ map p v
tops f p agree [] fits = refl
tops f p agree (x ∷ xs) fits = ap₂ (λ a b. a ∷ b) (agree_below_at (λ y. top 7 (f y)) p 256 x agree fits.0.fits) (tops f p agree xs fits.1)

-- the mask of lanes whose top bits say of each byte whether it passes
pub masked : (f : ℕ → ℕ) (p : ℕ → Bool) → agree_below (λ x. top 7 (f x)) p 256 ≡ true → (v z : List ℕ) → length v ≤ 64 → Each1 (Fits w8) v → z ≡ map f v
    → mask_l (map (top 7) z) % 2 ^ 64 ≡ mask_l (map p v)
masked f p agree v z few fits lanes =
    ap (λ l. mask_l l % 2 ^ 64) (ap (map (top 7)) lanes ∙ tops f p agree v fits) ∙ mask_l-mod (map p v) 64 (omega (arith, length-map v p))

-- a lane that passes is in a mask that isn't empty
pub some-passes : (p : ℕ → Bool) (v : List ℕ) → 0 < mask_l (map p v) → prefix_len (λ b. not (p b)) v < length v
some-passes p [] some = absurd (omega (arith, some))
some-passes p (x ∷ xs) some = go (p x) some (some-passes p xs)
  where
    go : (b : Bool) → 0 < cond b 1 0 + 2 * mask_l (map p xs) → (0 < mask_l (map p xs) → prefix_len (λ y. not (p y)) xs < length xs)
        → cond (not b) (1 + prefix_len (λ y. not (p y)) xs) 0 < suc (length xs)
    go true some rest = omega arith
    go false some rest = omega (arith, rest (omega (arith, some)))

pub not-some : (o : Option ℕ) → is_some o ≡ false → o ≡ None
not-some None e = refl
not-some (Some n) e = absurd (cc e)

-- a place up to which all fail, and where one passes unless it is the end
pub place-is : (p : ℕ → Bool) (bs : List ℕ) (from i : ℕ) → from ≤ i → i ≤ length bs → ((k : ℕ) → from ≤ k → k < i → p (get_or bs k 0) ≡ false)
    → (i < length bs → p (get_or bs i 0) ≡ true) → i ≡ next_place p bs from
place-is p bs from i low within fails passes =
    let size : length (drop from bs) ≡ length bs - from = length-drop from bs in
    let last : from + (i - from) ≡ i = omega (arith, low) in
    let count : position_or_len p (drop from bs) ≡ i - from =
    position_or_len_is p (drop from bs) (i - from) 0 (omega (arith, size, within))
    (λ k below. ap p (get_or-drop from bs k 0) ∙ fails (from + k) (omega arith) (omega (arith, below)))
    (λ below. ap p (get_or-drop from bs (i - from) 0 ∙ ap (λ n. get_or bs n 0) last) ∙ passes (omega (arith, below, size, low))) in
    omega (arith, count, low, within)

-- up to the next one all fail
pub before-next : (p : ℕ → Bool) (bs : List ℕ) (from k : ℕ) → from ≤ k → k < next_place p bs from → p (get_or bs k 0) ≡ false
before-next p bs from k late below =
    let place : from + (k - from) ≡ k = omega (arith, late) in
    ap (λ n. p (get_or bs n 0)) (sym place) ∙ ap p (sym (get_or-drop from bs (k - from) 0)) ∙ fails_before_first p (drop from bs) (k - from) 0 (omega (arith, late, below))

-- and that one passes
pub at-next : (p : ℕ → Bool) (bs : List ℕ) (from : ℕ) → next_place p bs from < length bs → p (get_or bs (next_place p bs from) 0) ≡ true
at-next p bs from below =
    let first : ℕ = position_or_len p (drop from bs) in
    let is : next_place p bs from ≡ from + first = omega (arith, below) in
    ap (λ n. p (get_or bs n 0)) is ∙ ap p (sym (get_or-drop from bs first 0)) ∙ passes_at_first p (drop from bs) 0 (omega (arith, below, length-drop from bs))

-- searching from a place up to which all fail
pub next-from : (p : ℕ → Bool) (bs : List ℕ) (from at : ℕ) → from ≤ at → at ≤ length bs → ((k : ℕ) → from ≤ k → k < at → p (get_or bs k 0) ≡ false)
    → next_place p bs at ≡ next_place p bs from
next-from p bs from at low within fails =
    place-is p bs from (next_place p bs at) (omega (arith, low, within)) (omega arith)
    (λ k above below. elim (cases_lt k at) [ inl early ↦ fails k above early | inr late ↦ before-next p bs at k late below ])
    (at-next p bs at)

-- the first byte that passes
pub first-byte : (p : ℕ → Bool) (bs : List ℕ) (at : ℕ) (found : Option ℕ) → at ≡ next_place p bs 0 → found ≡ then_some (nat_lt at (length bs)) at → IsFirstByte p bs found
first-byte p bs at found place e = subst (IsFirstByte p bs) (sym e) (go (nat_lt at (length bs)) refl)
  where
    first : ℕ
    first = position_or_len p bs

    fails : (k : ℕ) → k < first → p (get_or bs k 0) ≡ true → ⊥
    fails k below is = true≢false (sym is ∙ fails_before_first p bs k 0 below)

    go : (within : Bool) → nat_lt at (length bs) ≡ within → IsFirstByte p bs (then_some within at)
    go true h =
        let below : at < length bs = ltb-true at (length bs) h in
        let same : first ≡ at = omega (arith, place, below) in
        (record { low = omega arith; high = below; before = λ k low under. fails k (omega (arith, under, same)) }, ap (λ n. p (get_or bs n 0)) (sym same) ∙ passes_at_first p bs 0 (omega (arith, same, below)))
    go false h =
        let past : length bs ≤ at = ltb-false at (length bs) h in
        λ k low under. fails k (omega (arith, place, past, under))

-- searching from the front
pub from_the_front : (p : ℕ → Bool) (bs : List ℕ) → next_place p bs 0 ≡ position_or_len p bs
from_the_front p bs = omega (arith, prefix_len-le-length (λ b. not (p b)) bs)

-- ---- markup, among the bytes that are markup or that HTML escapes

markup-marked : (b : ℕ) → is_marked b ≡ false → is_markup b ≡ false
markup-marked b none = grind (arith, nat_tests, none)

pub no-markup : (b : ℕ) → (b == 34 || b == 62) ≡ true → is_markup b ≡ false
no-markup b escaped = grind (arith, nat_tests, escaped)

-- searching from the next byte that is marked
pub past-unmarked : (bs : List ℕ) (from at : ℕ) → at ≡ next_place is_marked bs from → next_place is_markup bs at ≡ next_place is_markup bs from
past-unmarked bs from at place = elim (cases_lt (length bs) from) [
  | inl past ↦ omega (arith, place, past)
  | inr within ↦ next-from is_markup bs from at (omega (arith, place, within)) (omega (arith, place))
      (λ k late below. markup-marked (get_or bs k 0) (before-next is_marked bs from k late (omega (arith, place, below))))
]

pub marked-there : (bs : List ℕ) (from at : ℕ) → at ≡ next_place is_marked bs from → at < length bs → is_marked (get_or bs at 0) ≡ true
marked-there bs from at place below = ap (λ n. is_marked (get_or bs n 0)) place ∙ at-next is_marked bs from (omega (arith, place, below))

-- searching from the byte after one that isn't markup
pub past-escaped : (bs : List ℕ) (at : ℕ) → at < length bs → is_markup (get_or bs at 0) ≡ false → next_place is_markup bs (at + 1) ≡ next_place is_markup bs at
past-escaped bs at below none =
    next-from is_markup bs at (at + 1) (omega arith) (omega (arith, below)) (λ k low under. let here : k ≡ at = omega (arith, low, under) in ap (λ n. is_markup (get_or bs n 0)) here ∙ none)

-- no byte passes where the first that does would be at the end
pub none-before-end : (p : ℕ → Bool) (bs : List ℕ) → (next_place p bs 0 == length bs) ≡ list_all (λ b. not (p b)) bs
none-before-end p [] = refl
none-before-end p (b ∷ bs) = let more = none-before-end p bs in grind (arith, nat_tests, more)

-- ---- the spaces before a text

pub spaces_first : (bs : List ℕ) (k : ℕ) → k < position_or_len is_no_space bs → get_or bs k 0 ≡ 32
spaces_first bs k below =
    let fails : is_no_space (get_or bs k 0) ≡ false = fails_before_first is_no_space bs k 0 below in
    grind (arith, nat_tests, fails)

pub spaces_boundary : (text : List ℕ) (n : ℕ) → IsUtf8 text → n ≤ length text → ((k : ℕ) → k < n → get_or text k 0 ≡ 32) → IsCharBoundary text n
spaces_boundary text zero utf8 within spaces = IsCharBoundary-start text utf8
spaces_boundary text (suc n) utf8 within spaces =
    let next : n + 1 ≡ suc n = omega arith in
    subst (IsCharBoundary text) next (IsCharBoundary-after_ascii text n utf8 (omega (arith, within)) (omega (arith, spaces n (omega arith))))
