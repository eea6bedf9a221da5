-- Columns taken off the front of a line.
use Rattle.std.proofs.Common.{◌≡◌, ℕ, zero, suc, ◌+◌, ◌-◌, ◌*◌, ◌<◌, ◌≤◌, Bool, true, false, ◌==◌, ◌||◌, ◌⊎◌, inl, inr, cond, nat_lt, List, [], ◌∷◌, ◌++◌, length, drop, get_or, replicate, refl, sym, ap, ◌∙◌, arith, add-one, drop-cons, IsUtf8}
use Rattle.std.specs.List.{slice_range}
use Rattle.std.proofs.lemmas.Bool.Decides.{nat_tests}
use Rattle.std.proofs.lemmas.List.{length-replicate, length-append}
use Rattle.std.proofs.lemmas.List.Sums.{sum_by-cons, sum_by-append}
use Rattle.std.proofs.lemmas.List.Folds.{sum_by-replicate}
use Rattle.std.specs.Str.{IsCharBoundary}
use Rattle.std.proofs.lemmas.Str.{IsCharBoundary-after_ascii}
use Rattle.cm_text.specs.LineText.{is_line, tabs}
use Rattle.cm_text.specs.Indentation.{blank_width, strip_from}

-- a space or a tab is ASCII
blank_ascii : (column b : ℕ) → 0 < blank_width column b → b < 128
blank_ascii column b h = grind (arith, nat_tests)

-- so a character starts after it
pub after_blank : (bs : List ℕ) (i column : ℕ) → IsUtf8 bs → i < length bs → 0 < blank_width column (get_or bs i 0) → IsCharBoundary bs (i + 1)
after_blank bs i column utf8 within some = IsCharBoundary-after_ascii bs i utf8 within (blank_ascii column (get_or bs i 0) some)

-- a space or tab that is taken whole
pub strip-whole : (n column b : ℕ) (bs : List ℕ) → 0 < n → 0 < blank_width column b → blank_width column b ≤ n
    → strip_from n column (b ∷ bs) ≡ strip_from (n - blank_width column b) (column + blank_width column b) bs
strip-whole n column b bs some blank whole = grind (arith, nat_tests)

-- the next space or tab
pub strip-step : (n column i : ℕ) (bs : List ℕ) → i < length bs → 0 < n → 0 < blank_width column (get_or bs i 0) → blank_width column (get_or bs i 0) ≤ n
    → strip_from n column (drop i bs) ≡ strip_from (n - blank_width column (get_or bs i 0)) (column + blank_width column (get_or bs i 0)) (drop (i + 1) bs)
strip-step n column i bs within some blank whole = rw (drop-cons bs i 0, add-one) (strip-whole n column (get_or bs i 0) (drop (suc i) bs) some blank whole)

either_zero : (n width : ℕ) (none : Bool) → (n == 0) ≡ none → (n == 0 || width == 0) ≡ true → (n ≡ 0) ⊎ (width ≡ 0)
either_zero n width true e h = inl (grind (arith, nat_tests, e))
either_zero n width false e h = inr (grind (arith, nat_tests, e, h))

-- what holds in each case of a character holds of what is left
chosen : (P : ℕ × List ℕ → Type 0) (n column b : ℕ) (bs : List ℕ) (stays cut : Bool)
    → (n == 0 || blank_width column b == 0) ≡ stays → nat_lt n (blank_width column b) ≡ cut
    → ((n ≡ 0) ⊎ (blank_width column b ≡ 0) → P (column, b ∷ bs))
    → (n < blank_width column b → P (column + n, replicate (blank_width column b - n) 32 ++ bs))
    → (0 < blank_width column b → blank_width column b ≤ n → P (strip_from (n - blank_width column b) (column + blank_width column b) bs))
    → P (elim stays as (λ _. ℕ × List ℕ) [
      | true ↦ (column, b ∷ bs)
      | false ↦ elim cut as (λ _. ℕ × List ℕ) [
        | true ↦ (column + n, replicate (blank_width column b - n) 32 ++ bs)
        | false ↦ strip_from (n - blank_width column b) (column + blank_width column b) bs
      ]
    ])
chosen P n column b bs true cut s c kept part whole = kept (either_zero n (blank_width column b) (n == 0) refl s)
chosen P n column b bs false true s c kept part whole = part (grind (arith, nat_tests, c))
chosen P n column b bs false false s c kept part whole = whole (grind (arith, nat_tests, s)) (grind (arith, nat_tests, c))

pub by_cases : (P : ℕ × List ℕ → Type 0) (n column b : ℕ) (bs : List ℕ)
    → ((n ≡ 0) ⊎ (blank_width column b ≡ 0) → P (column, b ∷ bs))
    → (n < blank_width column b → P (column + n, replicate (blank_width column b - n) 32 ++ bs))
    → (0 < blank_width column b → blank_width column b ≤ n → P (strip_from (n - blank_width column b) (column + blank_width column b) bs))
    → P (strip_from n column (b ∷ bs))
by_cases P n column b bs = chosen P n column b bs (n == 0 || blank_width column b == 0) (nat_lt n (blank_width column b)) refl refl

-- a line's room, of which its text may take all
abbrev room : ℕ × List ℕ → ℕ
room line = line.0 + length line.1 + 3 * tabs line.1

pub tabs-cons : (b : ℕ) (bs : List ℕ) → tabs (b ∷ bs) ≡ cond (b == 9) 1 0 + tabs bs
tabs-cons b bs = sum_by-cons (λ x. cond (x == 9) 1 0) b bs

pub tabs-spaces : (n : ℕ) (bs : List ℕ) → tabs (replicate n 32 ++ bs) ≡ tabs bs
tabs-spaces n bs =
    let spaces : tabs (replicate n 32) ≡ n * 0 = sum_by-replicate (λ x. cond (x == 9) 1 0) n 32 in
    let parts : tabs (replicate n 32 ++ bs) ≡ tabs (replicate n 32) + tabs bs = sum_by-append (λ x. cond (x == 9) 1 0) (replicate n 32) bs in
    omega (arith, spaces, parts)

-- a space or tab takes no more columns than it has room
blank_room : (column b : ℕ) → blank_width column b ≤ 1 + 3 * cond (b == 9) 1 0
blank_room column b = grind (arith, nat_tests)

-- what is left of a line takes no more room
pub strip-fits : (n column : ℕ) (text : List ℕ) → room (strip_from n column text) ≤ room (column, text)
strip-fits n column [] = omega arith
strip-fits n column (b ∷ bs) =
    let front = blank_room column b in
    let whole = tabs-cons b bs in
    by_cases (λ left. room left ≤ room (column, b ∷ bs)) n column b bs (λ stays. omega arith)
    (λ cut. let w = blank_width column b in
    let spaces = tabs-spaces (w - n) bs in
    let long : length (replicate (w - n) 32 ++ bs) ≡ (w - n) + length bs = length-append (replicate (w - n) 32) bs ∙ ap (λ k. k + length bs) (length-replicate (w - n) 32) in
    omega (arith, front, whole, spaces, long))
    (λ some within. let rest = strip-fits (n - blank_width column b) (column + blank_width column b) bs in omega (arith, front, whole, rest))

pub line-spaces : (n : ℕ) (bs : List ℕ) → is_line bs ≡ true → is_line (replicate n 32 ++ bs) ≡ true
line-spaces zero bs h = h
line-spaces (suc n) bs h = line-spaces n bs h

pub line-tail : (b : ℕ) (bs : List ℕ) → is_line (b ∷ bs) ≡ true → is_line bs ≡ true
line-tail b bs h = grind (arith, h)

-- and has no line ending either
pub strip-line : (n column : ℕ) (text : List ℕ) → is_line text ≡ true → is_line (strip_from n column text).1 ≡ true
strip-line n column [] h = refl
strip-line n column (b ∷ bs) h =
    by_cases (λ left. is_line left.1 ≡ true) n column b bs (λ stays. h)
    (λ cut. line-spaces (blank_width column b - n) bs (line-tail b bs h))
    (λ some within. strip-line (n - blank_width column b) (column + blank_width column b) bs (line-tail b bs h))

-- after a space or tab less room is left
pub room-step : (column i : ℕ) (bs : List ℕ) → i < length bs
    → column + blank_width column (get_or bs i 0) + length (drop (i + 1) bs) + 3 * tabs (drop (i + 1) bs) ≤ column + length (drop i bs) + 3 * tabs (drop i bs)
room-step column i bs within =
    let front = blank_room column (get_or bs i 0) in
    let whole = tabs-cons (get_or bs i 0) (drop (suc i) bs) in
    rw (drop-cons bs i 0, add-one) (omega (arith, front, whole))

three_spaces : (k : ℕ) → k ≤ 3 → slice_range {X = ℕ} (32 ∷ 32 ∷ 32 ∷ []) 0 k ≡ replicate k 32
three_spaces zero h = refl
three_spaces (suc zero) h = refl
three_spaces (suc (suc zero)) h = refl
three_spaces (suc (suc (suc zero))) h = refl
three_spaces (suc (suc (suc (suc k)))) h = absurd (omega arith)

-- the parts that make up what is left
pub stripped-parts : (n column i k next : ℕ) (text given spaces front rest made : List ℕ)
    → strip_from n column text ≡ (next, replicate k 32 ++ drop i text) → k ≤ 3
    → spaces ≡ slice_range {X = ℕ} (32 ∷ 32 ∷ 32 ∷ []) 0 k → front ≡ spaces → given ≡ text → rest ≡ drop i given → made ≡ front ++ rest
    → strip_from n column text ≡ (next, made)
stripped-parts n column i k next text given spaces front rest made whole few s f g r m =
    whole ∙ ap (λ t. (next, t)) (sym (m ∙ ap (λ t. t ++ rest) (f ∙ s ∙ three_spaces k few) ∙ ap (λ t. replicate k 32 ++ t) (r ∙ ap (λ t. drop i t) g)))
