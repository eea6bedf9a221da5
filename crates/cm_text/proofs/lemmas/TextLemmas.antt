-- A text with U+FFFD in place of U+0000.
use Rattle.std.proofs.Common.{◌≡◌, ◌∙◌, ◌<◌, ◌≤◌, ◌*◌, ℕ, zero, suc, ◌+◌, Bool, true, false, cond, List, [], ◌∷◌, ◌++◌, length, take, drop, refl, sym, ap, arith, add-one, append_assoc, length-append, ◌==◌}
use Rattle.std.specs.Str.Lossy.{replacement_bytes}
use Rattle.memchr.specs.Find.{is_byte, Passes, Nowhere}
use Rattle.cm_text.specs.Lines.{text_of, text_of_byte}

not-true : (b : Bool) → ¬ (b ≡ true) → b ≡ false
not-true true other = absurd (other refl)
not-true false other = refl

same-first : (b : ℕ) (bs : List ℕ) (i : ℕ) → Nowhere (Passes (is_byte 0) (b ∷ bs)) 0 (suc i) → text_of_byte b ≡ b ∷ []
same-first b bs i none = ap (λ v. cond v replacement_bytes (b ∷ [])) (not-true (is_byte 0 b) (none 0 (omega arith) (omega arith)))

later : (b : ℕ) (bs : List ℕ) (i : ℕ) → Nowhere (Passes (is_byte 0) (b ∷ bs)) 0 (suc i) → Nowhere (Passes (is_byte 0) bs) 0 i
later b bs i none k low high = none (suc k) (omega arith) (omega arith)

nul-at : (bs : List ℕ) (i : ℕ) → i < length bs → Passes (is_byte 0) bs i → Nowhere (Passes (is_byte 0) bs) 0 i
    → take i bs ++ (replacement_bytes ++ text_of (drop (suc i) bs)) ≡ text_of bs
nul-at [] i within nul none = absurd (omega (arith, within))
nul-at (b ∷ bs) zero within nul none = sym (ap (λ v. cond v replacement_bytes (b ∷ []) ++ text_of bs) nul)
nul-at (b ∷ bs) (suc i) within nul none =
    ap (λ t. b ∷ t) (nul-at bs i (omega (arith, within)) nul (later b bs i none)) ∙ ap (λ t. t ++ text_of bs) (sym (same-first b bs i none))

-- a text up to its first U+0000
pub nul-first : (bs : List ℕ) (i : ℕ) → i < length bs → Passes (is_byte 0) bs i → Nowhere (Passes (is_byte 0) bs) 0 i
    → take i bs ++ (replacement_bytes ++ text_of (drop (i + 1) bs)) ≡ text_of bs
nul-first bs i within nul none = rw add-one (nul-at bs i within nul none)

-- what was made so far continues by it
pub more_text : (made front after rest whole : List ℕ) → front ++ (replacement_bytes ++ text_of after) ≡ text_of rest → made ++ text_of rest ≡ text_of whole
    → ((made ++ front) ++ replacement_bytes) ++ text_of after ≡ text_of whole
more_text made front after rest whole cut so_far =
    append_assoc (made ++ front) replacement_bytes (text_of after) ∙ append_assoc made front (replacement_bytes ++ text_of after) ∙ ap (λ t. made ++ t) cut ∙ so_far

-- one without any
pub nul-nowhere : (bs : List ℕ) → Nowhere (Passes (is_byte 0) bs) 0 (length bs) → bs ≡ text_of bs
nul-nowhere [] none = refl
nul-nowhere (b ∷ bs) none = ap (λ t. b ∷ t) (nul-nowhere bs (later b bs (length bs) none)) ∙ ap (λ t. t ++ text_of bs) (sym (same-first b bs (length bs) none))

-- it is at most three times as long
pub text_of-length : (bs : List ℕ) → length (text_of bs) ≤ 3 * length bs
text_of-length [] = omega arith
text_of-length (b ∷ bs) = omega (arith, length-append (text_of_byte b) (text_of bs), one (b == 0), text_of-length bs)
  where
    one : (nul : Bool) → length (cond nul replacement_bytes (b ∷ [])) ≤ 3
    one true = omega arith
    one false = omega arith
