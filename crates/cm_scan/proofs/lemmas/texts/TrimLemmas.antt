-- The spaces at the end of a text.
use Rattle.std.proofs.Common.{◌≡◌, ℕ, suc, ◌==◌, Bool, true, false, List, [], ◌∷◌, ◌++◌, replicate, refl, ap, ◌∙◌}
use Rattle.std.specs.Prelude.{if◌then◌else◌}
use Rattle.std.proofs.lemmas.Bool.{eqb-true}
use Rattle.cm_scan.specs.spans.Autolinks.{ends_with}
use Rattle.cm_scan.specs.Words.{keep_byte, trim_end_by, trim_end_spaces}

-- a text and the spaces at its end
pub record Trimmed (text : List ℕ) : Type 0 where
  pub count : ℕ
  pub is : text ≡ trim_end_spaces text ++ replicate count 32
  pub ended : ends_with 32 (trim_end_spaces text) ≡ false

pub trimmed : (text : List ℕ) → Trimmed text
unfolding trim_end_by ends_with
trimmed [] = record { count = 0; is = refl; ended = refl }
trimmed (b ∷ bs) =
    let again = trimmed bs in
    let parts = go (trim_end_by (λ c. c == 32) bs) again.count again.is again.ended in
    record { count = parts.0; is = parts.1; ended = parts.2 }
  where
    lone : (space : Bool) → (b == 32) ≡ space → (count : ℕ) → bs ≡ replicate count 32
        → (k : ℕ) × (b ∷ bs ≡ (if space then [] else b ∷ []) ++ replicate k 32) × (ends_with 32 (if space then [] else b ∷ []) ≡ false)
    lone true p count is = (suc count, ap (λ c. c ∷ bs) (eqb-true b 32 p) ∙ ap (λ t. 32 ∷ t) is, refl)
    lone false p count is = (count, ap (λ t. b ∷ t) is, p)

    go : (left : List ℕ) → (count : ℕ) → bs ≡ left ++ replicate count 32 → ends_with 32 left ≡ false
        → (k : ℕ) × (b ∷ bs ≡ keep_byte (λ c. c == 32) b left ++ replicate k 32) × (ends_with 32 (keep_byte (λ c. c == 32) b left) ≡ false)
    go [] count is ended = lone (b == 32) refl count is
    go (c ∷ cs) count is ended = (count, ap (λ t. b ∷ t) is, ended)
