-- Whether two numbers are equal, and tests of the code.
use Rattle.cm_inline.proofs.lemmas.Words.{◌≡◌, ◌⊎◌, inl, inr, ℕ, Bool, true, false, not, ◌==◌, refl, eqb-true, eqb-false, not-true, nat_tests, arith}

pub nat-split : (n j : ℕ) → (n ≡ j) ⊎ (n ≡ j → ⊥)
nat-split n j = (elim (n == j) as (λ b. (n == j) ≡ b → (n ≡ j) ⊎ (n ≡ j → ⊥)) [ true ↦ λ s. inl (eqb-true n j s) | false ↦ λ s. inr (eqb-false n j s) ]) refl

-- a test of two things, of which the second is made where the first fails
pub either-of : (b : Bool) (Q : Type 0) → (not b ≡ true) ⊎ ((not b ≡ false) × Q) → (b ≡ false) ⊎ Q
either-of b Q x2 = grind (arith, nat_tests, not-true)
