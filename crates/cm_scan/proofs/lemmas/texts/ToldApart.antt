-- Bytes that a test distinguishes.
use Rattle.std.proofs.Common.{◌≡◌, ℕ, ◌==◌, Bool, true, false, List, [], ◌∷◌, refl, ap}
use Rattle.std.specs.List.{list_any}
use Rattle.std.proofs.lemmas.Bool.{or_from, or_parts, ne_eqb}

pub differs : (test : ℕ → Bool) (b c : ℕ) → test b ≡ true → test c ≡ false → (b == c) ≡ false
differs test b c t f = ne_eqb b c (λ e. absurd (cc (t, f, ap test e)))

pub differs' : (test : ℕ → Bool) (b c : ℕ) → test b ≡ false → test c ≡ true → (b == c) ≡ false
differs' test b c f t = ne_eqb b c (λ e. absurd (cc (t, f, ap test e)))

-- one that passes isn't among those that don't
pub none-passes : (test : ℕ → Bool) (b : ℕ) (cs : List ℕ) → test b ≡ true → list_any test cs ≡ false → list_any (λ c. b == c) cs ≡ false
none-passes test b [] t f = refl
none-passes test b (c ∷ cs) t f =
    let parts = or_parts (test c) (list_any test cs) f in
    or_from (b == c) (list_any (λ d. b == d) cs) (differs test b c t parts.0) (none-passes test b cs t parts.1)
