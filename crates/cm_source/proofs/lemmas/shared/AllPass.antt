-- Lists all of which pass a test.
use Rattle.std.proofs.Common.{◌≡◌, ℕ, zero, suc, Bool, true, List, [], ◌∷◌, ◌++◌, replicate, refl, ◌∙◌}
use Rattle.std.specs.List.{list_all}
use Rattle.std.proofs.lemmas.Bool.{and_from, and_parts}
use Rattle.std.proofs.lemmas.List.Folds.{list_all-append}

module _ {X : Type 0} (test : X → Bool) where
  pub all-both : (front rest : List X) → list_all test front ≡ true → list_all test rest ≡ true → list_all test (front ++ rest) ≡ true
  all-both front rest f r = list_all-append test front rest ∙ and_from (list_all test front) (list_all test rest) f r

  pub all-times : (n : ℕ) (x : X) → test x ≡ true → list_all test (replicate n x) ≡ true
  all-times zero x t = refl
  all-times (suc n) x t = and_from (test x) (list_all test (replicate n x)) t (all-times n x t)

  pub all-so : (other : X → Bool) → ((x : X) → test x ≡ true → other x ≡ true) → (xs : List X) → list_all test xs ≡ true → list_all other xs ≡ true
  all-so other so [] e = refl
  all-so other so (x ∷ xs) e = let parts = and_parts (test x) (list_all test xs) e in and_from (other x) (list_all other xs) (so x parts.0) (all-so other so xs parts.1)
