-- What is left after bytes that pass a test.
use Rattle.std.proofs.Common.{◌≡◌, ℕ, suc, ◌+◌, ◌<◌, ◌≤◌, Bool, true, false, List, [], ◌∷◌, length, drop, get_or, refl, ap, ◌∙◌, arith, add-one, drop-cons}
use Rattle.std.specs.Prelude.{cond}
use Rattle.std.proofs.lemmas.List.{drop_all}
use Rattle.std.specs.List.{prefix_len}
use Rattle.cm_scan.specs.Words.{skip}

module _ (test : ℕ → Bool) where
  skip-pass : (b : ℕ) (bs : List ℕ) → test b ≡ true → skip test (b ∷ bs) ≡ skip test bs
  unfolding skip
  skip-pass b bs passes = grind (arith, passes)

  skip-fail : (b : ℕ) (bs : List ℕ) → test b ≡ false → skip test (b ∷ bs) ≡ b ∷ bs
  unfolding skip
  skip-fail b bs fails = grind (arith, fails)

  pub skip_on : (bs : List ℕ) (i : ℕ) → i < length bs → test (get_or bs i 0) ≡ true → skip test (drop i bs) ≡ skip test (drop (i + 1) bs)
  skip_on bs i within passes = rw (drop-cons bs i 0, add-one) (skip-pass (get_or bs i 0) (drop (suc i) bs) passes)

  pub skip_to : (bs : List ℕ) (i : ℕ) → i < length bs → test (get_or bs i 0) ≡ false → skip test (drop i bs) ≡ drop i bs
  skip_to bs i within fails = rw (drop-cons bs i 0) (skip-fail (get_or bs i 0) (drop (suc i) bs) fails)

  pub skip_all : (bs : List ℕ) (i : ℕ) → length bs ≤ i → skip test (drop i bs) ≡ []
  unfolding skip
  skip_all bs i past = rw (drop_all i bs past) refl

  -- what is left after those that pass
  pub passed-skipped : (bs : List ℕ) → drop (prefix_len test bs) bs ≡ skip test bs
  unfolding skip
  passed-skipped [] = refl
  passed-skipped (b ∷ bs) = go (test b) (passed-skipped bs)
    where
      go : (c : Bool) → drop (prefix_len test bs) bs ≡ skip test bs → drop (cond c (1 + prefix_len test bs) 0) (b ∷ bs) ≡ elim c as (λ _. List ℕ) [ true ↦ skip test bs | false ↦ b ∷ bs ]
      go true rest =
          let one : 1 + prefix_len test bs ≡ suc (prefix_len test bs) = omega arith in
          ap (λ k. drop k (b ∷ bs)) one ∙ rest
      go false rest = refl
