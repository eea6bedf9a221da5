-- How far references look.
use Rattle.std.proofs.Common.{◌≡◌, ℕ, suc, ◌+◌, ◌≤◌, ◌==◌, ◌||◌, Bool, true, false, List, [], ◌∷◌, cond, length, drop, refl, arith}
use Rattle.std.proofs.lemmas.Bool.Decides.{nat_tests}
use Rattle.std.specs.Char.{is_ascii_digit, is_ascii_hexdigit, is_ascii_alphanumeric}
use Rattle.std.specs.List.{prefix_len}
use Rattle.cm_text.specs.References.{begins_with}
use Rattle.cm_text.specs.ReferenceReach.{reference_reach, reference_reaches}

pub reference_some : (bs : List ℕ) → 1 ≤ reference_reach bs
unfolding reference_reach
reference_some [] = omega arith
reference_some (b ∷ bs) = grind arith

-- the one that reaches here, and those to come
one_reference : (bs : List ℕ) → reference_reach bs + reference_reaches bs ≤ length bs + 1
unfolding reference_reach reference_reaches
one_reference [] = omega arith
one_reference (b ∷ bs) = grind (arith, nat_tests, one_reference bs, reference_some bs)

pub references_once : (bs : List ℕ) → reference_reaches bs ≤ length bs
references_once bs = omega (arith, one_reference bs, reference_some bs)

-- a byte that a reference looks past
abbrev pub is_passed : ℕ → Bool
is_passed b = is_ascii_alphanumeric b || b == 35

pub digit_passed : (b : ℕ) → is_ascii_digit b ≡ true → is_passed b ≡ true
digit_passed b h = grind (arith, nat_tests, h)

pub hexadecimal_passed : (b : ℕ) → is_ascii_hexdigit b ≡ true → is_passed b ≡ true
hexadecimal_passed b h = grind (arith, nat_tests, h)

pub letter_passed : (b : ℕ) → is_ascii_alphanumeric b ≡ true → is_passed b ≡ true
letter_passed b h = grind (arith, nat_tests, h)

reach_on : (b : ℕ) (bs : List ℕ) → is_passed b ≡ true → reference_reach (b ∷ bs) ≡ suc (reference_reach bs)
unfolding reference_reach
reach_on b bs h = grind (arith, h)

-- the bytes that pass a test, and one more, are within the reach
pub count_reach : (test : ℕ → Bool) → ((b : ℕ) → test b ≡ true → is_passed b ≡ true) → (bs : List ℕ) → prefix_len test bs + 1 ≤ reference_reach bs
count_reach test within [] = reference_some []
count_reach test within (b ∷ bs) = go (test b) refl (count_reach test within bs)
  where
    go : (told : Bool) → test b ≡ told → prefix_len test bs + 1 ≤ reference_reach bs → cond told (1 + prefix_len test bs) 0 + 1 ≤ reference_reach (b ∷ bs)
    go true h more = omega (arith, reach_on b bs (within b h), more)
    go false h more = omega (arith, reference_some (b ∷ bs))

-- one byte further
pub begins_reach : (c : ℕ) (bs : List ℕ) → is_passed c ≡ true → begins_with c bs ≡ true → reference_reach bs ≡ suc (reference_reach (drop 1 bs))
unfolding reference_reach
begins_reach c [] passed h = absurd (cc)
begins_reach c (b ∷ bs) passed h = let same : b ≡ c = grind (arith, nat_tests, h) in grind (arith, nat_tests, same, passed)
