-- How far autolinks look.
use Rattle.std.proofs.Common.{◌≡◌, ℕ, suc, ◌+◌, ◌≤◌, ◌==◌, not, Bool, true, false, List, [], ◌∷◌, length, cond, refl, arith}
use Rattle.std.proofs.lemmas.Bool.Decides.{nat_tests}
use Rattle.std.specs.Prelude.{if◌then◌else◌}
use Rattle.std.specs.List.{position_or_len, list_all}
use Rattle.cm_text.specs.Search.{next_place}
use Rattle.cm_text.proofs.lemmas.SearchLemmas.{from_the_front}
use Rattle.cm_scan.specs.Words.{skip}
use Rattle.cm_scan.specs.spans.Autolinks.{is_inside}
use Rattle.cm_scan.specs.spans.Reach.{link_reach, link_reaches}

pub link_some : (bs : List ℕ) → 1 ≤ link_reach bs
unfolding link_reach
link_some [] = omega arith
link_some (b ∷ bs) = grind arith

-- the one that reaches here, and those to come
one_link : (bs : List ℕ) → link_reach bs + link_reaches bs ≤ length bs + 1
unfolding link_reach link_reaches
one_link [] = omega arith
one_link (b ∷ bs) = grind (arith, nat_tests, one_link bs, link_some bs)

pub links_once : (bs : List ℕ) → link_reaches bs ≤ length bs
links_once bs = omega (arith, one_link bs, link_some bs)

reach-first : (bs : List ℕ) → position_or_len (λ b. not (is_inside b)) bs + 1 ≤ link_reach bs
unfolding link_reach
reach-first [] = omega arith
reach-first (b ∷ bs) = go (is_inside b) (reach-first bs)
  where
    go : (c : Bool) → position_or_len (λ b. not (is_inside b)) bs + 1 ≤ link_reach bs → cond (not (not c)) (1 + position_or_len (λ b. not (is_inside b)) bs) 0 + 1 ≤ (if c then suc (link_reach bs) else 1)
    go true more = omega (arith, more)
    go false more = omega arith

-- the bytes inside, and one more, are within the reach
pub reach-inside : (bs : List ℕ) (n : ℕ) → n ≡ next_place (λ b. not (is_inside b)) bs 0 → n + 1 ≤ link_reach bs
reach-inside bs n is = omega (arith, is, from_the_front (λ b. not (is_inside b)) bs, reach-first bs)

-- all pass where nothing is left after those that do
pub none-left : (test : ℕ → Bool) (bs : List ℕ) → (length (skip test bs) == 0) ≡ list_all test bs
unfolding skip
none-left test [] = refl
none-left test (b ∷ bs) = grind (arith, nat_tests, none-left test bs)
