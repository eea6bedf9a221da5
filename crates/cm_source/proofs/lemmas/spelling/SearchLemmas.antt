-- The first place that the kit's search returns is where a byte first is in a text, and there is one exactly if the byte is there.
use Rattle.std.proofs.Common.{◌≡◌, ℕ, ◌+◌, Bool, true, false, not, cond, ◌||◌, List, [], ◌∷◌, nat_lt, Option, Some, None, length, get_or, refl, sym, ap, arith}
use Rattle.std.specs.List.{list_any, position, position_or_len}
use Rattle.std.specs.Option.{is_some}
use Rattle.std.proofs.lemmas.List.Sums.{position_or_len_is}
use Rattle.memchr.specs.Find.{IsFirstByte}

is-false : (b : Bool) → (b ≡ true → ⊥) → b ≡ false
is-false true h = absurd (h refl)
is-false false h = refl

pub first-position : (p : ℕ → Bool) (bs : List ℕ) (found : Option ℕ) → IsFirstByte p bs found → found ≡ position p bs
first-position p bs None none =
    let last : position_or_len p bs ≡ length bs = position_or_len_is p bs (length bs) 0 (omega arith) (λ k below. is-false (p (get_or bs k 0)) (none k (omega arith) below)) (λ below. absurd (omega (arith, below))) in
    rw last (let past : nat_lt (length bs) (length bs) ≡ false = grind arith in sym (ap (λ within. cond within (Some (length bs)) None) past))
first-position p bs (Some at) found =
    let here : position_or_len p bs ≡ at = position_or_len_is p bs at 0 (omega (arith, found.0.high)) (λ k below. is-false (p (get_or bs k 0)) (found.0.before k (omega arith) below)) (λ below. found.1) in
    rw here (let within : nat_lt at (length bs) ≡ true = grind (arith, found.0.high) in sym (ap (λ w. cond w (Some at) None) within))

-- whether a place is found is whether the byte is there
pub found-any : (p : ℕ → Bool) (bs : List ℕ) → is_some (position p bs) ≡ list_any p bs
found-any p [] = refl
found-any p (b ∷ bs) = go (p b) (found-any p bs)
  where
    go : (passes : Bool) → is_some (position p bs) ≡ list_any p bs
        → is_some (cond (nat_lt (cond (not passes) (1 + position_or_len p bs) 0) (length (b ∷ bs))) (Some (cond (not passes) (1 + position_or_len p bs) 0)) None) ≡ (passes || list_any p bs)
    go true rest = grind arith
    go false rest = grind (arith, rest)
