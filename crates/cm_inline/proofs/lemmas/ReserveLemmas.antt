-- The bound on looks: what a search, a removal and a push do to the looks that may still be made.
use Rattle.cm_inline.proofs.lemmas.Words.{◌≡◌, ℕ, zero, ◌+◌, ◌*◌, ◌≤◌, Bool, cond, nat_le, List, [], ◌∷◌, ◌++◌, length, refl, arith, length-append, sum_by-append}
use Rattle.cm_inline.proofs.lemmas.Words.{sum_by-cons, leb-true, nat_tests, rules}
use Rattle.std.proofs.Common.{sum_by}
use Rattle.cm_inline.specs.steps.Entries.{Entry, above, reserve, Below}

pub above-append : (b : ℕ) (xs ys : List Entry) → above b (xs ++ ys) ≡ above b xs + above b ys
above-append b xs ys = sum_by-append (λ (e : Entry). cond (nat_le b e.place) 1 0) xs ys

pub above-cons : (b : ℕ) (e : Entry) (es : List Entry) → above b (e ∷ es) ≡ cond (nat_le b e.place) 1 0 + above b es
above-cons b e es = sum_by-cons (λ (e : Entry). cond (nat_le b e.place) 1 0) e es

cond_le : (b : Bool) → cond b 1 0 ≤ 1
cond_le b = grind (arith, nat_tests)

-- a sum grows by at most a number for each term
sum-le : (f g : ℕ → ℕ) (k : ℕ) (bs : List ℕ) → ((b : ℕ) → f b ≤ g b + k) → sum_by f bs ≤ sum_by g bs + k * length bs
sum-le f g k [] h = omega arith
sum-le f g k (b ∷ bs) h = omega (arith, sum_by-cons f b bs, sum_by-cons g b bs, h b, sum-le f g k bs h)

-- a new entry: a look for each kind of closer, and one for its removal
pub reserve-push : (bs : List ℕ) (es : List Entry) (e : Entry) → reserve bs (e ∷ es) ≤ reserve bs es + length bs + 1
unfolding reserve
reserve-push bs es e =
    omega (arith, sum-le (λ (b : ℕ). above b (e ∷ es)) (λ (b : ℕ). above b es) 1 bs one)
  where
    one : (b : ℕ) → above b (e ∷ es) ≤ above b es + 1
    one b = omega (arith, above-cons b e es, cond_le (nat_le b e.place))

-- entries that are taken out pay for a look each
pub reserve-remove : (bs : List ℕ) (xs ys zs : List Entry) → reserve bs (xs ++ zs) + length ys ≤ reserve bs (xs ++ ys ++ zs)
unfolding reserve
reserve-remove bs xs ys zs =
    omega (arith, length-append xs zs, length-append (xs ++ ys) zs, length-append xs ys, sum-le (λ (b : ℕ). above b (xs ++ zs)) (λ (b : ℕ). above b (xs ++ ys ++ zs)) 0 bs less)
  where
    less : (b : ℕ) → above b (xs ++ zs) ≤ above b (xs ++ ys ++ zs) + 0
    less b = omega (arith, above-append b xs zs, above-append b (xs ++ ys) zs, above-append b xs ys)

pub above-all : (n : ℕ) (es : List Entry) → Below n es → above n es ≡ zero
above-all n [] h = refl
above-all n (e ∷ es) h = search (rules, above-cons, leb-true, (above-all n es h.1))
