-- What a sink holds after one more part.
use Rattle.std.proofs.Common.{◌≡◌, ℕ, ◌+◌, ◌-◌, ◌≤◌, List, ◌++◌, length, take, drop, sym, ap, subst, ◌∙◌, arith, append_assoc, take_all, take-append-drop, length-drop, Some, None}
use Rattle.std.specs.Prelude.{Option}
use Rattle.std.specs.Io.KnownBytes.{Appends}
use Rattle.std.proofs.lemmas.List.{length-take-le}
use Rattle.std.proofs.Math.Seq.{take-append-add}

pub appends-append : (a b c : Option (List ℕ)) (xs ys : List ℕ) → Appends a b xs → Appends b c ys → Appends a c (xs ++ ys)
appends-append None b c xs ys h k = tt
appends-append (Some p) None c xs ys h k = absurd h
appends-append (Some p) (Some q) None xs ys h k = absurd k
appends-append (Some p) (Some q) (Some r) xs ys h k = k ∙ ap (λ t. t ++ ys) h ∙ append_assoc p xs ys

take_part : (bs : List ℕ) (w n : ℕ) → w ≤ length bs → take w bs ++ take n (take (length bs - w) (drop w bs)) ≡ take (w + n) bs
take_part bs w n fits =
    ap (λ t. take w bs ++ take n t) (take_all (length bs - w) (drop w bs) (omega (arith, length-drop w bs)))
    ∙ sym (take-append-add (take w bs) (drop w bs) n) ∙ ap (λ k. take (k + n) (take w bs ++ drop w bs)) (length-take-le w bs fits)
    ∙ ap (take (w + n)) (take-append-drop w bs)

pub appends_part : (a b c : Option (List ℕ)) (bs : List ℕ) (w n : ℕ) → w ≤ length bs → Appends a b (take w bs)
    → Appends b c (take n (take (length bs - w) (drop w bs))) → Appends a c (take (w + n) bs)
appends_part a b c bs w n fits h k =
    let P : List ℕ → Type 0 = λ t. Appends a c t in
    subst P (take_part bs w n fits) (appends-append a b c (take w bs) _ h k)
