-- The indentation of a line. It is made of spaces alone, so it can be cut anywhere.
use Rattle.std.proofs.Common.{◌≡◌, ℕ, zero, suc, ◌-◌, ◌+◌, ◌*◌, ◌<◌, ◌≤◌, ◌++◌, ◌∙◌, length, replicate, take, codes, refl, sym, ap, arith}
use Rattle.std.proofs.lemmas.List.{take-replicate, replicate-append-replicate}
use Rattle.std.proofs.lemmas.List.Elements.{All-replicate}
use Rattle.std.proofs.lemmas.Str.{IsCharBoundary-from_ascii}
use Rattle.std.proofs.lemmas.Str.Ascii.{IsAscii-from_all}
use Rattle.std.specs.Str.{IsCharBoundary}
use Rattle.cm_html.specs.Listing.{margin}

margin-spaces : (d : ℕ) → margin d ≡ replicate (2 * d) 32
margin-spaces zero = refl
margin-spaces (suc d) = let two : 2 + 2 * d ≡ 2 * suc d = omega arith in ap (λ t. codes "  " ++ t) (margin-spaces d) ∙ replicate-append-replicate 2 (2 * d) 32 ∙ ap (λ n. replicate n 32) two

pub margin-boundary : (n : ℕ) → n ≤ 64 → IsCharBoundary (replicate 64 32) n
margin-boundary n within = IsCharBoundary-from_ascii (replicate 64 32) n (IsAscii-from_all (replicate 64 32) (All-replicate (λ b. b < 128) 64 32 (omega arith))) within

-- some spaces of it, and the rest
pub margin-cut : (d n : ℕ) → n ≤ d → n ≤ 32 → take (2 * n) (replicate 64 32) ++ margin (d - n) ≡ margin d
margin-cut d n within few =
    let all : 2 * n + 2 * (d - n) ≡ 2 * d = omega (arith, within) in
    ap (λ t. t ++ margin (d - n)) (take-replicate (2 * n) 64 32 (omega (arith, few)))
    ∙ ap (λ t. replicate (2 * n) 32 ++ t) (margin-spaces (d - n))
    ∙ replicate-append-replicate (2 * n) (2 * (d - n)) 32
    ∙ ap (λ k. replicate k 32) all
    ∙ sym (margin-spaces d)

pub length-margin : (d : ℕ) → length (margin d) ≡ 2 * d
length-margin zero = refl
length-margin (suc d) = omega (arith, length-margin d)
