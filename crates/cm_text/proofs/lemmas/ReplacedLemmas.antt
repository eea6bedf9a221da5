-- A text in which some bytes are written in another way, up to the first of them.
use Rattle.std.proofs.Common.{◌≡◌, ℕ, zero, suc, ◌+◌, ◌<◌, ◌≤◌, Bool, false, Some, None, List, [], ◌∷◌, ◌++◌, length, take, drop, get_or, refl, ap, ◌∙◌, arith, add-one}
use Rattle.std.specs.Prelude.{flat_map}
use Rattle.std.specs.List.{position, position_or_len}
use Rattle.std.proofs.lemmas.List.Quantifiers.{position-Some}
use Rattle.std.proofs.lemmas.List.Sums.{fails_before_first}

-- each byte that fails the test stays unchanged
abbrev pub Keeps : (ℕ → Bool) → (ℕ → List ℕ) → Type 0
Keeps p f = (b : ℕ) → p b ≡ false → f b ≡ b ∷ []

-- one at the start of a text
replaced-cons : (p : ℕ → Bool) (f : ℕ → List ℕ) → Keeps p f → (b : ℕ) (bs : List ℕ) → p b ≡ false → flat_map f (b ∷ bs) ≡ b ∷ flat_map f bs
replaced-cons p f keeps b bs plain = ap (λ front. front ++ flat_map f bs) (keeps b plain)

-- a text up to a byte before which each stays unchanged
replaced-at : (p : ℕ → Bool) (f : ℕ → List ℕ) → Keeps p f → (bs : List ℕ) (i : ℕ) → i < length bs → ((k : ℕ) → k < i → p (get_or bs k 0) ≡ false)
    → flat_map f bs ≡ take i bs ++ (f (get_or bs i 0) ++ flat_map f (drop (suc i) bs))
replaced-at p f keeps [] i within plain = absurd (omega arith)
replaced-at p f keeps (b ∷ bs) zero within plain = refl
replaced-at p f keeps (b ∷ bs) (suc i) within plain =
    replaced-cons p f keeps b bs (plain 0 (omega arith))
    ∙ ap (λ rest. b ∷ rest) (replaced-at p f keeps bs i (omega arith) (λ k below. plain (suc k) (omega arith)))

-- a text in which each byte stays unchanged
replaced-all : (p : ℕ → Bool) (f : ℕ → List ℕ) → Keeps p f → (bs : List ℕ) → ((k : ℕ) → k < length bs → p (get_or bs k 0) ≡ false) → flat_map f bs ≡ bs
replaced-all p f keeps [] plain = refl
replaced-all p f keeps (b ∷ bs) plain =
    replaced-cons p f keeps b bs (plain 0 (omega arith)) ∙ ap (λ rest. b ∷ rest) (replaced-all p f keeps bs (λ k below. plain (suc k) (omega arith)))

-- a text up to the first byte that a search finds
pub replaced-found : (p : ℕ → Bool) (f : ℕ → List ℕ) → Keeps p f → (bs : List ℕ) (i : ℕ) → position p bs ≡ Some i
    → flat_map f bs ≡ take i bs ++ (f (get_or bs i 0) ++ flat_map f (drop (i + 1) bs))
replaced-found p f keeps bs i found =
    let first = position-Some p bs i 0 found in
    rw add-one (replaced-at p f keeps bs i first.0 first.2)

-- a text in which it finds none
pub replaced-none : (p : ℕ → Bool) (f : ℕ → List ℕ) → Keeps p f → (bs : List ℕ) → position p bs ≡ None → flat_map f bs ≡ bs
replaced-none p f keeps bs none =
    let passed : length bs ≤ position_or_len p bs = grind (arith, none) in
    replaced-all p f keeps bs (λ k below. fails_before_first p bs k 0 (omega arith))
