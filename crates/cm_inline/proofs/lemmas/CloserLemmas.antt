-- What a run that closes comes to, by one pair after another.
use Rattle.cm_inline.proofs.lemmas.Words.{◌≡◌, ◌⊎◌, ℕ, ◌-◌, true, false, nat_le, List, [], ◌∷◌, reverse, Some, None, ap, ◌∙◌, Run, Item, Delimiters, Opened}
use Rattle.cm_inline.proofs.lemmas.Words.{nearest_opener, without, used, up_to_pair, passed, closed_by-gone, closed_by-more, rules, nat_tests, arith}
use Rattle.cm_scan.specs.inlines.OnePass.{closed_by}
use Rattle.cm_scan.proofs.lemmas.inlines.OnePassLemmas.{closed_by-none}

pub pass-closer : (before : List Item) (closer : Run) → closer.closes ≡ true → passed before (Delimiters closer) ≡ closed_by before closer
pass-closer before closer e = ap (λ b. elim b as (λ _. List Item) [ true ↦ closed_by before closer | false ↦ Delimiters closer ∷ before ]) e

pub pass-other : (before : List Item) (closer : Run) → closer.closes ≡ false → passed before (Delimiters closer) ≡ Delimiters closer ∷ before
pass-other before closer e = ap (λ b. elim b as (λ _. List Item) [ true ↦ closed_by before closer | false ↦ Delimiters closer ∷ before ]) e

-- a run that closes nothing, or finds no opener, stays
pub pass-stays : (before : List Item) (closer : Run) → (closer.closes ≡ false) ⊎ (nearest_opener closer before [] ≡ None) → passed before (Delimiters closer) ≡ Delimiters closer ∷ before
pass-stays before closer x2 = grind (arith, nat_tests, pass-other, pass-closer, closed_by-none)

-- nothing is left of a closer, or something
left-over : (n : ℕ) (closer run : Run) → Delimiters run ∷ [] ≡ without n closer → (nat_le closer.left n ≡ false) × (run ≡ record closer { left = closer.left - n })
left-over n closer run e = search rules

none-left : (n : ℕ) (closer : Run) → [] ≡ without n closer → nat_le closer.left n ≡ true
none-left n closer e = search rules

pub pass-further : (before : List Item) (closer run : Run) (found : Opened) → closer.closes ≡ true → nearest_opener closer before [] ≡ Some found → Delimiters run ∷ [] ≡ without (used found.opener closer) closer
    → passed before (Delimiters closer) ≡ passed (reverse (up_to_pair found closer)) (Delimiters run)
pass-further before closer run found h s e = search (rules, left-over, pass-closer, closed_by-more)

pub pass-ends : (before : List Item) (closer : Run) (found : Opened) → closer.closes ≡ true → nearest_opener closer before [] ≡ Some found → [] ≡ without (used found.opener closer) closer
    → passed before (Delimiters closer) ≡ reverse (up_to_pair found closer)
pass-ends before closer found h s e = pass-closer before closer h ∙ closed_by-gone before closer found s (none-left (used found.opener closer) closer e)
