-- One step of the search.
use Rattle.cm_inline.proofs.lemmas.Words.{◌≡◌, ℕ, suc, ◌≤◌, true, false, List, [], ◌∷◌, ◌&&◌, Some, None, refl, arith, cond-true, Run, delimiters_match, cond, ap, ◌∙◌, cond-false}
use Rattle.std.proofs.Common.{nat_lt}
use Rattle.std.proofs.lemmas.Bool.{lt-ltb, le-ltb}
use Rattle.cm_inline.specs.steps.Entries.{Entry, answers}
use Rattle.cm_inline.specs.steps.Searching.{find_opener, looks_for, from_found}
use Rattle.cm_inline.specs.steps.Slots.{first_up}

-- a step: the entry is below the bottom, or opens, or is passed
step-low : (c : Run) (b : ℕ) (e : Entry) (es : List Entry) → nat_lt e.place b ≡ true → (find_opener c b (e ∷ es) ≡ None) × (looks_for c b (e ∷ es) ≡ 0)
unfolding find_opener looks_for
step-low c b e es h =
    (cond-true (nat_lt e.place b) None (cond (answers c e) (Some e) (find_opener c b es)) h, cond-true (nat_lt e.place b) 0 (suc (cond (answers c e) 0 (looks_for c b es))) h)

step-finds : (c : Run) (b : ℕ) (e : Entry) (es : List Entry) → nat_lt e.place b ≡ false → answers c e ≡ true → (find_opener c b (e ∷ es) ≡ Some e) × (looks_for c b (e ∷ es) ≡ 1)
unfolding find_opener looks_for
step-finds c b e es h k = (
  cond-false (nat_lt e.place b) None (cond (answers c e) (Some e) (find_opener c b es)) h ∙ cond-true (answers c e) (Some e) (find_opener c b es) k,
  cond-false (nat_lt e.place b) 0 (suc (cond (answers c e) 0 (looks_for c b es))) h ∙ ap suc (cond-true (answers c e) 0 (looks_for c b es) k),
)

step-passes : (c : Run) (b : ℕ) (e : Entry) (es : List Entry) → nat_lt e.place b ≡ false → answers c e ≡ false → (find_opener c b (e ∷ es) ≡ find_opener c b es) × (looks_for c b (e ∷ es) ≡ suc (looks_for c b es))
unfolding find_opener looks_for
step-passes c b e es h k = (
  cond-false (nat_lt e.place b) None (cond (answers c e) (Some e) (find_opener c b es)) h ∙ cond-false (answers c e) (Some e) (find_opener c b es) k,
  cond-false (nat_lt e.place b) 0 (suc (cond (answers c e) 0 (looks_for c b es))) h ∙ ap suc (cond-false (answers c e) 0 (looks_for c b es) k),
)

-- a turn of the search in the program: no entry is left from the bottom on, or one may open, and opens or is passed

pub turn-ends : (c : Run) (bottom : ℕ) (es : List Entry) → first_up es ≤ bottom → (find_opener c bottom es ≡ None) × (looks_for c bottom es ≡ 0)
unfolding find_opener looks_for
turn-ends c bottom [] h = (refl, refl)
turn-ends c bottom (e ∷ es) h = step-low c bottom e es (lt-ltb e.place bottom (omega (arith, h)))

pub turn-finds : (c : Run) (bottom : ℕ) (e : Entry) (es : List Entry) → bottom ≤ e.place → e.run.opens ≡ true → delimiters_match c e.run ≡ true
    → (find_opener c bottom (e ∷ es) ≡ Some e) × (looks_for c bottom (e ∷ es) ≡ 1) × (from_found c bottom (e ∷ es) ≡ e ∷ es)
unfolding from_found
turn-finds c bottom e es high o m =
    let from = le-ltb e.place bottom high in
    let yes : answers c e ≡ true = ap (λ b. b && delimiters_match c e.run) o ∙ m in
    let r = step-finds c bottom e es from yes in
    (r.0, r.1, cond-false (nat_lt e.place bottom) [] (cond (answers c e) (e ∷ es) (from_found c bottom es)) from ∙ cond-true (answers c e) (e ∷ es) (from_found c bottom es) yes)

pub turn-passes : (c : Run) (bottom : ℕ) (e : Entry) (es : List Entry) → bottom ≤ e.place → e.run.opens ≡ true → delimiters_match c e.run ≡ false
    → (find_opener c bottom (e ∷ es) ≡ find_opener c bottom es) × (looks_for c bottom (e ∷ es) ≡ suc (looks_for c bottom es)) × (from_found c bottom (e ∷ es) ≡ from_found c bottom es)
unfolding from_found
turn-passes c bottom e es high o m =
    let from = le-ltb e.place bottom high in
    let no : answers c e ≡ false = ap (λ b. b && delimiters_match c e.run) o ∙ m in
    let r = step-passes c bottom e es from no in
    (r.0, r.1, cond-false (nat_lt e.place bottom) [] (cond (answers c e) (e ∷ es) (from_found c bottom es)) from ∙ cond-false (answers c e) (e ∷ es) (from_found c bottom es) no)
