-- The delimiter runs of a leaf's source, including those inside its links and images.
use Rattle.std.specs.Prelude.{ℕ, zero, suc, ◌-◌, ◌≤◌, List, [], ◌∷◌, ◌++◌, length, sum_by}
use Rattle.cm_text.specs.Rules.{Rules}
use Rattle.cm_scan.specs.inlines.Delimiters.{Run}
use Rattle.cm_scan.specs.inlines.Pairing.{Item}
use Rattle.cm_scan.specs.inlines.Atoms.{Atom, Delimiter, atom_at}
use Rattle.cm_scan.specs.inlines.Brackets.{Defined}
use Rattle.cm_scan.specs.inlines.Inlines.{item_step}

abbrev pub run_in : Atom → List Run
run_in (Delimiter run) = run ∷ []
run_in _ = []

-- the runs from a place of the source on, read as `items_after` reads
unfoldable pub runs_after : Rules → Defined → ℕ → (before : List ℕ) → List ℕ → List Item → List Run
runs_after rules defined n before [] items = []
runs_after rules defined (suc n) before (b ∷ bs) items = runs_after rules defined n (b ∷ before) bs items
runs_after rules defined zero before (b ∷ bs) items =
    let next = item_step rules defined before b bs items in
    run_in (atom_at rules before b bs).atom ++ runs_after rules defined (length bs - length next.rest) (b ∷ before) bs next.items

-- the delimiter runs of a source
unfoldable pub runs_of : Rules → Defined → List ℕ → List Run
runs_of rules defined source = runs_after rules defined zero [] source []

-- how many characters the runs have together
abbrev pub characters_of : List Run → ℕ
characters_of runs = sum_by (λ (run : Run). run.whole) runs

-- Each delimiter run has at least one character, and together they have at most as many as the source has
-- bytes.
abbrev pub RunsAreFew : Type 0
RunsAreFew = (rules : Rules) (defined : Defined) (source : List ℕ) → let runs = runs_of rules defined source in
    (length runs ≤ characters_of runs) × (characters_of runs ≤ length source)
