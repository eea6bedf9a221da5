-- Link reference definitions by their folded labels (CommonMark 0.31.2, 4.7 Link reference definitions, 6.3 Links).
use Rattle.std.specs.Prelude.{◌≡◌, ℕ, true, false, List, [], ◌∷◌, ◌++◌, get_or, Option, Some, None, is_some, if◌then◌else◌}
use Rattle.std.specs.Str.{bytes_eq}
use Rattle.cm_text.specs.Rules.{Rules}
use Rattle.cm_text.specs.Addresses.{is_followed}
use Rattle.cm_text.specs.Labels.{fold_label}

-- a destination and a title
abbrev pub Target : Type 0
Target = List ℕ × List ℕ

-- a target, if the rules follow its address
abbrev pub target_if_followed : Rules → Option Target → Option Target
target_if_followed rules None = None
target_if_followed rules (Some target) = elim (is_followed rules target.0) [ true ↦ Some target | false ↦ None ]

-- the definitions in the order in which they were added, each a folded label and a target, each label once
abbrev pub Targets : Type 0
Targets = List (List ℕ × Target)

-- the target of a folded label
abbrev pub target_under : List ℕ → Targets → Option Target
target_under folded [] = None
target_under folded (d ∷ ds) = if bytes_eq d.0 folded then Some d.1 else target_under folded ds

-- the target of the definition of this number, counted from 0
abbrev pub target_numbered : Targets → ℕ → Target
target_numbered targets number = (get_or targets number ([], ([], []))).1

-- a table with one more definition: the first of equal folded labels stays
abbrev pub add_first : Targets → List ℕ → Target → Targets
add_first targets folded target = if is_some (target_under folded targets) then targets else targets ++ (folded, target) ∷ []

-- a table to which these definitions, each a label and a target, have been added in order
abbrev pub add_all : Targets → List (List ℕ × Target) → Targets
add_all targets [] = targets
add_all targets (d ∷ ds) = add_all (add_first targets (fold_label d.0) d.1) ds

-- the target of the first definition whose folded label is this one
abbrev pub first_under : List ℕ → List (List ℕ × Target) → Option Target
first_under folded [] = None
first_under folded (d ∷ ds) = if bytes_eq (fold_label d.0) folded then Some d.1 else first_under folded ds

-- In a table to which definitions were added in order, a label has the target of the first definition with an equal folded
-- label.
abbrev pub FirstCounts : Type 0
FirstCounts = (definitions : List (List ℕ × Target)) (label : List ℕ)
    → target_under (fold_label label) (add_all [] definitions) ≡ first_under (fold_label label) definitions
