-- The runs that wait among segments.
use Rattle.std.specs.Prelude.{◌≤◌, List, [], ◌∷◌}
use Rattle.cm_inline.specs.steps.Searching.{IsMarked}
use Rattle.cm_inline.specs.steps.pairing.Segments.{Segment, Waiting, Made}

-- the runs that wait are of stars, underscores or tildes, with something left
abbrev pub AreRuns : List Segment → Type 0
AreRuns [] = Unit {0}
AreRuns (Waiting number run ∷ ss) = IsMarked run × (1 ≤ run.left) × AreRuns ss
AreRuns (Made parts item high ∷ ss) = AreRuns ss
