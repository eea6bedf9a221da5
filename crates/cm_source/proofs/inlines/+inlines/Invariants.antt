use Rattle.std.proofs.Common.{◌≡◌, ℕ, List, ◌++◌, drop}
use Rattle.cm_source.specs.Inlines.{spelled_inlines}
use Rattle.cm_source.specs.steps.WrittenLines.{Lays}
use Rattle.cm_source.proofs.inlines.+inlines.Given as goal

-- What was taken is written, and what is left continues as all would.
abbrev pub invariant-spell_inlines-loop-at : goal.invariant-spell_inlines-loop-at
invariant-spell_inlines-loop-at l = (done : List ℕ) × Lays l.fn.source l.source done × (spelled_inlines l.fn.first l.last l.inlines ≡ done ++ spelled_inlines l.first l.last (drop l.at l.inlines))
