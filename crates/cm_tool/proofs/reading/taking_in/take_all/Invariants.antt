use Rattle.std.proofs.Common.{◌≡◌, ℕ, ◌<◌, length, List, [], None}
use Rattle.cm_text.specs.Limits.{LimitsView}
use Rattle.cm_tool.proofs.lemmas.ReadLemmas.{SoFar}
use Rattle.cm_tool.proofs.reading.taking_in.take_all.Given as goal

abbrev pub invariant-loop-n : goal.invariant-loop-n
invariant-loop-n g l = (read : List ℕ)
    × ((limits : LimitsView) → g.T.TakesBytes.has_taken_in limits l.initial.taker [] → g.T.TakesBytes.settled limits [] ≡ None →
    g.T.TakesBytes.has_taken_in limits l.taker read × (g.T.TakesBytes.settled limits read ≡ None))
    × SoFar
    (g.R.Source.seen l.initial.source) (g.R.Source.seen l.source) read
    × (0 < length l.buffer.items)

abbrev pub decreases-loop-n : goal.decreases-loop-n
decreases-loop-n g l = g.T.TakesBytes.left l.taker
