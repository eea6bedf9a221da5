use Rattle.cm_inline.proofs.lemmas.Words.{ℕ, Bool, List, Targets}
use Rattle.cm_inline.specs.steps.Nesting.{NestsTo, NestsFrom}
use Rattle.cm_inline.proofs.nesting.deepest.Given as goal

abbrev pub invariant-loop-mark : goal.invariant-loop-mark
invariant-loop-mark l = (lines : Bool) (source : List ℕ) (targets : Targets) (depth : ℕ) → NestsTo lines source targets l.reader depth → NestsFrom lines source targets l.reader depth l.mark-index l.level
