use Rattle.cm_inline.proofs.lemmas.Words.{◌≤◌, length}
use Rattle.cm_inline.proofs.sizes.Sizes.begin_pairs.Given as goal

abbrev pub invariant-loop-next : goal.invariant-loop-next
invariant-loop-next l = l.next ≤ length l.pairs

-- a pair was made before the next
abbrev pub decreases-loop-next : goal.decreases-loop-next
decreases-loop-next l = l.next
