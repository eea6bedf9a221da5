use Rattle.cm_inline.proofs.lemmas.Words.{◌≡◌, ◌≤◌, ◌^◌, length}
use Rattle.cm_inline.specs.steps.pairing.Parts.{starts}
use Rattle.cm_inline.specs.steps.Nesting.{rise_all, CanRiseAll}
use Rattle.cm_inline.specs.steps.Runs.{pairs_in}
use Rattle.cm_inline.proofs.nesting.after_starts.Given as goal

-- the starts that are left go on from this level
abbrev pub invariant-loop-next : goal.invariant-loop-next
invariant-loop-next l = record {
  within : l.next ≤ length l.pairs;
  rises : CanRiseAll (2 ^ 64) l.level (starts (pairs_in l.pairs) l.next);
  same : rise_all l.level (starts (pairs_in l.pairs) l.next) ≡ rise_all l.initial.level (starts (pairs_in l.pairs) l.opened);
}

-- a pair was made before the next
abbrev pub decreases-loop-next : goal.decreases-loop-next
decreases-loop-next l = l.next
