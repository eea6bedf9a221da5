use Rattle.cm_inline.proofs.lemmas.Words.{◌≡◌, ◌≤◌, length}
use Rattle.cm_inline.specs.steps.pairing.Events.{build}
use Rattle.cm_inline.specs.steps.pairing.Parts.{starts}
use Rattle.cm_inline.specs.steps.Building.{built_in}
use Rattle.cm_inline.specs.steps.Runs.{pairs_in}
use Rattle.cm_inline.proofs.made.Made.open_pairs.Given as goal

-- what was made and what is left are all
abbrev pub invariant-loop-next : goal.invariant-loop-next
invariant-loop-next l = record {
  within : l.next ≤ length l.pairs;
  same : build (built_in l.self) (starts (pairs_in l.pairs) l.next) ≡ build (built_in l.initial.self) (starts (pairs_in l.pairs) l.opened);
}

-- a pair was made before the next
abbrev pub decreases-loop-next : goal.decreases-loop-next
decreases-loop-next l = l.next
