use Rattle.cm_inline.proofs.lemmas.Words.{◌≡◌, ◌≤◌, length}
use Rattle.cm_inline.specs.steps.pairing.Parts.{starts}
use Rattle.cm_inline.specs.steps.pairing.Readings.{Tags, page, write_all}
use Rattle.cm_inline.specs.steps.Runs.{pairs_in}
use Rattle.cm_inline.proofs.html_runs.push_starts.Given as goal

-- what was written and what is left are all
abbrev pub invariant-loop-next : goal.invariant-loop-next
invariant-loop-next l = record {
  within : l.next ≤ length l.pairs;
  same : write_all (page l.html Tags) (starts (pairs_in l.pairs) l.next) ≡ write_all (page l.initial.html Tags) (starts (pairs_in l.pairs) l.opened);
}

-- a pair was made before the next
abbrev pub decreases-loop-next : goal.decreases-loop-next
decreases-loop-next l = l.next
