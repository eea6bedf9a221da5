use Rattle.std.proofs.Common.{◌≡◌, ◌++◌, replicate}
use Rattle.cm_block.specs.OwnerRuns.{owner_of}
use Rattle.cm_block.proofs.owner_runs.OwnerRuns.push_times.Given as goal

-- what is added, and what is left to add, come to the whole
abbrev pub invariant-loop-left : goal.invariant-loop-left
invariant-loop-left l = record {
  owners : l.self.owners ++ replicate l.left (owner_of l.fn.self.leaves l.owner)
      ≡ l.fn.self.owners ++ replicate l.times (owner_of l.fn.self.leaves l.owner);
  leaves : l.self.leaves ≡ l.fn.self.leaves;
}

abbrev pub decreases-loop-left : goal.decreases-loop-left
decreases-loop-left l = l.left
