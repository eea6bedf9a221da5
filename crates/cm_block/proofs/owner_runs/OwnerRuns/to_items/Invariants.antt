use Rattle.std.proofs.Common.{◌≡◌, ◌≤◌, ◌++◌, drop}
use Rattle.cm_block.specs.OwnerRuns.{leaves_in, owners_of}
use Rattle.cm_block.proofs.owner_runs.OwnerRuns.to_items.Given as goal

-- the owners so far, with those of the runs that are left, and the leaves alike
abbrev pub invariant-loop-run : goal.invariant-loop-run
invariant-loop-run l = record {
  owners : l.owners.items ++ owners_of l.leaves (drop l.run-index l.run-items) ≡ owners_of 0 l.run-items;
  leaves : leaves_in l.leaves (drop l.run-index l.run-items) ≡ leaves_in 0 l.run-items;
  few : l.leaves ≤ l.run-index;
}
