-- Adjacent lines with the same owner, kept as runs with the blank lines after them. A run says whether its lines belong to the next leaf, the last one or none, so the
-- leaves are counted from run to run.
use Rattle.std.specs.Prelude.{ℕ, suc, List, [], ◌∷◌, ◌++◌, replicate}
use Rattle.cm_tree.specs.declared.tree.Owner.{Owner}
use Rattle.cm_tree.specs.declared.tree.Owner.TheVariants as owner
use Rattle.cm_block.specs.declared.owner_runs.OwnerRun.{OwnerRun}
use Rattle.cm_block.specs.declared.owner_runs.RunOwner.{RunOwner}
use Rattle.cm_block.specs.declared.owner_runs.RunOwner.TheVariants.{Blank, Marker, NextLeaf, SameLeaf}

-- how many leaves there are with a run, after the given number
abbrev pub leaves_with : ℕ → RunOwner → ℕ
leaves_with leaves Blank = leaves
leaves_with leaves Marker = leaves
leaves_with leaves NextLeaf = suc leaves
leaves_with leaves SameLeaf = leaves

-- the owner of a run's lines, given the number of leaves with it
abbrev pub owner_of : ℕ → RunOwner → Owner
owner_of leaves Blank = owner.Blank
owner_of leaves Marker = owner.Marker
owner_of leaves NextLeaf = owner.Leaf leaves
owner_of leaves SameLeaf = owner.Leaf leaves

-- how many leaves there are with some runs, after the given number
abbrev pub leaves_in : ℕ → List OwnerRun → ℕ
leaves_in leaves [] = leaves
leaves_in leaves (run ∷ runs) = leaves_in (leaves_with leaves run.owner) runs

-- the owners of a run's lines, after the given number of leaves
abbrev pub owners_of_run : ℕ → OwnerRun → List Owner
owners_of_run leaves run = replicate run.lines (owner_of (leaves_with leaves run.owner) run.owner) ++ replicate run.blanks owner.Blank

-- the owner of each line of some runs, after the given number of leaves
abbrev pub owners_of : ℕ → List OwnerRun → List Owner
owners_of leaves [] = []
owners_of leaves (run ∷ runs) = owners_of_run leaves run ++ owners_of (leaves_with leaves run.owner) runs

-- the owner of each line of closed runs and the last one
abbrev pub owners_in : List OwnerRun → OwnerRun → List Owner
owners_in closed last = owners_of 0 closed ++ owners_of_run (leaves_in 0 closed) last

-- the owner of each line so far, and how many leaves there are
pub record OwnedLines : Type 0 where
  pub owners : List Owner
  pub leaves : ℕ
