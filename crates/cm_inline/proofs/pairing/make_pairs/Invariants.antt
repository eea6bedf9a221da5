use Rattle.cm_inline.proofs.lemmas.Words.{◌≡◌, ◌≤◌, List, suc, length, Item}
use Rattle.cm_inline.specs.steps.Entries.{last_entry}
use Rattle.cm_inline.specs.steps.Slots.{first_up}
use Rattle.cm_inline.specs.steps.pairing.ClosingRuns.{RunComes, CloserGoesOn, CloserDone}
use Rattle.cm_inline.specs.steps.pairing.Parts.{Part}
use Rattle.cm_inline.specs.steps.pairing.States.{RunSteps, held_before, run_at, state_of}
use Rattle.cm_inline.specs.steps.Runs.{run_of}
use Rattle.cm_inline.proofs.pairing.make_pairs.Given as goal

-- What is left of the closer goes on to what the run comes to.
abbrev pub invariant-loop-closer : goal.invariant-loop-closer
invariant-loop-closer l = record {
  steps : RunSteps (held_before l.fn.list l.fn.pairs.items) (held_before l.list l.pairs.items) l.fn.bottoms l.bottoms l.number l.number 0;
  last : last_entry l.list.entries ≡ last_entry l.fn.list.entries;
  own : run_at l.list.runs l.number ≡ run_at l.fn.list.runs l.number;
  top : first_up l.list.entries ≡ suc l.number;
  early : length l.fn.pairs.items ≤ length l.pairs.items;
  same : run_of l.closer ≡ record (run_of l.fn.run) { left = l.closer.left };
  fewer : l.closer.left ≤ l.fn.run.left;
  going : (parts : List Part) (had : List Item) → RunComes parts (state_of (held_before l.fn.list l.fn.pairs.items) l.fn.bottoms l.number) (run_of l.fn.run) had → 1 ≤ l.closer.left
      → CloserGoesOn parts (state_of (held_before l.fn.list l.fn.pairs.items) l.fn.bottoms l.number) (run_of l.fn.run) had (state_of (held_before l.list l.pairs.items) l.bottoms l.number) (run_of l.closer);
  done : (parts : List Part) (had : List Item) → RunComes parts (state_of (held_before l.fn.list l.fn.pairs.items) l.fn.bottoms l.number) (run_of l.fn.run) had → l.closer.left ≡ 0
      → CloserDone parts (state_of (held_before l.fn.list l.fn.pairs.items) l.fn.bottoms l.number) (run_of l.fn.run) had (state_of (held_before l.list l.pairs.items) l.bottoms l.number) 0;
}

abbrev pub decreases-loop-closer : goal.decreases-loop-closer
decreases-loop-closer l = l.closer.left
