use Rattle.std.proofs.Common.{◌≢◌, ℕ, ◌≤◌, ◌<◌, get_or}
use Rattle.cm_tree.specs.steps.LabelIndex.{home}
use Rattle.cm_tree.proofs.label_index.free_slot.Given as goal

-- no slot so far was free
abbrev pub invariant-loop-slot : goal.invariant-loop-slot
invariant-loop-slot l = (s : ℕ) → home l.slots l.hash ≤ s → s < l.slot → get_or l.slots s 0 ≢ 0
