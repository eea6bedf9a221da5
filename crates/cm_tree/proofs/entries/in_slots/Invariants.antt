use Rattle.std.proofs.Common.{◌≡◌, ◌≢◌, ℕ, suc, ◌≤◌, ◌<◌, get_or, []}
use Rattle.cm_tree.specs.steps.Entries.{labels_in}
use Rattle.cm_tree.specs.steps.LabelIndex.{home}
use Rattle.cm_tree.proofs.entries.in_slots.Given as goal

-- every slot so far names an entry with another label
abbrev pub invariant-loop-slot : goal.invariant-loop-slot
invariant-loop-slot l =
    ((s : ℕ) → home l.slots l.hash ≤ s → s < l.slot → get_or l.slots s 0 ≢ 0)
    × ((s entry : ℕ) → home l.slots l.hash ≤ s → s < l.slot → get_or l.slots s 0 ≡ suc entry → get_or (labels_in l.texts l.entries) entry [] ≢ l.label)
