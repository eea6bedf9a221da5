use Rattle.std.proofs.Common.{take}
use Rattle.cm_tree.specs.steps.Entries.{labels_in}
use Rattle.cm_tree.specs.steps.LabelIndex.{IsIndex}
use Rattle.cm_tree.proofs.entries.indexed.Given as goal

-- the index has the entries so far
abbrev pub invariant-loop-at : goal.invariant-loop-at
invariant-loop-at l = IsIndex l.index (take l.at (labels_in l.texts l.entries))
