use Rattle.std.proofs.Common.{◌≡◌, ◌+◌, drop}
use Rattle.std.specs.List.{position_from}
use Rattle.cm_tool.specs.FaultPlaces.{first_line_of_leaf, is_of_leaf}
use Rattle.cm_tool.proofs.outlines.faults.first_line_of_leaf.Given as goal

-- the first line among those that are left is that of all
abbrev pub invariant-loop-at : goal.invariant-loop-at
invariant-loop-at l = position_from (is_of_leaf l.leaf) (l.at + 1) (drop l.at l.owners) ≡ first_line_of_leaf l.leaf l.owners
