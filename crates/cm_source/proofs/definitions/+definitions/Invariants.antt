use Rattle.std.proofs.Common.{◌≡◌, take, map}
use Rattle.cm_source.specs.Definitions.{cleared, without_definitions}
use Rattle.cm_source.proofs.definitions.+definitions.Given as goal

abbrev pub invariant-clear-loop-item : goal.invariant-clear-loop-item
invariant-clear-loop-item l = goal.unvisited-clear-loop-item l
    × (take l.item-index l.item-items ≡ map without_definitions (take l.item-index l.initial.item-items))

abbrev pub invariant-without_definitions-loop-block : goal.invariant-without_definitions-loop-block
invariant-without_definitions-loop-block l = goal.unvisited-without_definitions-loop-block l
    × (take l.block-index l.block-items ≡ map cleared (take l.block-index l.initial.block-items))
