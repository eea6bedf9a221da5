use Rattle.std.proofs.Common.{◌≡◌, drop, map}
use Rattle.std.specs.List.{list_any}
use Rattle.cm_text.specs.Rules.{Rules}
use Rattle.cm_source.specs.Refusals.{has_two, faces, judged_block}
use Rattle.cm_source.proofs.refusals.any_has_two.Given as goal

-- What is left decides.
abbrev pub invariant-loop-item : goal.invariant-loop-item
invariant-loop-item l =
    (rules : Rules) → list_any has_two (map faces (map (map (judged_block rules)) (drop l.item-index l.items))) ≡ list_any has_two (map faces (map (map (judged_block rules)) l.items))
