use Rattle.std.proofs.Common.{◌≡◌, drop, map}
use Rattle.std.specs.List.{list_all}
use Rattle.cm_text.specs.Rules.{Rules}
use Rattle.cm_source.specs.Refusals.{is_tight_item, faces, judged_block}
use Rattle.cm_source.proofs.refusals.are_tight.Given as goal

-- What is left decides.
abbrev pub invariant-loop-item : goal.invariant-loop-item
invariant-loop-item l =
    (rules : Rules) → list_all is_tight_item (map faces (map (map (judged_block rules)) (drop l.item-index l.items))) ≡ list_all is_tight_item (map faces (map (map (judged_block rules)) l.items))
