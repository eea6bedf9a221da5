use Rattle.std.proofs.Common.{◌≡◌, None, drop, map}
use Rattle.cm_source.specs.Refusals.{judged_block, refusal_of_all, refusal_of_items}
use Rattle.cm_source.specs.Faces.{seen}
use Rattle.cm_source.proofs.refusals.+blocks.Given as goal

-- What was taken is refused for no reason, and what is left is for the reason of all.
abbrev pub invariant-check_blocks-loop-block : goal.invariant-check_blocks-loop-block
invariant-check_blocks-loop-block l = refusal_of_all None (map (judged_block l.rules) l.blocks) ≡ refusal_of_all (seen l.before) (map (judged_block l.rules) (drop l.block-index l.blocks))

abbrev pub invariant-check_block-loop-item : goal.invariant-check_block-loop-item
invariant-check_block-loop-item l = refusal_of_items (map (map (judged_block l.rules)) (drop l.item-index l.item-items)) ≡ refusal_of_items (map (map (judged_block l.rules)) l.item-items)
