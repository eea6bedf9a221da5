use Rattle.std.proofs.Common.{◌≡◌, ◌++◌, true, false, map, drop}
use Rattle.cm_html.specs.Html.{html_of, inside_from, written, alone, items_html, list_end}
use Rattle.cm_html.proofs.blocks.+blocks.Given as goal

-- what was written and what is left are all
abbrev pub invariant-push_blocks-loop-block : goal.invariant-push_blocks-loop-block
invariant-push_blocks-loop-block l = l.out ++ html_of (drop l.block-index l.blocks) ≡ l.fn.out ++ html_of l.blocks

abbrev pub invariant-push_tight-loop-block : goal.invariant-push_tight-loop-block
invariant-push_tight-loop-block l = l.out ++ inside_from true l.fresh (map written (drop l.block-index l.blocks)) ≡ l.fn.out ++ inside_from true true (map written l.blocks)

abbrev pub invariant-push_loose-loop-block : goal.invariant-push_loose-loop-block
invariant-push_loose-loop-block l = l.out ++ inside_from false l.first (map written (drop l.block-index l.blocks)) ≡ l.fn.out ++ inside_from false true (map written l.blocks)

abbrev pub invariant-push_block-loop-item : goal.invariant-push_block-loop-item
invariant-push_block-loop-item l = (l.out ++ items_html l.tight (map (map written) (drop l.item-index l.item-items))) ++ list_end l.kind ≡ l.fn.out ++ alone (written l.block)
