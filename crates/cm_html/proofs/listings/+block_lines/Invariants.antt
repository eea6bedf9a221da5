use Rattle.std.proofs.Common.{◌≡◌, ◌++◌, suc, map, drop}
use Rattle.cm_html.specs.Listing.{listed, listed_blocks, all_items}
use Rattle.cm_html.proofs.listings.+block_lines.Given as goal

-- what was written and what is left are all
abbrev pub invariant-push_blocks-loop-block : goal.invariant-push_blocks-loop-block
invariant-push_blocks-loop-block l =
    l.out ++ listed_blocks l.depth (drop l.block-index l.blocks) ≡ l.fn.out ++ listed_blocks l.depth l.blocks

abbrev pub invariant-push_block-loop-item : goal.invariant-push_block-loop-item
invariant-push_block-loop-item l =
    l.out ++ all_items (suc l.depth) (map (map listed) (drop l.item-index l.item-items)) ≡ l.fn.out ++ listed l.block l.depth
