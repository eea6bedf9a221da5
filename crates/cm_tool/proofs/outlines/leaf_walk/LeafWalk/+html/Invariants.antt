use Rattle.std.proofs.Common.{◌≡◌, ◌++◌, ◌+◌, ◌*◌}
use Rattle.std.specs.List.{slice_range}
use Rattle.std.specs.Prelude.{map, true}
use Rattle.cm_tree.specs.Depth.{blocks_depth, depth_of_block}
use Rattle.cm_tree.specs.steps.ItemSteps.{items_depth}
use Rattle.cm_tree.specs.RawBlocks.{block_in, item_in}
use Rattle.cm_html.specs.Html.{html_of, items_html, written, inside_from}
use Rattle.cm_tool.specs.Leaves.{leaf_depths}
use Rattle.cm_tool.specs.steps.Items.{items_leaf_depths}
use Rattle.cm_tool.specs.steps.LeafWalks.{blocks_read_at, items_read_at}
use Rattle.cm_tool.proofs.lemmas.LeafWalkLemmas.{Reads}
use Rattle.cm_tool.proofs.outlines.leaf_walk.LeafWalk.+html.Given as goal

-- What is in a quote or an item nests less deep than the quote or the list.
abbrev pub decreases-push_items : goal.decreases-push_items
decreases-push_items l = 5 * items_depth (slice_range l.self.now.unread.raw.items l.from l.to)

abbrev pub decreases-push_block : goal.decreases-push_block
decreases-push_block l = 5 * depth_of_block (block_in l.self.now.unread.raw l.block) + 1

abbrev pub decreases-push_apart : goal.decreases-push_apart
decreases-push_apart l = 5 * depth_of_block (block_in l.self.now.unread.raw l.block) + 2

abbrev pub decreases-push_inside : goal.decreases-push_inside
decreases-push_inside l = 5 * depth_of_block (block_in l.self.now.unread.raw l.block) + 3

abbrev pub decreases-push_blocks : goal.decreases-push_blocks
decreases-push_blocks l = 5 * blocks_depth (slice_range l.self.now.unread.raw.blocks l.from l.to) + 4

abbrev pub decreases-push_item : goal.decreases-push_item
decreases-push_item l = 5 * blocks_depth (item_in l.self.now.unread.raw l.item) + 4

-- what was written and what is left come to the whole
abbrev pub invariant-push_blocks-loop-at : goal.invariant-push_blocks-loop-at
invariant-push_blocks-loop-at l =
    let whole = blocks_read_at l.initial.self.unread l.from l.to in
    let left = blocks_read_at l.initial.self.unread l.at l.to in
    record {
      html : l.html ++ html_of left ≡ l.initial.html ++ html_of whole;
      leaves : Reads l.initial.self l.self (leaf_depths whole) (leaf_depths left);
    }

abbrev pub invariant-push_item-loop-at : goal.invariant-push_item-loop-at
invariant-push_item-loop-at l =
    let whole = blocks_read_at l.initial.self.unread l.fn.item.from l.fn.item.to in
    let left = blocks_read_at l.initial.self.unread l.at l.fn.item.to in
    record {
      html : l.html ++ inside_from l.tight l.fresh (map written left) ≡ l.initial.html ++ inside_from l.tight true (map written whole);
      leaves : Reads l.initial.self l.self (leaf_depths whole) (leaf_depths left);
    }

abbrev pub invariant-push_items-loop-at : goal.invariant-push_items-loop-at
invariant-push_items-loop-at l =
    let whole = items_read_at l.initial.self.unread l.from l.to in
    let left = items_read_at l.initial.self.unread l.at l.to in
    record {
      html : l.html ++ items_html l.tight (map (map written) left) ≡ l.initial.html ++ items_html l.tight (map (map written) whole);
      leaves : Reads l.initial.self l.self (items_leaf_depths whole) (items_leaf_depths left);
    }
