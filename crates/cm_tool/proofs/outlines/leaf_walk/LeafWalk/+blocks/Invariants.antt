use Rattle.std.proofs.Common.{◌≡◌, ◌++◌, ◌+◌, ◌*◌}
use Rattle.std.specs.List.{slice_range}
use Rattle.cm_tree.specs.Depth.{blocks_depth, depth_of_block}
use Rattle.cm_tree.specs.steps.ItemSteps.{items_depth}
use Rattle.cm_tree.specs.RawBlocks.{block_in}
use Rattle.cm_tool.specs.Leaves.{leaf_depths}
use Rattle.cm_tool.specs.steps.Items.{items_leaf_depths}
use Rattle.cm_tool.specs.steps.LeafWalks.{blocks_read_at, items_read_at}
use Rattle.cm_tool.proofs.lemmas.LeafWalkLemmas.{Reads}
use Rattle.cm_tool.proofs.outlines.leaf_walk.LeafWalk.+blocks.Given as goal

-- What is in a quote or an item nests less deep than the quote or the list.
abbrev pub decreases-items : goal.decreases-items
decreases-items l = 3 * items_depth (slice_range l.self.now.unread.raw.items l.from l.to)

abbrev pub decreases-block : goal.decreases-block
decreases-block l = 3 * depth_of_block (block_in l.self.now.unread.raw l.block) + 1

abbrev pub decreases-blocks : goal.decreases-blocks
decreases-blocks l = 3 * blocks_depth (slice_range l.self.now.unread.raw.blocks l.from l.to) + 2

-- what was read and what is left come to the whole
abbrev pub invariant-blocks-loop-at : goal.invariant-blocks-loop-at
invariant-blocks-loop-at l =
    let whole = blocks_read_at l.initial.self.unread l.from l.to in
    let left = blocks_read_at l.initial.self.unread l.at l.to in
    record {
      read : l.read ++ left ≡ whole;
      leaves : Reads l.initial.self l.self (leaf_depths whole) (leaf_depths left);
    }

abbrev pub invariant-items-loop-at : goal.invariant-items-loop-at
invariant-items-loop-at l =
    let whole = items_read_at l.initial.self.unread l.from l.to in
    let left = items_read_at l.initial.self.unread l.at l.to in
    record {
      read : l.read ++ left ≡ whole;
      leaves : Reads l.initial.self l.self (items_leaf_depths whole) (items_leaf_depths left);
    }
