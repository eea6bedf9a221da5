use Rattle.std.proofs.Common.{◌≡◌, ◌++◌, ◌+◌, ◌*◌}
use Rattle.std.specs.List.{slice_range}
use Rattle.cm_tree.specs.Depth.{blocks_depth, depth_of_block}
use Rattle.cm_tree.specs.steps.ItemSteps.{items_depth}
use Rattle.cm_tree.specs.RawBlocks.{block_in}
use Rattle.cm_block.proofs.outline.+blocks.Given as goal

-- What is in a quote or an item nests less deep than the quote or the list.
abbrev pub decreases-made_items : goal.decreases-made_items
decreases-made_items l = 3 * items_depth (slice_range l.raw.now.items l.from l.to)

abbrev pub decreases-made_block : goal.decreases-made_block
decreases-made_block l = 3 * depth_of_block (block_in l.raw.now l.block) + 1

abbrev pub decreases-made_blocks : goal.decreases-made_blocks
decreases-made_blocks l = 3 * blocks_depth (slice_range l.raw.now.blocks l.from l.to) + 2

-- what was made and what is left come to the whole
abbrev pub invariant-made_blocks-loop-at : goal.invariant-made_blocks-loop-at
invariant-made_blocks-loop-at l = l.made ++ slice_range l.raw.blocks l.at l.to ≡ slice_range l.raw.blocks l.from l.to

abbrev pub invariant-made_items-loop-at : goal.invariant-made_items-loop-at
invariant-made_items-loop-at l = l.made ++ slice_range l.raw.items l.at l.to ≡ slice_range l.raw.items l.from l.to
