use Rattle.std.proofs.Common.{◌≡◌, ◌++◌}
use Rattle.cm_tree.proofs.clones.+copy_blocks.Given as goal

-- the copies and what is left are the items
abbrev pub invariant-copy_block-loop-item : goal.invariant-copy_block-loop-item
invariant-copy_block-loop-item l = l.copies ++ l.item-iterator.rest.now ≡ l.initial.item-iterator.rest.now

-- the copies and what is left are the blocks
abbrev pub invariant-copy_blocks-loop-block : goal.invariant-copy_blocks-loop-block
invariant-copy_blocks-loop-block l = l.copies ++ l.block-iterator.rest.now ≡ l.blocks
