use Rattle.std.proofs.Common.{◌≡◌, ◌∙◌, ◌++◌, ◌+◌, ap, subst, arith, [], ◌∷◌}
use Rattle.std.specs.List.{slice_range}
use Rattle.cm_tree.specs.declared.tree.Block.{Block}
use Rattle.cm_tree.specs.RawBlocks.{block_in, item_in}
use Rattle.cm_tree.proofs.lemmas.RawWalks.{joined, there-first, block_depth, item_depth}
use Rattle.cm_block.proofs.outline.+blocks.Goals as goal

pub made_blocks-made_block-requires : goal.made_blocks-made_block-requires
made_blocks-made_block-requires t c =
    let raw = c.args.raw.now in
    let deep = block_depth c.args.from c.loop-at.at c.args.to c.loop-at.auto.at c.loop-at-test.true raw.blocks (block_in raw c.block_at.result) c.requires.1 c.block_at.ensures.block in
    (omega (arith, c.decreases, deep), c.block_at.ensures.placed)

pub made_blocks-loop-at-preserved : goal.made_blocks-loop-at-preserved
made_blocks-loop-at-preserved t c =
    let raw = c.args.raw.now in
    let block = block_in raw c.block_at.result in
    let all = slice_range raw.blocks c.args.from c.args.to in
    let step = there-first raw.blocks c.args.from c.loop-at.at c.args.to block c.loop-at.auto.at c.loop-at-test.true c.requires.1 c.block_at.ensures.block in
    joined c.loop-at.made c.push.new.self (block ∷ []) (slice_range raw.blocks (c.loop-at.at + 1) c.args.to) all
    (subst (λ left. c.loop-at.made ++ left ≡ all) step c.loop-at.invariant)
    (c.in_ok-push.ensures.ok ∙ ap (λ (b : Block). c.loop-at.made ++ b ∷ []) c.in_ok-made_block.ensures)

pub made_items-made_blocks-requires : goal.made_items-made_blocks-requires
made_items-made_blocks-requires t c =
    let raw = c.args.raw.now in
    let item = c.item_at-item.result in
    let deep = item_depth c.args.from c.loop-at.at c.args.to c.loop-at.auto.at c.loop-at-test.true raw.items (item_in raw item) c.requires.1 c.item_at-item.ensures.item in
    (omega (arith, c.decreases, deep), c.item_at-item.ensures.placed)

pub made_items-loop-at-preserved : goal.made_items-loop-at-preserved
made_items-loop-at-preserved t c =
    let raw = c.args.raw.now in
    let item = item_in raw c.item_at-item.result in
    let all = slice_range raw.items c.args.from c.args.to in
    let step = there-first raw.items c.args.from c.loop-at.at c.args.to item c.loop-at.auto.at c.loop-at-test.true c.requires.1 c.item_at-item.ensures.item in
    joined c.loop-at.made c.push.new.self (item ∷ []) (slice_range raw.items (c.loop-at.at + 1) c.args.to) all
    (subst (λ left. c.loop-at.made ++ left ≡ all) step c.loop-at.invariant)
    (c.in_ok-push.ensures.ok ∙ ap (λ b. c.loop-at.made ++ b ∷ []) c.in_ok-made_blocks.ensures)
