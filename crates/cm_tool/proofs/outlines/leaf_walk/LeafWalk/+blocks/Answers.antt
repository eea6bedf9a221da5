use Rattle.std.proofs.Common.{◌≡◌, ◌∙◌, ◌++◌, ◌+◌, [], ◌∷◌, ap, sym, subst, arith}
use Rattle.std.proofs.lemmas.Result.{err_from_is_err_and}
use Rattle.cm_tree.proofs.lemmas.RawWalks.{joined}
use Rattle.cm_tool.specs.steps.LeafWalks.{block_read_of, blocks_read_at, items_read_at, TellsOf}
use Rattle.cm_tool.proofs.lemmas.LeafWalkLemmas.{blocks_first, less_deep, items_first, item_less_deep, block_told, block_next, item_told, item_next, quote_leaves, list_leaves}
use Rattle.cm_tool.proofs.outlines.leaf_walk.LeafWalk.+blocks.Goals as goal

pub block-returns-in_err-blocks-in-Quote-clause-told : goal.block-returns-in_err-blocks-in-Quote-clause-told
block-returns-in_err-blocks-in-Quote-clause-told t c =
    let p = err_from_is_err_and c.from_residual-in_err-blocks-in-Quote.result c.from_residual-in_err-blocks-in-Quote.ensures.1 in
    let walk = c.args.self.now in
    let depths = quote_leaves walk.unread c.args.block c.in-Quote.from c.in-Quote.to c.in-Quote.is in
    rw (p.1, p.2) (subst (TellsOf walk c.in_err-blocks-in-Quote.field-0.0) (sym depths) c.in_err-blocks-in-Quote.ensures.told)

pub block-returns-in_err-items-in-List-clause-told : goal.block-returns-in_err-items-in-List-clause-told
block-returns-in_err-items-in-List-clause-told t c =
    let p = err_from_is_err_and c.from_residual-in_err-items-in-List.result c.from_residual-in_err-items-in-List.ensures.1 in
    let walk = c.args.self.now in
    let depths = list_leaves walk.unread c.args.block c.in-List.kind c.in-List.tight c.in-List.from c.in-List.to c.in-List.is in
    rw (p.1, p.2) (subst (TellsOf walk c.in_err-items-in-List.field-0.0) (sym depths) c.in_err-items-in-List.ensures.told)

pub blocks-block-requires : goal.blocks-block-requires
blocks-block-requires t c =
    let deep = less_deep c.args.self.now c.loop-at.self c.args.from c.loop-at.at c.args.to c.loop-at.invariant.leaves.0 c.loop-at.auto.at c.loop-at-test.true c.block_at-block.result c.requires.1 c.block_at-block.ensures.block in
    (omega (arith, c.decreases, deep), c.block_at-block.ensures.placed)

pub blocks-returns-in_err-block-clause-told : goal.blocks-returns-in_err-block-clause-told
blocks-returns-in_err-block-clause-told t c =
    let p = err_from_is_err_and c.from_residual-in_err-block.result c.from_residual-in_err-block.ensures.1 in
    rw (p.1, p.2) (block_told c.args.self.now c.loop-at.self c.args.from c.loop-at.at c.args.to c.loop-at.auto.at c.loop-at-test.true c.loop-at.invariant.leaves
    c.block_at-block.result c.requires.1 c.block_at-block.ensures.block c.in_err-block.field-0.0 c.in_err-block.ensures.told)

pub blocks-loop-at-preserved : goal.blocks-loop-at-preserved
blocks-loop-at-preserved t c =
    let first = c.args.self.now in
    let now = c.loop-at.self in
    let block = block_read_of now.unread c.block_at-block.result in
    let whole = blocks_read_at first.unread c.args.from c.args.to in
    let rest = blocks_read_at first.unread (c.loop-at.at + 1) c.args.to in
    let step = blocks_first first now c.args.from c.loop-at.at c.args.to c.loop-at.invariant.leaves.0 c.loop-at.auto.at c.loop-at-test.true c.block_at-block.result c.requires.1 c.block_at-block.ensures.block in
    record {
      read = joined c.loop-at.read c.push.new.self (block ∷ []) rest whole (subst (λ blocks. c.loop-at.read ++ blocks ≡ whole) step c.loop-at.invariant.read)
          (c.in_ok-push.ensures.ok ∙ ap (λ b. c.loop-at.read ++ b ∷ []) c.in_ok-block.ensures.read);
      leaves = block_next first now c.args.from c.loop-at.at c.args.to c.loop-at.auto.at c.loop-at-test.true c.loop-at.invariant.leaves
          c.block_at-block.result c.requires.1 c.block_at-block.ensures.block c.block.new.self c.in_ok-block.ensures.passes;
    }

pub items-blocks-requires : goal.items-blocks-requires
items-blocks-requires t c =
    let deep = item_less_deep c.args.self.now c.loop-at.self c.args.from c.loop-at.at c.args.to c.loop-at.invariant.leaves.0 c.loop-at.auto.at c.loop-at-test.true c.item_at-item.result c.requires.1 c.item_at-item.ensures.item in
    (omega (arith, c.decreases, deep), c.item_at-item.ensures.placed)

pub items-returns-in_err-blocks-clause-told : goal.items-returns-in_err-blocks-clause-told
items-returns-in_err-blocks-clause-told t c =
    let p = err_from_is_err_and c.from_residual-in_err-blocks.result c.from_residual-in_err-blocks.ensures.1 in
    rw (p.1, p.2) (item_told c.args.self.now c.loop-at.self c.args.from c.loop-at.at c.args.to c.loop-at.auto.at c.loop-at-test.true c.loop-at.invariant.leaves
    c.item_at-item.result c.requires.1 c.item_at-item.ensures.item c.in_err-blocks.field-0.0 c.in_err-blocks.ensures.told)

pub items-loop-at-preserved : goal.items-loop-at-preserved
items-loop-at-preserved t c =
    let first = c.args.self.now in
    let now = c.loop-at.self in
    let item = c.item_at-item.result in
    let blocks = blocks_read_at now.unread item.from item.to in
    let whole = items_read_at first.unread c.args.from c.args.to in
    let rest = items_read_at first.unread (c.loop-at.at + 1) c.args.to in
    let step = items_first first now c.args.from c.loop-at.at c.args.to c.loop-at.invariant.leaves.0 c.loop-at.auto.at c.loop-at-test.true item c.requires.1 c.item_at-item.ensures.item in
    record {
      read = joined c.loop-at.read c.push.new.self (blocks ∷ []) rest whole (subst (λ items. c.loop-at.read ++ items ≡ whole) step c.loop-at.invariant.read)
          (c.in_ok-push.ensures.ok ∙ ap (λ b. c.loop-at.read ++ b ∷ []) c.in_ok-blocks.ensures.read);
      leaves = item_next first now c.args.from c.loop-at.at c.args.to c.loop-at.auto.at c.loop-at-test.true c.loop-at.invariant.leaves
          item c.requires.1 c.item_at-item.ensures.item c.blocks-in-loop-at.new.self c.in_ok-blocks.ensures.passes;
    }
