use Rattle.std.proofs.Common.{◌≡◌, ◌∙◌, ◌++◌, ◌∷◌, [], ap, subst}
use Rattle.std.proofs.lemmas.List.{drop_more}
use Rattle.cm_tree.specs.declared.tree.Block.{Block}
use Rattle.cm_tree.specs.declared.raw_blocks.RawBlock.TheVariants as raw_block
use Rattle.cm_tree.specs.RawBlocks.{blocks_in, ArePlaced}
use Rattle.cm_tree.proofs.lemmas.RawWalks.{joined}
use Rattle.cm_block.proofs.outline.push_chunk.Goals as goal

pub loop-block-init : goal.loop-block-init
loop-block-init c = record {
  made = ap (λ blocks. c.args.made.now ++ blocks) c.contents.ensures.blocks;
  placed = c.contents.ensures.placed;
}

pub made_block-requires : goal.made_block-requires
made_block-requires c =
    (subst (ArePlaced c.contents.result.1.now) (drop_more c.contents.result.0.now c.loop-block.block-index (raw_block.Paragraph 0 0) c.loop-block-test.true) c.loop-block.invariant.placed).0

pub loop-block-preserved : goal.loop-block-preserved
loop-block-preserved c =
    let inside = c.contents.result.1.now in
    let step = drop_more c.contents.result.0.now c.loop-block.block-index (raw_block.Paragraph 0 0) c.loop-block-test.true in
    let all = c.args.made.now ++ c.args.chunk.now in
    record {
      made = joined c.loop-block.made c.push.new.self _ _ all (subst (λ left. c.loop-block.made ++ blocks_in inside left ≡ all) step c.loop-block.invariant.made)
          (c.in_ok-push.ensures.ok ∙ ap (λ (b : Block). c.loop-block.made ++ b ∷ []) c.in_ok-made_block.ensures);
      placed = (subst (ArePlaced inside) step c.loop-block.invariant.placed).1;
    }
