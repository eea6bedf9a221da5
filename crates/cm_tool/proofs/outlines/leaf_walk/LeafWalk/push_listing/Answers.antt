use Rattle.std.proofs.Common.{◌≡◌, ◌++◌, subst}
use Rattle.std.proofs.lemmas.Result.{err_from_is_err_and}
use Rattle.cm_tree.proofs.lemmas.RawWalks.{joined}
use Rattle.cm_html.specs.Listing.{listed, listed_blocks}
use Rattle.cm_tool.specs.steps.LeafWalks.{all_left}
use Rattle.cm_tool.proofs.lemmas.LeafWalkLemmas.{first_left, then_read, then_told, with_reader}
use Rattle.cm_tool.proofs.outlines.leaf_walk.LeafWalk.push_listing.Goals as goal

pub loop-block-preserved : goal.loop-block-preserved
loop-block-preserved c =
    let old = c.loop-block.listing in
    let whole = c.args.listing.now ++ listed_blocks 0 (all_left c.args.self.now.unread) in
    let first = first_left c.in_ok-block.ensures.block c.in-Some.is in
    record {
      listing = joined old c.push_listed_block.new.out (listed c.in-Some.block 0) (listed_blocks 0 (all_left c.next_block.new.self.unread)) whole
          (subst (λ blocks. old ++ listed_blocks 0 blocks ≡ whole) first c.loop-block.invariant.listing) c.in_ok-push_listed_block.ensures;
      passes = with_reader _ (then_read c.args.self.now c.loop-block.self c.loop-block.invariant.passes c.next_block.new.self c.in_ok-block.ensures.passes);
    }

pub returns-in_err-block-clause-told : goal.returns-in_err-block-clause-told
returns-in_err-block-clause-told c =
    let p = err_from_is_err_and c.from_residual.result c.from_residual.ensures.1 in
    rw (p.1, p.2) (then_told c.args.self.now c.loop-block.self c.loop-block.invariant.passes c.in_err-block.field-0.0 c.in_err-block.ensures.told)
