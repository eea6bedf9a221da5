use Rattle.std.proofs.Common.{◌++◌, subst}
use Rattle.std.proofs.lemmas.Result.{err_from_is_err_and}
use Rattle.cm_source.specs.Definitions.{without_definitions}
use Rattle.cm_tool.specs.steps.LeafWalks.{all_left}
use Rattle.cm_tool.proofs.lemmas.LeafWalkLemmas.{first_left, then_read, then_told, with_reader}
use Rattle.cm_tool.proofs.lemmas.PlainSourceLemmas.{Takes, takes_next}
use Rattle.cm_tool.proofs.outlines.leaf_walk.LeafWalk.push_plain_source.Goals as goal

pub loop-block-preserved : goal.loop-block-preserved
loop-block-preserved c =
    let old = c.loop-block.source in
    let new = c.push_cleared.new.self in
    let first = first_left c.in_ok-block.ensures.block c.in-Some.is in
    record {
      takes = λ rules taken start.
          let whole = taken ++ without_definitions (all_left c.args.self.now.unread) in
          takes_next rules c.in-Some.block (all_left c.next_block.new.self.unread) old new whole c.in_ok-push_cleared.ensures
          (subst (λ blocks. Takes rules blocks old whole) first (c.loop-block.invariant.takes rules taken start));
      passes = with_reader _ (then_read c.args.self.now c.loop-block.self c.loop-block.invariant.passes c.next_block.new.self c.in_ok-block.ensures.passes);
    }

pub returns-in_err-block-clause-told : goal.returns-in_err-block-clause-told
returns-in_err-block-clause-told c =
    let p = err_from_is_err_and c.from_residual.result c.from_residual.ensures.1 in
    rw (p.1, p.2) (then_told c.args.self.now c.loop-block.self c.loop-block.invariant.passes c.in_err-block.field-0.0 c.in_err-block.ensures.told)
