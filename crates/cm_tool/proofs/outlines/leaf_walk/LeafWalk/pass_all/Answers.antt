use Rattle.std.proofs.lemmas.Result.{err_from_is_err_and}
use Rattle.cm_tool.proofs.lemmas.LeafWalkLemmas.{then_read, then_told, with_reader}
use Rattle.cm_tool.proofs.outlines.leaf_walk.LeafWalk.pass_all.Goals as goal

pub loop-block-preserved : goal.loop-block-preserved
loop-block-preserved c =
    with_reader _ (then_read c.args.self.now c.loop-block.self c.loop-block.invariant c.next_block.new.self c.in_ok-block.ensures.passes)

pub returns-in_err-block-clause-told : goal.returns-in_err-block-clause-told
returns-in_err-block-clause-told c =
    let p = err_from_is_err_and c.from_residual.result c.from_residual.ensures.1 in
    rw (p.1, p.2) (then_told c.args.self.now c.loop-block.self c.loop-block.invariant c.in_err-block.field-0.0 c.in_err-block.ensures.told)
