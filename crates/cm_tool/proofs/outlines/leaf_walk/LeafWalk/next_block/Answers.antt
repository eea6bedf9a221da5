use Rattle.std.proofs.lemmas.Result.{err_from_is_err_and}
use Rattle.cm_tool.proofs.lemmas.LeafWalkLemmas.{one_read, one_told}
use Rattle.cm_tool.proofs.outlines.leaf_walk.LeafWalk.next_block.Goals as goal

pub returns-in_err-block-clause-told : goal.returns-in_err-block-clause-told
returns-in_err-block-clause-told c =
    let p = err_from_is_err_and c.from_residual.result c.from_residual.ensures.1 in
    rw (p.1, p.2) (one_told c.args.self.now c.next_block.new.self c.in-Some.block c.in-Some.ensures.limits c.in-Some.ensures.block c.in_err-block.field-0.0 c.in_err-block.ensures.told)

pub returns-clause-passes : goal.returns-clause-passes
returns-clause-passes c =
    let has = c.in_ok-block.ensures.passes in
    one_read c.args.self.now c.next_block.new.self c.in-Some.block c.in-Some.ensures.limits c.in-Some.ensures.block c.block.new.self c.in-Some.ensures.left has.0 has.1
