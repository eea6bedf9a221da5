use Rattle.std.proofs.Common.{◌≡◌, ◌++◌, [], ◌∷◌, subst}
use Rattle.std.proofs.lemmas.Result.{err_from_is_err_and}
use Rattle.cm_tree.proofs.lemmas.RawWalks.{joined}
use Rattle.cm_tool.specs.steps.LeafWalks.{all_left}
use Rattle.cm_tool.proofs.lemmas.LeafWalkLemmas.{first_left, then_read, then_told}
use Rattle.cm_tool.proofs.outlines.leaf_walk.LeafWalk.all_blocks.Goals as goal

pub loop-read-preserved : goal.loop-read-preserved
loop-read-preserved c =
    let whole = all_left c.args.self.now.unread in
    let first = first_left c.in_ok-block.ensures.block c.in-Some.is in
    record {
      read = joined c.loop-read.read c.push.new.self (c.in-Some.block ∷ []) (all_left c.next_block.new.self.unread) whole
          (subst (λ blocks. c.loop-read.read ++ blocks ≡ whole) first c.loop-read.invariant.read) c.in_ok-push.ensures.ok;
      passes = then_read c.args.self.now c.loop-read.self c.loop-read.invariant.passes c.next_block.new.self c.in_ok-block.ensures.passes;
    }

pub returns-in_err-block-clause-told : goal.returns-in_err-block-clause-told
returns-in_err-block-clause-told c =
    let p = err_from_is_err_and c.from_residual.result c.from_residual.ensures.1 in
    rw (p.1, p.2) (then_told c.args.self.now c.loop-read.self c.loop-read.invariant.passes c.in_err-block.field-0.0 c.in_err-block.ensures.told)
