use Rattle.std.proofs.Common.{◌∙◌, ap, sym}
use Rattle.std.proofs.lemmas.Result.{err_from_is_err_and}
use Rattle.std.proofs.lemmas.Bool.{and_from}
use Rattle.cm_json.specs.SameDocuments.{is_in_range, are_in_range}
use Rattle.cm_json.specs.Writer.{whole_with}
use Rattle.cm_tool.specs.steps.LeafWalks.{all_left}
use Rattle.cm_tool.proofs.lemmas.LeafWalkLemmas.{first_left, then_read, then_told, with_reader}
use Rattle.cm_tool.proofs.outlines.leaf_walk.LeafWalk.push_json.Goals as goal

pub loop-block-preserved : goal.loop-block-preserved
loop-block-preserved c =
    let first = first_left c.in_ok-block.ensures.block c.in-Some.is in
    record {
      whole = c.in_ok-push.ensures.whole (all_left c.next_block.new.self.unread) ∙ ap (whole_with c.loop-block.json c.args.owners.now) (sym first) ∙ c.loop-block.invariant.whole;
      within = c.in_ok-push.ensures.within;
      in_range = λ rest. c.loop-block.invariant.in_range (ap are_in_range first ∙ and_from (is_in_range c.in-Some.block) _ c.in_ok-push.ensures.in_range rest);
      passes = with_reader _ (then_read c.args.self.now c.loop-block.self c.loop-block.invariant.passes c.next_block.new.self c.in_ok-block.ensures.passes);
    }

pub returns-in_err-block-clause-told : goal.returns-in_err-block-clause-told
returns-in_err-block-clause-told c =
    let p = err_from_is_err_and c.from_residual.result c.from_residual.ensures.1 in
    rw (p.1, p.2) (then_told c.args.self.now c.loop-block.self c.loop-block.invariant.passes c.in_err-block.field-0.0 c.in_err-block.ensures.told)
