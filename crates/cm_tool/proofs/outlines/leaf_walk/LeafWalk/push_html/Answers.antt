use Rattle.std.proofs.Common.{◌≡◌, ◌∙◌, ◌++◌, ap, subst}
use Rattle.std.proofs.lemmas.Result.{err_from_is_err_and}
use Rattle.cm_tree.proofs.lemmas.RawWalks.{joined}
use Rattle.cm_html.specs.Html.{alone, html_of, written}
use Rattle.cm_tool.specs.steps.LeafWalks.{block_read_of, all_left}
use Rattle.cm_tool.proofs.lemmas.LeafWalkLemmas.{one_read, one_told, then_read, then_told}
use Rattle.cm_tool.proofs.outlines.leaf_walk.LeafWalk.push_html.Goals as goal

pub loop-block-preserved : goal.loop-block-preserved
loop-block-preserved c =
    let unread = c.next_block.new.self in
    let old = c.loop-block.html in
    let whole = c.args.html.now ++ html_of (all_left c.args.self.now.unread) in
    let has = c.in_ok-push_block.ensures.passes in
    record {
      html = ap (λ u. c.turn.new.self ++ html_of (all_left u)) has.0
          ∙ joined old c.turn.new.self (alone (written (block_read_of unread c.in-Some.block))) (html_of (all_left unread)) whole
          (subst (λ blocks. old ++ html_of blocks ≡ whole) c.in-Some.ensures.block c.loop-block.invariant.html)
          (c.in_ok-turn.ensures ∙ c.in_ok-push_block.ensures.pushed);
      passes = then_read c.args.self.now c.loop-block.self c.loop-block.invariant.passes c.push_block.new.self
          (one_read c.loop-block.self unread c.in-Some.block c.in-Some.ensures.limits c.in-Some.ensures.block c.push_block.new.self c.in-Some.ensures.left has.0 has.1);
    }

pub returns-in_err-push_block-clause-told : goal.returns-in_err-push_block-clause-told
returns-in_err-push_block-clause-told c =
    let p = err_from_is_err_and c.from_residual.result c.from_residual.ensures.1 in
    let unread = c.next_block.new.self in
    let told = one_told c.loop-block.self unread c.in-Some.block c.in-Some.ensures.limits c.in-Some.ensures.block c.in_err-push_block.field-0.0 c.in_err-push_block.ensures.told in
    rw (p.1, p.2) (then_told c.args.self.now c.loop-block.self c.loop-block.invariant.passes c.in_err-push_block.field-0.0 told)
