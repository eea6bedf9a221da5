use Rattle.std.proofs.Common.{◌≡◌, ◌<◌, ◌^◌, ◌+◌, ◌++◌, ◌∷◌, ◌∙◌, true, drop, length, arith, ap, ap₂, sym}
use Rattle.std.proofs.lemmas.Bool.{and_from}
use Rattle.std.proofs.lemmas.List.{drop_all, drop_more}
use Rattle.json.specs.Tree.{HasNumbers}
use Rattle.cm_json.specs.Mdast.{json_of, value_of}
use Rattle.cm_json.specs.SameDocuments.{is_in_range, are_in_range}
use Rattle.cm_json.specs.Writer.{whole_with}
use Rattle.cm_json.proofs.lemmas.Pushed.{made, always}
use Rattle.cm_json.proofs.lemmas.SameDocuments.{numbers}
use Rattle.cm_json.proofs.rendering.with_document.Goals as goal

pub loop-block-init : goal.loop-block-init
loop-block-init c = record {
  whole = c.in_ok-writer.ensures.whole c.as_slice-blocks.result.now;
  within = c.in_ok-writer.ensures.within;
  in_range = λ all. all;
}

pub loop-block-preserved : goal.loop-block-preserved
loop-block-preserved c =
    let blocks = c.as_slice-blocks.result.now in
    let i = c.loop-block.block-index in
    let block = c.block-item.result in
    let rest = drop (i + 1) blocks in
    let split : drop i blocks ≡ block ∷ rest = drop_more blocks i block c.loop-block-test.true ∙ ap (λ b. b ∷ rest) (sym c.block-item.is) in
    record {
      whole = c.in_ok-push.ensures.whole rest ∙ ap (whole_with c.loop-block.writer c.as_slice-owners.result.now) (sym split) ∙ c.loop-block.invariant.whole;
      within = c.in_ok-push.ensures.within;
      in_range = λ all. c.loop-block.invariant.in_range (ap are_in_range split ∙ and_from (is_in_range block) (are_in_range rest) c.in_ok-push.ensures.in_range all);
    }

pub returns-clause-written : goal.returns-clause-written
returns-clause-written c =
    let owners = c.as_slice-owners.result.now in
    let writer = c.loop-block.writer in
    let none = drop_all c.loop-block.block-index c.as_slice-blocks.result.now c.loop-block-test.false in
    let whole = ap (whole_with writer owners) (sym none) ∙ c.loop-block.invariant.whole ∙ ap₂ (λ bs os. c.args.text ++ json_of bs os) c.as_slice-blocks.ensures c.as_slice-owners.ensures in
    made c.finish.result _ (λ pages. pages ≡ c.args.text ++ json_of c.args.doc.now.blocks c.args.doc.now.owners) (λ pages is. is owners ∙ whole) c.finish.ensures

pub returns-clause-numbers : goal.returns-clause-numbers
returns-clause-numbers c =
    let blocks = c.args.doc.now.blocks in
    let owners = c.args.doc.now.owners in
    let none = drop_all c.loop-block.block-index c.as_slice-blocks.result.now c.loop-block-test.false in
    let in_range : are_in_range blocks ≡ true = ap are_in_range (sym c.as_slice-blocks.ensures) ∙ c.loop-block.invariant.in_range (ap are_in_range none) in
    let small : length owners < 2 ^ 63 = omega (arith, c.in_ok-writer.ensures.small, ap length c.as_slice-owners.ensures) in
    always c.finish.result (HasNumbers (value_of blocks owners)) (numbers blocks owners in_range small)
