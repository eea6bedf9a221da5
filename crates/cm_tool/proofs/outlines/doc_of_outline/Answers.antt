use Rattle.std.proofs.Common.{◌∙◌, ap}
use Rattle.std.proofs.lemmas.Result.{err_from_is_err_and}
use Rattle.cm_tool.specs.Leaves.{first_leaf_past}
use Rattle.cm_tool.proofs.lemmas.LeafWalkLemmas.{begun_told, begun_within}
use Rattle.cm_tool.proofs.lemmas.ParserLemmas.{leaf_told, all_read}
use Rattle.cm_tool.proofs.outlines.doc_of_outline.Goals as goal

pub returns-in_err-blocks : goal.returns-in_err-blocks
returns-in_err-blocks c =
    let p = err_from_is_err_and c.from_residual.result c.from_residual.ensures.1 in
    let new = c.new.ensures in
    rw (p.1, p.2) (λ bytes is.
    leaf_told c.args.limits c.args.outline bytes is c.in_err-blocks.field-0.0
    (begun_told c.new.result c.args.limits _ new.first new.limits new.all c.in_err-blocks.field-0.0 c.in_err-blocks.ensures.told))

pub returns : goal.returns
returns c = λ bytes is.
    let new = c.new.ensures in
    let read = c.in_ok-blocks.ensures.read ∙ new.all in
    all_read c.args.limits c.args.outline bytes is c.in_ok-blocks.blocks c.in_ok-owners.owners read
    (ap (first_leaf_past c.args.limits.inlines) read ∙ begun_within c.new.result c.args.limits _ new.first new.limits new.all c.all_blocks.new.self.next c.in_ok-blocks.ensures.passes) c.in_ok-owners.ensures
