use Rattle.std.proofs.Common.{ap, rules, sym}
use Rattle.std.specs.Prelude.{option_and_then}
use Rattle.cm_tool.specs.FaultPlaces.{line_of_fault}
use Rattle.cm_tool.proofs.lemmas.LeafWalkLemmas.{begun_told, begun_within}
use Rattle.cm_tool.proofs.lemmas.ParserLemmas.{leaf_told, whole}
use Rattle.cm_tool.proofs.lemmas.PlaceLemmas.{line_of_leaf}
use Rattle.cm_tool.proofs.outlines.line_in_outline.Goals as goal

pub returns-in-Ok : goal.returns-in-Ok
returns-in-Ok c = λ bytes is.
    let new = c.new.ensures in
    let within = begun_within c.new.result c.args.limits _ new.first new.limits new.all c.pass_all.new.self.next c.in-Ok.ensures.passes in
    ap (option_and_then (line_of_fault c.args.limits.rules bytes)) (sym (whole c.args.limits c.args.outline bytes is within))

pub returns-in-Err-InlinesTooDeep : goal.returns-in-Err-InlinesTooDeep
returns-in-Err-InlinesTooDeep c = λ bytes is.
    let new = c.new.ensures in
    let told = begun_told c.new.result c.args.limits _ new.first new.limits new.all c.in-Err-InlinesTooDeep.field-0 c.in-Err-InlinesTooDeep.ensures.told in
    line_of_leaf c.args.limits bytes c.args.outline (c.as_slice-in-Err-InlinesTooDeep).result.now c.in-Err-InlinesTooDeep.field-0 c.in-Err-InlinesTooDeep.leaf
    c.first_line_of_leaf.result is (search rules) (search rules)
    (leaf_told c.args.limits c.args.outline bytes is c.in-Err-InlinesTooDeep.field-0 told) c.first_line_of_leaf.ensures
