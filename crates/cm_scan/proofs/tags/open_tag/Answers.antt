use Rattle.std.proofs.Common.{arith}
use Rattle.std.proofs.lemmas.Grind.{common_steps}
use Rattle.cm_scan.proofs.lemmas.spans.TagParts.{open_none, open_named}
use Rattle.cm_scan.proofs.lemmas.spans.ReachLemmas.{reach_some}
use Rattle.cm_scan.proofs.tags.open_tag.Goals as goal

pub returns-in_err-tag-clause-read : goal.returns-in_err-tag-clause-read
returns-in_err-tag-clause-read g c = grind (arith, common_steps, open_none c.args.inside.now c.in_err-tag.ensures.read)

pub returns-in_err-rest-clause-read : goal.returns-in_err-rest-clause-read
returns-in_err-rest-clause-read g c = grind (arith, common_steps, open_named c.args.inside.now _ c.in_ok-tag.ensures.read, c.in_err-rest.ensures.read)

pub returns-clause-read : goal.returns-clause-read
returns-clause-read g c = grind (arith, common_steps, open_named c.args.inside.now _ c.in_ok-tag.ensures.read, c.in_ok-rest.ensures.read)

pub returns-in_err-tag-clause-looks : goal.returns-in_err-tag-clause-looks
returns-in_err-tag-clause-looks g c = omega (arith, reach_some 0 c.args.inside.now, c.tag_name.ensures.none c.in_err-tag.was)

pub returns-in_err-rest-clause-looks : goal.returns-in_err-rest-clause-looks
returns-in_err-rest-clause-looks g c = omega (arith, c.in_ok-tag.ensures.some, c.after_attributes.ensures.looks)

pub returns-clause-looks : goal.returns-clause-looks
returns-clause-looks g c = omega (arith, c.in_ok-tag.ensures.some, c.after_attributes.ensures.looks)
