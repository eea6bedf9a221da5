use Rattle.std.proofs.Common.{subst}
use Rattle.cm_tool.specs.Rewriting.{kept_tree}
use Rattle.cm_tool.specs.steps.PlainSources.{Spelled}
use Rattle.cm_tool.proofs.lemmas.RewritingLemmas.{lasts}
use Rattle.cm_tool.proofs.outputs.in_memory.source_of.Goals as goal

pub returns : goal.returns
returns c =
    let limits = c.args.limits in
    let bytes = c.args.bytes.now in
    let made = c.in_ok-plain_source_of_outline.ensures bytes c.in_ok-outline.ensures.outline in
    let spelled = subst (Spelled limits.rules (kept_tree limits.rules bytes)) c.in_ok-branch.was made.1 in
    (made.0, lasts limits bytes made.0 c.in_ok-branch.field-0 spelled, spelled.1)
