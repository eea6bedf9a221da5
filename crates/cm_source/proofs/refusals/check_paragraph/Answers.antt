use Rattle.std.proofs.Common.{◌∙◌}
use Rattle.cm_source.specs.declared.why.Why.TheVariants.{Shape}
use Rattle.cm_source.proofs.lemmas.refusals.RefusalLemmas.{goes-on, last-reason, empty-is}
use Rattle.cm_source.proofs.refusals.check_paragraph.Goals as goal

pub returns : goal.returns
returns c = c.check_in_paragraph.ensures ∙ goes-on _ _ (last-reason _ _ Shape _ c.in_ok-refuse_if.ensures (c.is_empty.ensures ∙ empty-is c.args.content.now))
