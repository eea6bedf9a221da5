use Rattle.cm_scan.specs.steps.LinkSteps.{is_plain_in_run}
use Rattle.cm_scan.proofs.lemmas.spans.AutolinkParts.{outside-passes, outside-within}
use Rattle.cm_scan.proofs.links.run_plain_end.Goals as goal

pub returns-clause-within : goal.returns-clause-within
returns-clause-within c = outside-within is_plain_in_run c.args.text.now c.args.from c.next_of.result c.requires c.next_of.ensures.next

pub returns-clause-plain : goal.returns-clause-plain
returns-clause-plain c = outside-passes is_plain_in_run c.args.text.now c.args.from c.next_of.result c.requires c.next_of.ensures.next
