use Rattle.cm_scan.proofs.lemmas.spans.AutolinkGoesOn.{autolink_goes_on, no_autolink_goes_on}
use Rattle.cm_scan.proofs.span_laws.autolink_goes_on.Goals as goal

pub returns-clause-link : goal.returns-clause-link
returns-clause-link c = autolink_goes_on

pub returns-clause-no_link : goal.returns-clause-no_link
returns-clause-no_link c = no_autolink_goes_on
