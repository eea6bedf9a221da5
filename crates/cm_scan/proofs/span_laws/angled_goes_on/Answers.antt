use Rattle.cm_scan.proofs.lemmas.spans.AngledGoesOn.{angled_goes_on, whole_tag_goes_on}
use Rattle.cm_scan.proofs.span_laws.angled_goes_on.Goals as goal

pub returns-clause-any : goal.returns-clause-any
returns-clause-any c = angled_goes_on

pub returns-clause-whole_tag : goal.returns-clause-whole_tag
returns-clause-whole_tag c = whole_tag_goes_on
