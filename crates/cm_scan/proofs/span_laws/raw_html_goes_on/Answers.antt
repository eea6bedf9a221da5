use Rattle.cm_scan.proofs.lemmas.spans.RawHtmlGoesOn.{raw_html_goes_on, whole_raw_html_goes_on}
use Rattle.cm_scan.proofs.span_laws.raw_html_goes_on.Goals as goal

pub returns-clause-front : goal.returns-clause-front
returns-clause-front c = raw_html_goes_on

pub returns-clause-whole : goal.returns-clause-whole
returns-clause-whole c = whole_raw_html_goes_on
