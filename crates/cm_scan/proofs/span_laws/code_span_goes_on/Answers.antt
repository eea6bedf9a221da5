use Rattle.cm_scan.proofs.lemmas.spans.CodeSpanGoesOn.{code_span_goes_on}
use Rattle.cm_scan.proofs.span_laws.code_span_goes_on.Goals as goal

pub returns : goal.returns
returns c = code_span_goes_on
