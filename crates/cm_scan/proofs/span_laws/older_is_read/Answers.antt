use Rattle.cm_scan.proofs.lemmas.spans.OlderRawHtml.{older_is_read}
use Rattle.cm_scan.proofs.span_laws.older_is_read.Goals as goal

pub returns : goal.returns
returns c = older_is_read
