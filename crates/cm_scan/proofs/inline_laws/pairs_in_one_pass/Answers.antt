use Rattle.cm_scan.proofs.lemmas.inlines.OnePassLemmas.{pairs_in_one_pass}
use Rattle.cm_scan.proofs.inline_laws.pairs_in_one_pass.Goals as goal

pub returns : goal.returns
returns c = pairs_in_one_pass
