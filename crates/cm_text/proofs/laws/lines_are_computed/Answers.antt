use Rattle.cm_text.proofs.lemmas.LinesLemmas.{lines_are_computed}
use Rattle.cm_text.proofs.laws.lines_are_computed.Goals as goal

pub returns : goal.returns
returns c = lines_are_computed
