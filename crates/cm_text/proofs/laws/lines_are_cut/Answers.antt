use Rattle.cm_text.proofs.lemmas.LinesLemmas.{lines_are_cut}
use Rattle.cm_text.proofs.laws.lines_are_cut.Goals as goal

pub returns : goal.returns
returns c = lines_are_cut
