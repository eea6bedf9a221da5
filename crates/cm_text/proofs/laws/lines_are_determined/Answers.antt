use Rattle.cm_text.proofs.lemmas.LinesLemmas.{lines_are_determined}
use Rattle.cm_text.proofs.laws.lines_are_determined.Goals as goal

pub returns : goal.returns
returns c = lines_are_determined
