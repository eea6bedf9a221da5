use Rattle.cm_text.proofs.lemmas.SettledLemmas.{settled_is_told}
use Rattle.cm_text.proofs.laws.settled_is_told.Goals as goal

pub returns : goal.returns
returns c = settled_is_told
