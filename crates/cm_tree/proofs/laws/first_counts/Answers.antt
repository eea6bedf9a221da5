use Rattle.cm_tree.proofs.lemmas.Targets.{first_counts}
use Rattle.cm_tree.proofs.laws.first_counts.Goals as goal

pub returns : goal.returns
returns c = first_counts
