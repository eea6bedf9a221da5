use Rattle.cm_tool.proofs.lemmas.OrderLemmas.{faults_in_order}
use Rattle.cm_tool.proofs.laws.faults_in_order.Goals as goal

pub returns : goal.returns
returns c = faults_in_order
