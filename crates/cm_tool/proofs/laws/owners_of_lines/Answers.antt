use Rattle.cm_tool.proofs.lemmas.OwnerLemmas.{one_owner_a_line, runs_in_order}
use Rattle.cm_tool.proofs.laws.owners_of_lines.Goals as goal

pub returns-clause-one_a_line : goal.returns-clause-one_a_line
returns-clause-one_a_line c = one_owner_a_line

pub returns-clause-runs : goal.returns-clause-runs
returns-clause-runs c = runs_in_order
