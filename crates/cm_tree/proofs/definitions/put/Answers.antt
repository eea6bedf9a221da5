use Rattle.std.proofs.Common.{arith}
use Rattle.std.proofs.lemmas.Grind.{common_steps}
use Rattle.cm_tree.proofs.definitions.put.Goals as goal

pub returns-then-not-matches-clause-same : goal.returns-then-not-matches-clause-same
returns-then-not-matches-clause-same c = grind (arith, common_steps)

pub returns-then-not-matches-clause-err : goal.returns-then-not-matches-clause-err
returns-then-not-matches-clause-err c = grind (arith, common_steps)
