use Rattle.std.proofs.Common.{arith}
use Rattle.std.proofs.lemmas.Grind.{common_steps}
use Rattle.cm_inline.proofs.atoms.put.Goals as goal

pub returns-in_ok-add-in-Escape-2 : goal.returns-in_ok-add-in-Escape-2
returns-in_ok-add-in-Escape-2 c = record { puts = grind (arith, common_steps) }

pub returns-in_ok-add-in-Reference-2 : goal.returns-in_ok-add-in-Reference-2
returns-in_ok-add-in-Reference-2 c = record { puts = grind (arith, common_steps) }
