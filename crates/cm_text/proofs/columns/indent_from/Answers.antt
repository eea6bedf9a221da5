use Rattle.std.proofs.Common.{arith}
use Rattle.std.proofs.lemmas.Grind.{common_steps}
use Rattle.cm_text.proofs.columns.indent_from.Goals as goal

pub overflow_add-indent : goal.overflow_add-indent
overflow_add-indent c = grind (arith, common_steps)

pub overflow_add-indent-in-9-2 : goal.overflow_add-indent-in-9-2
overflow_add-indent-in-9-2 c = grind (arith, common_steps)

pub returns-in_default-clause-value : goal.returns-in_default-clause-value
returns-in_default-clause-value c = grind (arith, common_steps)

pub loop-b-preserved : goal.loop-b-preserved
loop-b-preserved c = grind (arith, common_steps)

pub returns-clause-value : goal.returns-clause-value
returns-clause-value c = grind (arith, common_steps)
