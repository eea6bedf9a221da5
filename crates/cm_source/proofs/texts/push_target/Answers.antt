use Rattle.std.proofs.Common.{arith}
use Rattle.std.proofs.lemmas.Grind.{common_steps}
use Rattle.cm_source.specs.Texts.{spelled_target}
use Rattle.cm_source.proofs.texts.push_target.Goals as goal

pub returns : goal.returns
unfolding spelled_target
returns c = grind (arith, common_steps)
