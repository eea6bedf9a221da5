use Rattle.std.proofs.Common.{arith}
use Rattle.std.proofs.lemmas.Grind.{common_steps}
use Rattle.cm_inline.proofs.brackets.Reader.make_link.Goals as goal

pub returns-then-holds_link-clause-marks : goal.returns-then-holds_link-clause-marks
returns-then-holds_link-clause-marks c = grind (arith, common_steps)

pub returns-then-holds_link-clause-links_end : goal.returns-then-holds_link-clause-links_end
returns-then-holds_link-clause-links_end c = grind (arith, common_steps)

pub returns-else-holds_link-clause-marks : goal.returns-else-holds_link-clause-marks
returns-else-holds_link-clause-marks c = grind (arith, common_steps)
