use Rattle.std.proofs.Common.{◌==◌, not, bit_and, get_or, refl, arith}
use Rattle.std.proofs.lemmas.Bool.{agree_below_at}
use Rattle.cm_scan.specs.steps.LinkSteps.{is_plain}
use Rattle.cm_scan.specs.declared.links.TheConstants.{PLAIN}
use Rattle.cm_scan.proofs.links.is_plain.Goals as goal

pub returns : goal.returns
returns c = rw c.from.ensures (agree_below_at (λ b. not (bit_and (get_or PLAIN b 0) 1 == 0)) is_plain 256 c.args.b refl (omega arith))
