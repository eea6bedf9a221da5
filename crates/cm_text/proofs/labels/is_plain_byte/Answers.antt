use Rattle.std.proofs.Common.{◌==◌, get_or, refl, arith}
use Rattle.std.proofs.lemmas.Bool.{agree_below_at}
use Rattle.cm_text.specs.PlainLabels.{is_plain_byte}
use Rattle.cm_text.specs.declared.labels.TheConstants.{PLAIN}
use Rattle.cm_text.proofs.labels.is_plain_byte.Goals as goal

pub returns : goal.returns
returns c = rw c.from.ensures (agree_below_at (λ b. get_or PLAIN b 0 == 49) is_plain_byte 256 c.args.b refl (omega arith))
