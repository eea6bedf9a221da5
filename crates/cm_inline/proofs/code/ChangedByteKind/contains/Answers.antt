use Rattle.std.proofs.Common.{ap, ◌∙◌, refl, bit_and, get_or, arith}
use Rattle.std.specs.Prelude.{◌==◌}
use Rattle.std.proofs.lemmas.Bool.{agree_below_at}
use Rattle.cm_inline.specs.steps.Marks.{is_changed_in_code}
use Rattle.cm_inline.specs.declared.code.TheConstants.{CHANGED}
use Rattle.cm_inline.proofs.code.ChangedByteKind.contains.Goals as goal

pub returns : goal.returns
returns c = ap (λ i. get_or CHANGED i 0 == c.args.b) c.from.ensures ∙ agree_below_at (λ x. get_or CHANGED (bit_and x 15) 0 == x) is_changed_in_code 256 c.args.b refl (omega arith)
