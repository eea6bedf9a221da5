use Rattle.std.proofs.Common.{ap, ◌∙◌, refl, bit_and, get_or, arith}
use Rattle.std.specs.Prelude.{◌==◌}
use Rattle.std.proofs.lemmas.Bool.{agree_below_at}
use Rattle.cm_html.specs.steps.Bytes.{is_escaped}
use Rattle.cm_html.specs.declared.search.TheConstants.{ESCAPED}
use Rattle.cm_html.proofs.search.EscapedByteKind.contains.Goals as goal

pub returns : goal.returns
returns c = ap (λ i. get_or ESCAPED i 0 == c.args.b) c.from.ensures ∙ agree_below_at (λ x. get_or ESCAPED (bit_and x 15) 0 == x) is_escaped 256 c.args.b refl (omega arith)
