use Rattle.std.proofs.Common.{ap, ◌∙◌, refl, bit_and, get_or, arith}
use Rattle.std.specs.Prelude.{◌==◌, ◌||◌}
use Rattle.std.proofs.lemmas.Bool.{agree_below_at}
use Rattle.cm_text.specs.Search.{is_marked}
use Rattle.cm_text.specs.declared.search.TheConstants.{MARKED, ALSO_MARKED}
use Rattle.cm_text.proofs.search.MarkedByteKind.contains.Goals as goal

pub returns : goal.returns
returns c =
    ap (λ i. (get_or MARKED i 0 == c.args.b) || (get_or ALSO_MARKED i 0 == c.args.b)) c.from-place.ensures
    ∙ agree_below_at (λ x. (get_or MARKED (bit_and x 15) 0 == x) || (get_or ALSO_MARKED (bit_and x 15) 0 == x)) is_marked 256 c.args.b refl (omega arith)
