use Rattle.std.proofs.Common.{ap₂, ◌∙◌, ◌==◌, bit_and, get_or, arith}
use Rattle.cm_html.specs.declared.search.TheConstants.{PLAIN_LOW, PLAIN_HIGH}
use Rattle.cm_html.proofs.lemmas.Destinations.{changed-byte}
use Rattle.cm_html.proofs.search.ChangedByteKind.contains.Goals as goal

pub returns : goal.returns
returns c = ap₂ (λ i j. bit_and (get_or PLAIN_LOW i 0) (get_or PLAIN_HIGH j 0) == 0) c.from.ensures c.from-2.ensures ∙ changed-byte c.args.b (omega arith)
