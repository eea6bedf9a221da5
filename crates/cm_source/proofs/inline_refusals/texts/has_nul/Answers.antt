use Rattle.std.proofs.Common.{◌==◌, arith}
use Rattle.std.proofs.lemmas.Grind.{common_steps}
use Rattle.cm_source.proofs.lemmas.spelling.SearchLemmas.{found-any}
use Rattle.cm_source.proofs.inline_refusals.texts.has_nul.Goals as goal

pub returns : goal.returns
returns c = grind (arith, common_steps, c.next_of.ensures.next, found-any (λ b. b == 0) c.args.text.now)
