use Rattle.cm_inline.proofs.lemmas.Words.{rules}
use Rattle.cm_inline.proofs.lemmas.LabelLemmas.{bare_between}
use Rattle.cm_inline.proofs.lemmas.LinkLemmas.{numbered-end}
use Rattle.cm_inline.proofs.links.reference_between.Goals as goal

pub returns-in-Some-clause-ends : goal.returns-in-Some-clause-ends
returns-in-Some-clause-ends c = search (rules, bare_between, numbered-end)
