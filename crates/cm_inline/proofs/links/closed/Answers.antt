use Rattle.cm_inline.proofs.lemmas.Words.{gap-of, next-ascii, rules}
use Rattle.cm_inline.proofs.lemmas.LinkLemmas.{next-of, not-closed, is-closed, end-followed}
use Rattle.cm_inline.proofs.links.closed.Goals as goal

pub returns-then-not-is_next-clause-ends : goal.returns-then-not-is_next-clause-ends
returns-then-not-is_next-clause-ends c = search (rules, gap-of, next-of, not-closed)

pub returns : goal.returns
returns c = search (rules, gap-of, next-of, end-followed, is-closed, next-ascii)
