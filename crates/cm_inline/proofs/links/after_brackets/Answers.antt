use Rattle.cm_inline.proofs.lemmas.Words.{next-ascii, rules}
use Rattle.cm_inline.proofs.lemmas.LinkLemmas.{next-of, both-brackets, not-both}
use Rattle.cm_inline.proofs.links.after_brackets.Goals as goal

pub returns-then-is_next-2 : goal.returns-then-is_next-2
returns-then-is_next-2 c = search (rules, next-of, both-brackets, next-ascii)

pub returns-clause-rest : goal.returns-clause-rest
returns-clause-rest c = search (rules, next-of, not-both)
