use Rattle.cm_inline.proofs.lemmas.Words.{gap-of, rules}
use Rattle.cm_inline.proofs.lemmas.SliceLemmas.{slice-none}
use Rattle.cm_inline.proofs.lemmas.LinkLemmas.{turned, not-parted, by-title}
use Rattle.cm_inline.proofs.links.after_destination.Goals as goal

pub returns-then-not-is_blank_next-clause-ends : goal.returns-then-not-is_blank_next-clause-ends
returns-then-not-is_blank_next-clause-ends c = search (rules, turned, slice-none, not-parted)

pub returns-in-Some-clause-ends : goal.returns-in-Some-clause-ends
returns-in-Some-clause-ends c = search (rules, gap-of, turned, by-title)

pub returns-in-None-clause-ends : goal.returns-in-None-clause-ends
returns-in-None-clause-ends c = search (rules, gap-of, turned, slice-none, by-title)
