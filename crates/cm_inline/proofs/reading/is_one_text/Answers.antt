use Rattle.cm_inline.proofs.lemmas.Words.{eqb-true, rules}
use Rattle.cm_inline.proofs.lemmas.TextLemmas.{is-empty, is-unmarked, one-text}
use Rattle.cm_inline.proofs.reading.is_one_text.Goals as goal

pub returns-then-not-is_empty : goal.returns-then-not-is_empty
returns-then-not-is_empty c = search (rules, is-empty, is-unmarked, one-text, eqb-true)
