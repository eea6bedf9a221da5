use Rattle.cm_inline.proofs.lemmas.Words.{◌+◌, sym, ◌∙◌}
use Rattle.cm_inline.proofs.lemmas.AtomLemmas.{image-is, bang-is-text}
use Rattle.cm_inline.proofs.lemmas.LinkLemmas.{next-of}
use Rattle.cm_inline.proofs.atoms.exclamation_mark.Goals as goal

pub returns-then-is_next : goal.returns-then-is_next
returns-then-is_next c = record { atom = λ rules. image-is rules c.args.source.now c.args.at c.utf8.source c.requires (sym (next-of 91 c.args.source.now c.as_bytes.result.now (c.args.at + 1) c.is_next.result c.as_bytes.ensures.value c.is_next.ensures.next) ∙ c.if-is_next.true) }

pub returns : goal.returns
returns c = record { atom = λ rules. bang-is-text rules c.args.source.now c.args.at c.utf8.source c.requires (sym (next-of 91 c.args.source.now c.as_bytes.result.now (c.args.at + 1) c.is_next.result c.as_bytes.ensures.value c.is_next.ensures.next) ∙ c.if-is_next.false) }
