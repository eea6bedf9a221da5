use Rattle.std.proofs.Common.{◌∙◌, length, sym, ap, Some, arith, length-drop}
use Rattle.cm_scan.proofs.lemmas.blocks.WordsInAnyCase.{starts_at}
use Rattle.cm_scan.proofs.lemmas.texts.FoundWords.{word-there, word-absent}
use Rattle.cm_scan.proofs.lemmas.spans.ReachLemmas.{word-fits}
use Rattle.cm_scan.proofs.inline_html.after_front.Goals as goal

pub returns-then-not-starts_with-clause-read : goal.returns-then-not-starts_with-clause-read
returns-then-not-starts_with-clause-read g c =
    sym (word-absent c.args.word.now c.args.bytes.now (sym (c.starts_with.ensures.starts ∙ starts_at c.args.word.now c.args.bytes.now) ∙ c.if-not-starts_with.true))

pub returns-clause-read : goal.returns-clause-read
returns-clause-read g c =
    ap Some c.after.ensures
    ∙ sym (word-there c.args.word.now c.args.bytes.now (sym (c.starts_with.ensures.starts ∙ starts_at c.args.word.now c.args.bytes.now) ∙ c.if-not-starts_with.false))

pub returns-clause-shorter : goal.returns-clause-shorter
returns-clause-shorter g c = omega (arith, ap length c.after.ensures, length-drop (length c.args.word.now) c.args.bytes.now)

pub after-requires : goal.after-requires
after-requires g c =
    word-fits c.args.word.now c.args.bytes.now (sym (c.starts_with.ensures.starts ∙ starts_at c.args.word.now c.args.bytes.now) ∙ c.if-not-starts_with.false)
