use Rattle.std.proofs.Common.{◌+◌, length, length-drop, Some, ◌∙◌, ap, arith}
use Rattle.cm_scan.proofs.lemmas.texts.FoundWords.{past-none, past-found}
use Rattle.cm_scan.proofs.inline_html.after_end.Goals as goal

pub returns-in_err-at-clause-read : goal.returns-in_err-at-clause-read
returns-in_err-at-clause-read g c = c.from_residual.ensures ∙ past-none c.args.word.now c.args.bytes.now c.in_err-at.ensures.found

pub returns-clause-read : goal.returns-clause-read
returns-clause-read g c = ap Some c.after.ensures ∙ past-found c.args.word.now c.args.bytes.now c.in_ok-at.at c.requires.some c.in_ok-at.ensures.found

pub returns-in_err-at-clause-looks : goal.returns-in_err-at-clause-looks
returns-in_err-at-clause-looks g c = omega (arith, c.find.ensures.none c.in_err-at.was)

pub returns-clause-some : goal.returns-clause-some
returns-clause-some g c = omega (arith, ap length c.after.ensures, length-drop (c.in_ok-at.at + length c.args.word.now) c.args.bytes.now, c.in_ok-at.ensures.some)
