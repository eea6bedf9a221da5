use Rattle.std.proofs.Common.{arith}
use Rattle.std.proofs.lemmas.Grind.{common_steps}
use Rattle.cm_source.proofs.lemmas.spelling.SpelledTexts.{by-number, beyond-backslash}
use Rattle.cm_source.proofs.texts.SpelledReplaced.push.Goals.{then-b-eq96-via-then-b-eq96, then-b-eq96-via-else-b-eq96+then-is_ascii_control}
use Rattle.cm_source.proofs.texts.SpelledReplaced.push.Goals as goal

pub returns-then-b-eq96 : goal.returns-then-b-eq96
returns-then-b-eq96 c = elim c.then-b-eq96.branch [
  | then-b-eq96-via-then-b-eq96 w ↦ grind (arith, common_steps, c.push_numbered.ensures, by-number c.args.b, w.if-b-eq96.true)
  | then-b-eq96-via-else-b-eq96+then-is_ascii_control w ↦ grind (arith, common_steps, c.push_numbered.ensures, by-number c.args.b, w.if-is_ascii_control.true, w.is_ascii_control.ensures.value)
]

pub returns : goal.returns
returns c = grind (arith, common_steps, beyond-backslash c.args.b c.requires, c.if-b-eq96.false, c.is_ascii_control.ensures.value, c.if-is_ascii_control.false, c.in_ok-push.ensures.bytes, c.push.ensures.bytes)
