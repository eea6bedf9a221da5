use Rattle.std.proofs.Common.{arith}
use Rattle.std.proofs.lemmas.Grind.{common_steps}
use Rattle.cm_scan.proofs.lemmas.blocks.WordsInAnyCase.{same_at, same_not}
use Rattle.cm_scan.proofs.html_blocks.is_name.Goals as goal

pub returns-then-word-name : goal.returns-then-word-name
returns-then-word-name c = record { same = grind (arith, common_steps, same_at c.args.word.now c.args.name.now (omega arith)) }

pub returns-else-word-name : goal.returns-else-word-name
returns-else-word-name c = record { same = grind (arith, common_steps, same_not c.args.word.now c.args.name.now c.if-word-name.false) }
