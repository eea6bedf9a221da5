use Rattle.std.proofs.Common.{arith}
use Rattle.std.proofs.lemmas.Grind.{common_steps}
use Rattle.cm_tree.proofs.lemmas.RawLemmas.{grows-more}
use Rattle.cm_tree.proofs.raw_blocks.RawBlocks.code.Goals as goal

pub returns-in_err-beyond-clause-grows : goal.returns-in_err-beyond-clause-grows
returns-in_err-beyond-clause-grows c = grows-more _ _ _ c.in_ok-at.ensures.grows c.in_err-beyond.ensures.grows

pub returns-clause-grows : goal.returns-clause-grows
returns-clause-grows c = grows-more _ _ _ c.in_ok-at.ensures.grows c.in_ok-beyond.ensures.grows

pub returns-clause-block : goal.returns-clause-block
returns-clause-block c = grind (arith, common_steps)

pub returns-clause-placed : goal.returns-clause-placed
returns-clause-placed c = grind (arith, common_steps)
