use Rattle.cm_tree.proofs.lemmas.RawLemmas.{grows-same}
use Rattle.cm_block.proofs.level.Level.close_list.Goals as goal

pub returns-then-is_none-clause-grows : goal.returns-then-is_none-clause-grows
returns-then-is_none-clause-grows c = grows-same c.args.raw.now
