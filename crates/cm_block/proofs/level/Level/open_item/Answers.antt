use Rattle.cm_tree.proofs.lemmas.RawLemmas.{grows-same}
use Rattle.cm_block.proofs.level.Level.open_item.Goals as goal

pub returns-then-has_list_of-clause-placed : goal.returns-then-has_list_of-clause-placed
returns-then-has_list_of-clause-placed c = c.go_on.ensures.placed c.args.raw.now c.requires

pub returns-then-has_list_of-clause-grows : goal.returns-then-has_list_of-clause-grows
returns-then-has_list_of-clause-grows c = grows-same c.args.raw.now
