use Rattle.cm_tree.proofs.lemmas.RawLemmas.{grows-same}
use Rattle.cm_block.proofs.leaf_block.LeafBlock.place.Goals as goal

pub returns-in-Break-clause-grows : goal.returns-in-Break-clause-grows
returns-in-Break-clause-grows c = grows-same c.args.raw.now
