use Rattle.cm_block.proofs.counted_line.CountedLine.begin_leaf.Goals as goal

pub returns-clause-leaf : goal.returns-clause-leaf
returns-clause-leaf c = rw (← c.read.ensures.line) c.begin_leaf.ensures
