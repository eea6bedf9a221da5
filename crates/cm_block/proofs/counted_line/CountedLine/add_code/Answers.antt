use Rattle.cm_block.proofs.counted_line.CountedLine.add_code.Goals as goal

pub returns-clause-taken : goal.returns-clause-taken
returns-clause-taken c = rw (← c.read.ensures.line) c.add_code.ensures.taken
