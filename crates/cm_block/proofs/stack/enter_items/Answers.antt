use Rattle.cm_block.proofs.stack.enter_items.Goals as goal

pub returns-clause-leaves : goal.returns-clause-leaves
returns-clause-leaves c leaves raw = rw c.enter_items.ensures.line (c.go_into_items-entered.ensures.leaves leaves raw)
