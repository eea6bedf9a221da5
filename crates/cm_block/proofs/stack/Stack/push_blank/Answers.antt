use Rattle.cm_block.proofs.stack.Stack.push_blank.Goals as goal

pub invariant_of-self : goal.invariant_of-self
invariant_of-self c = (c.self.invariant.0, c.push_blank.ensures.placed c.self.inside.raw c.self.invariant.1)
