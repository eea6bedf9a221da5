use Rattle.std.proofs.Common.{◌∙◌, sym}
use Rattle.cm_block.proofs.lemmas.Matching.{all_stay}
use Rattle.cm_block.proofs.stack.Stack.close_to.Goals as goal

pub returns-then-depth-clause-frames : goal.returns-then-depth-clause-frames
returns-then-depth-clause-frames c = (all_stay c.args.depth c.args.self.now.frames c.args.self.now.level (sym c.if-depth.true ∙ c.depth.ensures)).0

pub returns-then-depth-clause-level : goal.returns-then-depth-clause-level
returns-then-depth-clause-level c = (all_stay c.args.depth c.args.self.now.frames c.args.self.now.level (sym c.if-depth.true ∙ c.depth.ensures)).1
