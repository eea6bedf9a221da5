use Rattle.cm_block.proofs.lemmas.LevelViewLemmas.{one-more-placed}
use Rattle.cm_block.proofs.level.Level.close_block.Goals as goal

pub returns-clause-placed : goal.returns-clause-placed
returns-clause-placed c = λ raw placed is. record {
  blocks = one-more-placed raw c.args.self.now.blocks.items c.push.new.self.items c.args.block c.in_ok-push.ensures.items placed.blocks is;
  open_list = placed.open_list;
}
