use Rattle.std.proofs.Common.{sym, subst}
use Rattle.cm_block.specs.declared.level.Level as level
use Rattle.cm_tree.specs.RawBlocks.{ArePlaced}
use Rattle.cm_block.specs.steps.LevelViews.{IsListPlaced}
use Rattle.cm_block.proofs.lemmas.LevelViewLemmas.{one-more-item}
use Rattle.cm_block.proofs.level.Level.close_item.Goals.{in-Some+in_ok-push, in_default}
use Rattle.cm_block.proofs.level.Level.close_item.Goals as goal

pub returns-clause-placed : goal.returns-clause-placed
returns-clause-placed c = λ raw placed is. elim c.match-self.branch [
  | in-Some+in_ok-push w ↦ record {
    blocks = subst (λ (l : level.Level). ArePlaced raw l.blocks.items) (sym w.self-is) placed.blocks;
    open_list = subst (λ (l : level.Level). IsListPlaced raw l.open_list) (sym w.self-is)
        (one-more-item raw w.in-Some.list.items.items w.push.new.self.items c.args.item w.in_ok-push.ensures.items (subst (IsListPlaced raw) w.in-Some.is placed.open_list) is);
  }
  | in_default w ↦ record {
    blocks = subst (λ (l : level.Level). ArePlaced raw l.blocks.items) (sym w.self-is) placed.blocks;
    open_list = subst (λ (l : level.Level). IsListPlaced raw l.open_list) (sym w.self-is) placed.open_list;
  }
]
