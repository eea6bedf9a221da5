use Rattle.std.specs.Prelude.{not}
use Rattle.std.proofs.Common.{sym, subst, ap, ◌∙◌}
use Rattle.cm_tree.specs.declared.tree.Block.TheVariants as trees
use Rattle.cm_tree.specs.RawBlocks.{ArePlaced, items_in}
use Rattle.cm_block.specs.steps.LevelViews.{IsListPlaced}
use Rattle.cm_tree.proofs.lemmas.RawLemmas.{grows-same, all-placed-grow}
use Rattle.cm_block.proofs.lemmas.LevelViewLemmas.{one-more-placed, list-closes}
use Rattle.cm_block.proofs.level.Level.put_list.Goals as goal

pub returns-in_err-block-clause-placed : goal.returns-in_err-block-clause-placed
returns-in_err-block-clause-placed c = record {
  blocks = all-placed-grow c.args.raw.now c.list.new.self c.args.self.now.blocks.items c.in_err-block.ensures.grows c.requires.blocks;
  open_list = subst (IsListPlaced c.list.new.self) (sym c.take.ensures.after) tt;
}

pub returns-in_err-push-clause-placed : goal.returns-in_err-push-clause-placed
returns-in_err-push-clause-placed c = record {
  blocks = subst (ArePlaced c.list.new.self) (sym c.in_err-push.ensures.items)
      (all-placed-grow c.args.raw.now c.list.new.self c.args.self.now.blocks.items c.in_ok-block.ensures.grows c.requires.blocks);
  open_list = subst (IsListPlaced c.list.new.self) (sym c.take.ensures.after) tt;
}

pub returns-in_ok-push-clause-level : goal.returns-in_ok-push-clause-level
returns-in_ok-push-clause-level c =
    list-closes c.args.raw.now c.list.new.self c.args.self.now c.in-Some.list c.in_ok-block.block c.push.new.self.items c.take.new.self c.in_ok-block.ensures.grows c.requires
    (sym c.take.ensures.value ∙ c.in-Some.is) (c.in_ok-block.ensures.block ∙ ap (λ items. trees.List c.in-Some.list.kind (not c.in-Some.list.loose) (items_in c.args.raw.now items)) c.deref.ensures.value) c.in_ok-push.ensures.items c.take.ensures.after

pub returns-in_ok-push-clause-placed : goal.returns-in_ok-push-clause-placed
returns-in_ok-push-clause-placed c = record {
  blocks = one-more-placed c.list.new.self c.args.self.now.blocks.items c.push.new.self.items c.in_ok-block.block c.in_ok-push.ensures.items
      (all-placed-grow c.args.raw.now c.list.new.self c.args.self.now.blocks.items c.in_ok-block.ensures.grows c.requires.blocks) c.in_ok-block.ensures.placed;
  open_list = subst (IsListPlaced c.list.new.self) (sym c.take.ensures.after) tt;
}

pub returns-in_default-clause-grows : goal.returns-in_default-clause-grows
returns-in_default-clause-grows c = grows-same c.args.raw.now
