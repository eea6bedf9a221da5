use Rattle.std.proofs.Common.{ap, ap₂, ◌∙◌}
use Rattle.cm_tree.specs.RawBlocks.{blocks_in}
use Rattle.cm_tree.proofs.lemmas.RawLemmas.{grows-more}
use Rattle.cm_block.specs.Level.{Level, item_closes}
use Rattle.cm_block.specs.steps.LevelSteps.{item_with, goes_on}
use Rattle.cm_block.proofs.lemmas.LevelViewLemmas.{level-grows, level-placed-grows}
use Rattle.cm_block.proofs.level.Level.begin_next_item.Goals as goal

pub returns-in_err-close_list-clause-outer_placed : goal.returns-in_err-close_list-clause-outer_placed
returns-in_err-close_list-clause-outer_placed c = level-placed-grows c.args.raw.now c.close_list.new.raw c.args.outer.now c.in_err-close_list.ensures.grows c.requires.outer

pub returns-in_err-item-clause-outer_placed : goal.returns-in_err-item-clause-outer_placed
returns-in_err-item-clause-outer_placed c =
    level-placed-grows c.args.raw.now c.item.new.self c.args.outer.now (grows-more c.args.raw.now c.close_list.new.raw c.item.new.self c.in_ok-close_list.ensures.grows c.in_err-item.ensures.grows) c.requires.outer

pub returns-in_err-item-clause-placed : goal.returns-in_err-item-clause-placed
returns-in_err-item-clause-placed c = level-placed-grows c.close_list.new.raw c.item.new.self c.close_list.new.self c.in_err-item.ensures.grows c.in_ok-close_list.ensures.placed

pub returns-in_err-item-clause-grows : goal.returns-in_err-item-clause-grows
returns-in_err-item-clause-grows c = grows-more c.args.raw.now c.close_list.new.raw c.item.new.self c.in_ok-close_list.ensures.grows c.in_err-item.ensures.grows

pub returns-in_err-close_item-clause-outer_placed : goal.returns-in_err-close_item-clause-outer_placed
returns-in_err-close_item-clause-outer_placed c =
    c.in_err-close_item.ensures.placed c.item.new.self
    (level-placed-grows c.args.raw.now c.item.new.self c.args.outer.now (grows-more c.args.raw.now c.close_list.new.raw c.item.new.self c.in_ok-close_list.ensures.grows c.in_ok-item.ensures.grows) c.requires.outer) c.in_ok-item.ensures.placed

pub returns-in_err-close_item-clause-placed : goal.returns-in_err-close_item-clause-placed
returns-in_err-close_item-clause-placed c = level-placed-grows c.close_list.new.raw c.item.new.self c.close_list.new.self c.in_ok-item.ensures.grows c.in_ok-close_list.ensures.placed

pub returns-in_err-close_item-clause-grows : goal.returns-in_err-close_item-clause-grows
returns-in_err-close_item-clause-grows c = grows-more c.args.raw.now c.close_list.new.raw c.item.new.self c.in_ok-close_list.ensures.grows c.in_ok-item.ensures.grows

pub returns-clause-outer : goal.returns-clause-outer
returns-clause-outer c =
    c.go_on.ensures.level c.item.new.self
    ∙ ap goes_on (c.in_ok-close_item.ensures.level c.item.new.self
    ∙ ap₂ item_closes
    (level-grows c.args.raw.now c.item.new.self c.args.outer.now (grows-more c.args.raw.now c.close_list.new.raw c.item.new.self c.in_ok-close_list.ensures.grows c.in_ok-item.ensures.grows) c.requires.outer)
    (ap (λ blocks. item_with blocks c.close_list.new.self.ends_blank c.close_list.new.self.separated) (c.in_ok-item.ensures.item ∙ ap (blocks_in c.close_list.new.raw) c.deref.ensures.value)
    ∙ ap (λ (w : Level). item_with w.blocks w.ends_blank w.separated) c.in_ok-close_list.ensures.level))

pub returns-clause-outer_placed : goal.returns-clause-outer_placed
returns-clause-outer_placed c =
    c.go_on.ensures.placed c.item.new.self (c.in_ok-close_item.ensures.placed c.item.new.self
    (level-placed-grows c.args.raw.now c.item.new.self c.args.outer.now (grows-more c.args.raw.now c.close_list.new.raw c.item.new.self c.in_ok-close_list.ensures.grows c.in_ok-item.ensures.grows) c.requires.outer) c.in_ok-item.ensures.placed)

pub returns-clause-grows : goal.returns-clause-grows
returns-clause-grows c = grows-more c.args.raw.now c.close_list.new.raw c.item.new.self c.in_ok-close_list.ensures.grows c.in_ok-item.ensures.grows
