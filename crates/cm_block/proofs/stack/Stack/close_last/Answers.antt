use Rattle.std.proofs.Common.{sym, ap, ap₂, ◌∙◌}
use Rattle.std.proofs.lemmas.Result.{on_ok_weaker}
use Rattle.cm_tree.specs.declared.tree.Block.TheVariants as trees
use Rattle.cm_block.specs.Level.{block_closes, item_closes}
use Rattle.cm_block.specs.steps.LevelViews.{level_in}
use Rattle.cm_tree.specs.RawBlocks.{blocks_in}
use Rattle.cm_block.specs.Frames.{Row}
use Rattle.cm_block.specs.steps.FrameSteps.{close_container}
use Rattle.cm_block.specs.steps.LevelSteps.{item_with}
use Rattle.cm_block.specs.steps.FrameViews.{container_of, frames_in}
use Rattle.cm_block.specs.steps.FrontViews.{innermost}
use Rattle.cm_block.proofs.lemmas.FrontLemmas.{inner-closes, inner-item-closes}
use Rattle.cm_tree.proofs.lemmas.RawLemmas.{grows-more}
use Rattle.cm_block.proofs.lemmas.QuoteLemmas.{quotes-left}
use Rattle.cm_block.proofs.lemmas.RowLemmas.{taken-placed, taken-is, inside-is}
use Rattle.cm_block.proofs.stack.Stack.close_last.Goals as goal

pub overflow_sub-self : goal.overflow_sub-self
overflow_sub-self c =
    (quotes-left c.self.inside.frames.items c.pop.new.self.items c.in-Some.field-0 c.self.inside.quotes c.quotes.result c.in-Some.ensures.items c.self.inside.counted c.quotes.ensures).0

pub invariant_of-self-inside-in-Break-1 : goal.invariant_of-self-inside-in-Break-1
invariant_of-self-inside-in-Break-1 c =
    ((quotes-left c.self.inside.frames.items c.pop.new.self.items c.in-Some.field-0 c.self.inside.quotes c.quotes.result c.in-Some.ensures.items c.self.inside.counted c.quotes.ensures).1, tt)

pub invariant_of-self-inside-in-Break-branch-2 : goal.invariant_of-self-inside-in-Break-branch-2
invariant_of-self-inside-in-Break-branch-2 c =
    ((quotes-left c.self.inside.frames.items c.pop.new.self.items c.in-Some.field-0 c.self.inside.quotes c.quotes.result c.in-Some.ensures.items c.self.inside.counted c.quotes.ensures).1, tt)

pub invariant_of-self-inside-in-Quote : goal.invariant_of-self-inside-in-Quote
invariant_of-self-inside-in-Quote c =
    ((quotes-left c.self.inside.frames.items c.pop.new.self.items c.in-Some.field-0 c.self.inside.quotes c.quotes.result c.in-Some.ensures.items c.self.inside.counted c.quotes.ensures).1, tt)

pub invariant_of-self-inside-in-Break-branch-3 : goal.invariant_of-self-inside-in-Break-branch-3
invariant_of-self-inside-in-Break-branch-3 c =
    ((quotes-left c.self.inside.frames.items c.pop.new.self.items c.in-Some.field-0 c.self.inside.quotes c.quotes.result c.in-Some.ensures.items c.self.inside.counted c.quotes.ensures).1, tt)

pub invariant_of-self-inside-in-Item : goal.invariant_of-self-inside-in-Item
invariant_of-self-inside-in-Item c =
    ((quotes-left c.self.inside.frames.items c.pop.new.self.items c.in-Some.field-0 c.self.inside.quotes c.quotes.result c.in-Some.ensures.items c.self.inside.counted c.quotes.ensures).1, tt)

pub invariant_of-self-in_err-blocks : goal.invariant_of-self-in_err-blocks
invariant_of-self-in_err-blocks c =
    taken-placed c.self.inside.chunks c.self.inside.raw c.into_blocks.new.raw c.self.inside.frames.items c.pop.new.self.items c.in-Some.field-0 c.replace-inside.new.dest c.in-Some.ensures.items
    c.replace-inside.ensures.after c.self.invariant.0 c.in_err-blocks.ensures.grows

pub invariant_of-self-in_err-quote-in-Quote : goal.invariant_of-self-in_err-quote-in-Quote
invariant_of-self-in_err-quote-in-Quote c =
    taken-placed c.self.inside.chunks c.self.inside.raw c.quote.new.self c.self.inside.frames.items c.pop.new.self.items c.in-Some.field-0 c.replace-inside.new.dest c.in-Some.ensures.items
    c.replace-inside.ensures.after c.self.invariant.0 (grows-more c.self.inside.raw c.into_blocks.new.raw c.quote.new.self c.in_ok-blocks.ensures.grows c.in_err-quote-in-Quote.ensures.grows)

pub invariant_of-self-in-Quote : goal.invariant_of-self-in-Quote
invariant_of-self-in-Quote c =
    let still = taken-placed c.self.inside.chunks c.self.inside.raw c.quote.new.self c.self.inside.frames.items c.pop.new.self.items c.in-Some.field-0 c.replace-inside.new.dest c.in-Some.ensures.items
    c.replace-inside.ensures.after c.self.invariant.0 (grows-more c.self.inside.raw c.into_blocks.new.raw c.quote.new.self c.in_ok-blocks.ensures.grows c.in_ok-quote-in-Quote.ensures.grows) in
    (still.0, c.close_block.ensures.placed c.quote.new.self still.1 c.in_ok-quote-in-Quote.ensures.placed)

pub returns-in_ok-quote-in-Quote-clause-closes : goal.returns-in_ok-quote-in-Quote-clause-closes
returns-in_ok-quote-in-Quote-clause-closes c = on_ok_weaker c.close_block.result (λ h outer last all.
    let front = c.self.inside.chunks in
    let inside = inside-is front c.self.inside.raw c.quote.new.self c.self.inside.frames.items c.pop.new.self.items c.in-Some.field-0 c.replace-inside.new.dest c.in-Some.ensures.items
    c.replace-inside.ensures.after c.self.invariant.0 (grows-more c.self.inside.raw c.into_blocks.new.raw c.quote.new.self c.in_ok-blocks.ensures.grows c.in_ok-quote-in-Quote.ensures.grows) (level_in c.self.inside.raw c.self.inside.level) in
    let is = taken-is c.self.inside.chunks c.self.inside.raw c.quote.new.self c.self.inside.frames.items c.pop.new.self.items c.in-Some.field-0 c.replace-inside.new.dest c.in-Some.ensures.items
    c.replace-inside.ensures.after c.self.invariant.0 (grows-more c.self.inside.raw c.into_blocks.new.raw c.quote.new.self c.in_ok-blocks.ensures.grows c.in_ok-quote-in-Quote.ensures.grows) c.args.self.now.frames outer last (ap (λ (r : Row). r.frames) c.self.view_is) all in (
      is.0,
      ap (innermost front (frames_in c.quote.new.self c.pop.new.self.items)) (h c.quote.new.self)
          ∙ inner-closes front _ (frames_in c.quote.new.self c.pop.new.self.items) (level_in c.quote.new.self c.replace-inside.new.dest)
          ∙ ap₂ block_closes is.1.0 (c.in_ok-quote-in-Quote.ensures.block ∙ ap trees.Quote (ap (blocks_in c.into_blocks.new.raw) c.deref.ensures.value ∙ c.in_ok-blocks.ensures.blocks))
          ∙ ap₂ (λ k inside. close_container k last.level (level_in c.self.inside.raw inside)) (ap container_of (sym c.in-Quote.is) ∙ is.1.1) c.replace-inside.ensures.value
          ∙ ap (close_container last.container last.level) (sym inside)
          ∙ ap (λ (r : Row). close_container last.container last.level r.level) c.self.view_is,
    )) c.close_block.ensures.level

pub invariant_of-self-in_err-item-in-Item : goal.invariant_of-self-in_err-item-in-Item
invariant_of-self-in_err-item-in-Item c =
    taken-placed c.self.inside.chunks c.self.inside.raw c.item.new.self c.self.inside.frames.items c.pop.new.self.items c.in-Some.field-0 c.replace-inside.new.dest c.in-Some.ensures.items
    c.replace-inside.ensures.after c.self.invariant.0 (grows-more c.self.inside.raw c.into_blocks.new.raw c.item.new.self c.in_ok-blocks.ensures.grows c.in_err-item-in-Item.ensures.grows)

pub invariant_of-self-in-Item : goal.invariant_of-self-in-Item
invariant_of-self-in-Item c =
    let still = taken-placed c.self.inside.chunks c.self.inside.raw c.item.new.self c.self.inside.frames.items c.pop.new.self.items c.in-Some.field-0 c.replace-inside.new.dest c.in-Some.ensures.items
    c.replace-inside.ensures.after c.self.invariant.0 (grows-more c.self.inside.raw c.into_blocks.new.raw c.item.new.self c.in_ok-blocks.ensures.grows c.in_ok-item-in-Item.ensures.grows) in
    (still.0, c.close_item.ensures.placed c.item.new.self still.1 c.in_ok-item-in-Item.ensures.placed)

pub returns-in_ok-item-in-Item-clause-closes : goal.returns-in_ok-item-in-Item-clause-closes
returns-in_ok-item-in-Item-clause-closes c = on_ok_weaker c.close_item.result (λ h outer last all.
    let front = c.self.inside.chunks in
    let inside = inside-is front c.self.inside.raw c.item.new.self c.self.inside.frames.items c.pop.new.self.items c.in-Some.field-0 c.replace-inside.new.dest c.in-Some.ensures.items
    c.replace-inside.ensures.after c.self.invariant.0 (grows-more c.self.inside.raw c.into_blocks.new.raw c.item.new.self c.in_ok-blocks.ensures.grows c.in_ok-item-in-Item.ensures.grows) (level_in c.self.inside.raw c.self.inside.level) in
    let is = taken-is c.self.inside.chunks c.self.inside.raw c.item.new.self c.self.inside.frames.items c.pop.new.self.items c.in-Some.field-0 c.replace-inside.new.dest c.in-Some.ensures.items
    c.replace-inside.ensures.after c.self.invariant.0 (grows-more c.self.inside.raw c.into_blocks.new.raw c.item.new.self c.in_ok-blocks.ensures.grows c.in_ok-item-in-Item.ensures.grows) c.args.self.now.frames outer last (ap (λ (r : Row). r.frames) c.self.view_is) all in (
      is.0,
      ap (innermost front (frames_in c.item.new.self c.pop.new.self.items)) (h c.item.new.self)
          ∙ inner-item-closes front _ (frames_in c.item.new.self c.pop.new.self.items) (level_in c.item.new.self c.replace-inside.new.dest)
          ∙ ap₂ item_closes is.1.0
          (ap (λ blocks. item_with blocks c.replace-inside.result.ends_blank c.replace-inside.result.separated)
          (c.in_ok-item-in-Item.ensures.item ∙ ap (blocks_in c.into_blocks.new.raw) c.deref-in-Item.ensures.value ∙ c.in_ok-blocks.ensures.blocks))
          ∙ ap₂ (λ k inside. close_container k last.level (level_in c.self.inside.raw inside)) (ap container_of (sym c.in-Item.is) ∙ is.1.1) c.replace-inside.ensures.value
          ∙ ap (close_container last.container last.level) (sym inside)
          ∙ ap (λ (r : Row). close_container last.container last.level r.level) c.self.view_is,
    )) c.close_item.ensures.level
