use Rattle.std.proofs.Common.{◌+◌, true, not, ◌∷◌, ◌++◌, map, drop, sym, ap, subst, ◌∙◌, append_assoc, append-nil}
use Rattle.std.proofs.lemmas.List.{drop_more, drop_all}
use Rattle.cm_source.specs.Spelling.{gap, marker, item_lines, lines_of_block, lines_of_blocks}
use Rattle.cm_source.specs.steps.WrittenLines.{Writes}
use Rattle.cm_source.proofs.lemmas.spelling.WrittenLineLemmas.{then-ok, writes-then}
use Rattle.cm_source.proofs.lemmas.spelling.SpelledBlocks.{gapped, gapped-on, item_lines_of, lines_of_items, quote-writes, item-writes}
use Rattle.cm_tree.proofs.lemmas.BlockFolds as block_fold
use Rattle.cm_source.specs.Spelling as spelling
use Rattle.cm_source.proofs.blocks.+blocks.Goals as goal

pub spell_quote-returns : goal.spell_quote-returns
spell_quote-returns t c =
    then-ok c.leave.result (λ left. quote-writes c.args.source.now c.enter_quote.new.self c.spell_blocks.new.source c.leave.new.self c.in_ok-front.front (lines_of_blocks true c.args.blocks.now) c.in_ok-front.ensures.enters c.in_ok-spell_blocks.ensures left c.in_ok-front.ensures.front) c.leave.ensures

pub spell_item-returns : goal.spell_item-returns
spell_item-returns t c =
    then-ok c.leave.result (λ left. item-writes c.args.source.now c.enter_item.new.self c.spell_blocks.new.source c.leave.new.self c.in_ok-front.front c.args.kind (lines_of_blocks (not c.args.tight) c.args.blocks.now) c.in_ok-front.ensures.enters c.in_ok-spell_blocks.ensures left c.in_ok-front.ensures.front) c.leave.ensures

pub spell_blocks-loop-block-preserved : goal.spell_blocks-loop-block-preserved
spell_blocks-loop-block-preserved t c =
    let inv = c.loop-block.invariant in
    let next = c.block-item.result in
    let rest = drop (c.loop-block.block-index + 1) c.args.blocks.now in
    let own = gap c.loop-block.gap ++ lines_of_block next in
    let step = drop_more c.args.blocks.now c.loop-block.block-index next c.loop-block-test.true ∙ ap (λ b. b ∷ rest) (sym c.block-item.is) in (
      inv.0 ++ own,
      writes-then c.args.source.now c.loop-block.source c.spell_block.new.source inv.0 own inv.1
          (writes-then c.loop-block.source c.spell_gap.new.source c.spell_block.new.source (gap c.loop-block.gap) (lines_of_block next) c.in_ok-spell_gap.ensures c.in_ok-spell_block.ensures),
      inv.2 ∙ ap (λ t. inv.0 ++ gapped c.loop-block.gap c.args.apart (map lines_of_block t)) step ∙ ap (λ t. inv.0 ++ t) (gapped-on c.loop-block.gap c.args.apart (lines_of_block next) (map lines_of_block rest))
          ∙ sym (append_assoc inv.0 own (gapped c.args.apart c.args.apart (map lines_of_block rest))),
    )

pub spell_block-loop-item-preserved : goal.spell_block-loop-item-preserved
spell_block-loop-item-preserved t c =
    let inv = c.loop-item.invariant in
    let kind = c.in-List.kind in
    let tight = c.in-List.tight in
    let items = c.as_slice-item-items.result.now in
    let next = c.item-item.result in
    let rest = drop (c.loop-item.item-index + 1) items in
    let lines = item_lines (marker kind) (lines_of_blocks (not tight) next) in
    let own = gap c.loop-item.gap ++ lines in
    let mid = c.spell_gap.new.source in
    let end = c.spell_item.new.source in
    let step = drop_more items c.loop-item.item-index next c.loop-item-test.true ∙ ap (λ i. i ∷ rest) (sym c.item-item.is) in (
      inv.0 ++ own,
      writes-then c.args.source.now c.loop-item.source end inv.0 own inv.1
          (writes-then c.loop-item.source mid end (gap c.loop-item.gap) lines c.in_ok-spell_gap-in-List.ensures
          (subst (λ blocks. Writes mid end (item_lines (marker kind) (lines_of_blocks (not tight) blocks))) c.as_slice-in-loop-item.ensures c.in_ok-spell_item-in-List.ensures)),
      inv.2 ∙ ap (λ t. inv.0 ++ gapped c.loop-item.gap (not tight) (item_lines_of kind tight t)) step ∙ ap (λ t. inv.0 ++ t) (gapped-on c.loop-item.gap (not tight) lines (item_lines_of kind tight rest))
          ∙ sym (append_assoc inv.0 own (gapped (not tight) (not tight) (item_lines_of kind tight rest))),
    )

pub spell_block-returns-after-loop-item : goal.spell_block-returns-after-loop-item
spell_block-returns-after-loop-item t c =
    let inv = c.loop-item.invariant in
    let kind = c.in-List.kind in
    let tight = c.in-List.tight in
    let items = c.as_slice-item-items.result.now in
    let nothing = ap (λ t. inv.0 ++ gapped c.loop-item.gap (not tight) (item_lines_of kind tight t)) (drop_all c.loop-item.item-index items c.loop-item-test.false) ∙ append-nil inv.0 in
    let whole = ap lines_of_block c.in-List.is ∙ block_fold.list spelling.block_step kind tight c.in-List.items ∙ ap (lines_of_items kind tight) (sym c.as_slice-item-items.ensures) in
    subst (Writes c.args.source.now c.loop-item.source) (sym (whole ∙ inv.2 ∙ nothing)) inv.1
