use Rattle.std.proofs.Common.{◌≡◌, ◌||◌, drop}
use Rattle.cm_tree.specs.RawHtml.{block_has_raw, blocks_have_raw}
use Rattle.cm_tree.specs.steps.ItemSteps.{items_have_raw}
use Rattle.cm_tree.proofs.raw_html.+has_raw_html.Given as goal

-- what was found and what is left have the answer of all
abbrev pub invariant-has_raw_html-loop-block : goal.invariant-has_raw_html-loop-block
invariant-has_raw_html-loop-block l = (l.found || blocks_have_raw (drop l.block-index l.blocks)) ≡ blocks_have_raw l.blocks

abbrev pub invariant-block_has_raw_html-loop-item : goal.invariant-block_has_raw_html-loop-item
invariant-block_has_raw_html-loop-item l = (l.found || items_have_raw (drop l.item-index l.item-items)) ≡ block_has_raw l.block
