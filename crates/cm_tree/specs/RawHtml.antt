-- Raw HTML in a tree (CommonMark 0.31.2, 4.6 HTML blocks, 6.6 Raw HTML).
use Rattle.std.specs.Prelude.{Bool, true, false, List, map}
use Rattle.std.specs.List.{list_any}
use Rattle.cm_tree.specs.declared.tree.Inline.{Inline, Inline-F}
use Rattle.cm_tree.specs.declared.tree.Inline.TheOpen as inline
use Rattle.cm_tree.specs.declared.tree.Inline.TheFolds.{fold-Inline}
use Rattle.cm_tree.specs.declared.tree.Block.{Block, Block-F}
use Rattle.cm_tree.specs.declared.tree.Block.TheOpen as block
use Rattle.cm_tree.specs.declared.tree.Block.TheFolds.{fold-Block}

-- one of the values is true
abbrev pub any_of : List Bool → Bool
any_of answers = list_any (λ answer. answer) answers

-- One inline, given the value for each inline of its content. The content of an image is its alternative text, and raw HTML in
-- that is text.
abbrev pub raw_inline_step : Inline-F Bool → Bool
raw_inline_step (inline.Html text) = true
raw_inline_step (inline.Emph content) = any_of content
raw_inline_step (inline.Strong content) = any_of content
raw_inline_step (inline.Strike content) = any_of content
raw_inline_step (inline.Link dest title content) = any_of content
raw_inline_step _ = false

abbrev pub inline_has_raw : Inline → Bool
inline_has_raw = fold-Inline Bool raw_inline_step

-- raw HTML is in the inlines, at any depth but in an image
abbrev pub inlines_have_raw : List Inline → Bool
inlines_have_raw inlines = any_of (map inline_has_raw inlines)

-- one block, given the value for each block inside
abbrev pub raw_block_step : Block-F Bool → Bool
raw_block_step (block.Paragraph content) = inlines_have_raw content
raw_block_step (block.Heading level content) = inlines_have_raw content
raw_block_step (block.Html text) = true
raw_block_step (block.Quote blocks) = any_of blocks
raw_block_step (block.List kind tight items) = list_any any_of items
raw_block_step _ = false

abbrev pub block_has_raw : Block → Bool
block_has_raw = fold-Block Bool raw_block_step

-- the blocks contain an HTML block, or raw HTML, at any depth but in an image
abbrev pub blocks_have_raw : List Block → Bool
blocks_have_raw blocks = any_of (map block_has_raw blocks)
