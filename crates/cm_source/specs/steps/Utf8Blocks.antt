-- Trees whose contents are texts in UTF-8. Those of each tree that a program has are.
use Rattle.std.specs.Prelude.{◌≡◌, Bool, true, List, map}
use Rattle.cm_tree.specs.declared.tree.Block.{Block, Block-F}
use Rattle.cm_tree.specs.declared.tree.Block.TheOpen as block
use Rattle.cm_tree.specs.declared.tree.Block.TheFolds.{fold-Block}
use Rattle.cm_source.specs.steps.Utf8Inlines.{all_of, has_utf8}

-- one block, with whether the contents of each block inside are such texts in its place
abbrev pub utf8_step : Block-F Bool → Bool
utf8_step (block.Paragraph content) = all_of (map has_utf8 content)
utf8_step (block.Heading level content) = all_of (map has_utf8 content)
utf8_step (block.Code info text) = true
utf8_step (block.Html text) = true
utf8_step block.Break = true
utf8_step (block.Definition label dest title) = true
utf8_step (block.Quote blocks) = all_of blocks
utf8_step (block.List kind tight items) = all_of (map all_of items)

abbrev pub has_texts : Block → Bool
has_texts = fold-Block Bool utf8_step

-- the contents of paragraphs and headings are such texts, at every depth
abbrev pub HaveTexts : List Block → Type 0
HaveTexts blocks = all_of (map has_texts blocks) ≡ true
