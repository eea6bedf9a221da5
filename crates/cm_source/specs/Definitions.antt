-- Trees without their link reference definitions, which have no rendering (CommonMark 0.31.2, 4.7 Link
-- reference definitions).
use Rattle.std.specs.Prelude.{Bool, true, false, not, List, map, filter}
use Rattle.cm_tree.specs.declared.tree.Block.{Block, Block-F}
use Rattle.cm_tree.specs.declared.tree.Block.TheOpen as block
use Rattle.cm_tree.specs.declared.tree.Block.TheVariants.{Paragraph, Heading, Code, Html, Break, Definition, Quote, List as ListBlock}
use Rattle.cm_tree.specs.declared.tree.Block.TheFolds.{fold-Block}

abbrev pub is_definition : Block → Bool
is_definition (Definition label dest title) = true
is_definition _ = false

-- the blocks without the definitions among them
abbrev pub kept : List Block → List Block
kept blocks = filter (λ block. not (is_definition block)) blocks

-- one block without the definitions inside, given each block inside without them
abbrev pub cleared_step : Block-F Block → Block
cleared_step (block.Paragraph content) = Paragraph content
cleared_step (block.Heading level content) = Heading level content
cleared_step (block.Code info text) = Code info text
cleared_step (block.Html text) = Html text
cleared_step block.Break = Break
cleared_step (block.Definition label dest title) = Definition label dest title
cleared_step (block.Quote blocks) = Quote (kept blocks)
cleared_step (block.List kind tight items) = ListBlock kind tight (map kept items)

-- one block without the definitions inside, at every depth
abbrev pub cleared : Block → Block
cleared = fold-Block Block cleared_step

-- the blocks without the definitions among them and inside, at every depth
abbrev pub without_definitions : List Block → List Block
without_definitions blocks = kept (map cleared blocks)
