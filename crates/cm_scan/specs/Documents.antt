-- The tree of a text: its blocks, with the inlines of their leaves. For each leaf the link reference
-- definitions of the whole document count (CommonMark 0.31.2, Appendix: A parsing strategy).
use Rattle.std.specs.Prelude.{ℕ, List, [], ◌∷◌, map}
use Rattle.cm_text.specs.Rules.{Rules}
use Rattle.cm_text.specs.Lines.{LineView, text_of, plain_lines_of}
use Rattle.cm_tree.specs.declared.tree.Inline.{Inline}
use Rattle.cm_tree.specs.declared.tree.Inline.TheVariants.{Text}
use Rattle.cm_tree.specs.declared.tree.Block.{Block, Block-F}
use Rattle.cm_tree.specs.declared.tree.Block.TheOpen as block
use Rattle.cm_tree.specs.declared.tree.Block.TheVariants.{Paragraph, Heading, Code, Html, Break, Definition, Quote, List as ListBlock}
use Rattle.cm_tree.specs.declared.tree.Block.TheFolds.{fold-Block}
use Rattle.cm_scan.specs.blocks.Blocks.{blocks_of, reference_table}
use Rattle.cm_scan.specs.inlines.Brackets.{Defined, defined_in}
use Rattle.cm_scan.specs.inlines.Inlines.{inlines_of}

-- The inlines of a paragraph or heading, whose content in an outline is one text, its source, or nothing.
abbrev pub content_read : Rules → Defined → List Inline → List Inline
content_read rules defined (Text source ∷ []) = inlines_of rules defined source
content_read rules defined content = content

-- a block with its content changed; the blocks in it are already changed
abbrev pub change_step : (List Inline → List Inline) → Block-F Block → Block
change_step change (block.Paragraph content) = Paragraph (change content)
change_step change (block.Heading level content) = Heading level (change content)
change_step change (block.Code info text) = Code info text
change_step change (block.Html text) = Html text
change_step change block.Break = Break
change_step change (block.Definition label dest title) = Definition label dest title
change_step change (block.Quote blocks) = Quote blocks
change_step change (block.List kind tight items) = ListBlock kind tight items

-- a block with the inlines of its content
abbrev pub read_step : Rules → Defined → Block-F Block → Block
read_step rules defined = change_step (content_read rules defined)

-- the same of a block and all blocks in it
abbrev pub block_read : Rules → Defined → Block → Block
block_read rules defined = fold-Block Block (read_step rules defined)

-- The blocks with the inlines of their leaves, at every depth, given the link reference definitions.
abbrev pub with_inlines : Rules → Defined → List Block → List Block
with_inlines rules defined blocks = map (block_read rules defined) blocks

-- The link reference definitions of these lines, wherever they are (4.7 Link reference definitions).
abbrev pub defined_by : Rules → List LineView → Defined
defined_by rules lines = defined_in (reference_table rules lines)

-- The tree of these lines: their blocks, with the inlines of the leaves.
abbrev pub tree_of_lines : Rules → List LineView → List Block
tree_of_lines rules lines = with_inlines rules (defined_by rules lines) (blocks_of rules lines)

-- the tree of the text of these bytes
abbrev pub tree_of : Rules → List ℕ → List Block
tree_of rules bytes = tree_of_lines rules (plain_lines_of (text_of bytes))
