-- The block that a leaf with lent texts is.
use Rattle.cm_tree.specs.declared.tree.Block.{Block}
use Rattle.cm_tree.specs.declared.tree.Block.TheVariants as trees
use Rattle.cm_tree.specs.RawBlocks.{raw_inlines}
use Rattle.cm_block.specs.declared.leaf_block.LeafBlock.{LeafBlock}
use Rattle.cm_block.specs.declared.leaf_block.LeafBlock.TheVariants.{Paragraph, Heading, Code, Html, Break, Definition}

abbrev pub block_of : LeafBlock → Block
block_of (Paragraph source) = trees.Paragraph (raw_inlines source.now)
block_of (Heading level source) = trees.Heading level (raw_inlines source.now)
block_of (Code info text) = trees.Code info.now text.now
block_of (Html text) = trees.Html text.now
block_of Break = trees.Break
block_of (Definition label dest title) = trees.Definition label.now dest.now title.now
