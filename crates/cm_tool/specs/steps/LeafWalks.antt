-- A walk over the blocks of an outline: what is read of them, and what a call of it has read. It passes on the words for trees and
-- leaves that the contracts of walks name too.
use Rattle.std.specs.Prelude.{◌≡◌, ℕ, ◌≤◌, List, ◌++◌, drop, length}
use Rattle.std.specs.List.{slice_range}
use Rattle.std.specs.Vec.Iter.{into_iter_items}
use Rattle.cm_tree.specs.declared.tree.Block.{Block}
use Rattle.cm_tree.specs.declared.tree.Inline.{Inline}
use Rattle.cm_tree.specs.declared.raw_blocks.RawBlock.{RawBlock}
use Rattle.cm_tree.specs.RawBlocks.{raw_inlines, block_in, blocks_in, ArePlaced}
use Rattle.cm_tree.specs.RawTrees.{all_blocks}
pub use Rattle.cm_scan.specs.inlines.Brackets.{defined_in}
use Rattle.cm_scan.specs.Documents.{block_read, content_read}
pub use Rattle.cm_scan.specs.Documents.{with_inlines}
use Rattle.cm_tool.specs.declared.fault.Fault.{Fault}
use Rattle.cm_tool.specs.declared.outlines.leaf_walk.Unread.{Unread}
use Rattle.cm_tool.specs.declared.outlines.leaf_walk.LeafWalk.{LeafWalk}
pub use Rattle.cm_tool.specs.Leaves.{depths_in, leaf_depths, first_leaf_past}
pub use Rattle.cm_tool.specs.Parsing.{TellsFault}
use Rattle.cm_tool.specs.steps.Items.{items_read}
pub use Rattle.cm_tool.specs.steps.Items.{items_leaf_depths}
use Rattle.cm_tool.specs.steps.Numbering.{Left, Passes}
pub use Rattle.cm_tool.specs.steps.Numbering.{TellsLeaf}

-- what is read of blocks: of one, of several, and of items
abbrev pub read : Unread → Block → Block
read unread block = block_read unread.limits.rules (defined_in unread.definitions) block

abbrev pub all_read : Unread → List Block → List Block
all_read unread blocks = with_inlines unread.limits.rules (defined_in unread.definitions) blocks

-- the inlines of the source between two places
abbrev pub content_at : Unread → (from to : ℕ) → List Inline
content_at unread from to = content_read unread.limits.rules (defined_in unread.definitions) (raw_inlines (slice_range unread.raw.text from to))

-- a block, blocks and items between two places, with the inlines of their leaves
abbrev pub block_read_of : Unread → RawBlock → Block
block_read_of unread block = read unread (block_in unread.raw block)

abbrev pub blocks_read_at : Unread → (from to : ℕ) → List Block
blocks_read_at unread from to = all_read unread (slice_range unread.raw.blocks from to)

abbrev pub items_read_at : Unread → (from to : ℕ) → List (List Block)
items_read_at unread from to = items_read unread.limits.rules (defined_in unread.definitions) (slice_range unread.raw.items from to)

-- all blocks at the top level that are left, with the inlines of their leaves
abbrev pub all_left : Unread → List Block
all_left unread = all_read unread (blocks_in unread.raw (drop unread.at unread.top.items) ++ all_blocks (into_iter_items unread.chunks))

-- what those of the chunk at hand are made of is there
abbrev pub ArePlacedLeft : Unread → Type 0
ArePlacedLeft unread = (unread.at ≤ length unread.top.items) × ArePlaced unread.raw (drop unread.at unread.top.items)

-- a call has read leaves of these depths, and none of them is past the limit
abbrev pub HasRead : LeafWalk → LeafWalk → List ℕ → Type 0
HasRead old new depths = (new.unread ≡ old.unread) × Passes old.unread.limits.inlines old.next new.next depths

-- a call has read some of the blocks that were left, and the leaves of those that are left now come next
pub record HasReadSome (old new : LeafWalk) : Type 0 where
  pub limits : new.unread.limits ≡ old.unread.limits
  pub placed : ArePlacedLeft new.unread
  pub leaves : Left old.unread.limits.inlines old.next new.next (leaf_depths (all_left old.unread)) (leaf_depths (all_left new.unread))

-- it has read all that was left
abbrev pub HasReadAll : LeafWalk → LeafWalk → Type 0
HasReadAll old new = Passes old.unread.limits.inlines old.next new.next (leaf_depths (all_left old.unread))

-- why leaves of these depths, which are the next ones, aren't read
abbrev pub TellsOf : LeafWalk → Fault → List ℕ → Type 0
TellsOf walk fault depths = TellsLeaf fault walk.unread.limits.inlines walk.next depths
