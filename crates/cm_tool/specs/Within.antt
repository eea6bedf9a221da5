-- Which texts have no fault, by their bytes and their trees.
use Rattle.std.specs.Prelude.{◌≡◌, ◌↔◌, ℕ, ◌≤◌, List, length, None, IsUtf8}
use Rattle.cm_text.specs.Limits.{LimitsView}
use Rattle.cm_tree.specs.Depth.{greatest, blocks_depth}
use Rattle.cm_tree.specs.declared.tree.Block.{Block}
use Rattle.cm_scan.specs.Documents.{tree_of}
use Rattle.cm_source.specs.Refusals.{IsSpellable}
use Rattle.cm_source.specs.Spelling.{spelling_of}
use Rattle.cm_tool.specs.Faults.{fault_of}
use Rattle.cm_tool.specs.Leaves.{leaf_depths}

-- The blocks nest no deeper than the limit, and neither do the inlines of any leaf.
abbrev pub IsWithin : LimitsView → List Block → Type 0
IsWithin limits blocks = (blocks_depth blocks ≤ limits.blocks) × (greatest (leaf_depths blocks) ≤ limits.inlines)

-- A text has no fault exactly if it is UTF-8, no longer than the limit, and its tree is within the limits.
abbrev pub NoFaultJustWithin : Type 0
NoFaultJustWithin = (limits : LimitsView) (bytes : List ℕ)
    → (fault_of limits bytes ≡ None) ↔ (IsUtf8 bytes × (length bytes ≤ limits.bytes) × IsWithin limits (tree_of limits.rules bytes))

-- The spelling of a tree has no fault if it is UTF-8, as it is if the texts in the tree are, and short enough, and the tree is within the
-- limits.
abbrev pub SpelledWithoutFault : Type 0
SpelledWithoutFault = (limits : LimitsView) (blocks : List Block) → IsSpellable limits.rules blocks → IsUtf8 (spelling_of blocks)
    → length (spelling_of blocks) ≤ limits.bytes → IsWithin limits blocks → fault_of limits (spelling_of blocks) ≡ None
