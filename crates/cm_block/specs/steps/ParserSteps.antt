-- Steps of the parser.
use Rattle.std.specs.Prelude.{◌≡◌, ℕ, suc, ◌<◌, ◌≤◌, Bool, true, false, [], length, Some, None, ⊤}
use Rattle.cm_text.specs.Limits.{LimitsView}
use Rattle.cm_text.specs.Lines.{LineView}
use Rattle.cm_block.specs.declared.parser.BlockParser as code
use Rattle.cm_block.specs.declared.fault.BlockFault.{BlockFault}
use Rattle.cm_block.specs.declared.fault.BlockFault.TheVariants.{BlocksTooDeep, NoMemory}
use Rattle.cm_block.specs.Level.{Level, block_opens}
use Rattle.cm_block.specs.Stack.{Stack, close_stack, push_leaf_line, push_line}
use Rattle.cm_block.specs.Depths.{nesting}
use Rattle.cm_block.specs.steps.FrameSteps.{within}
use Rattle.cm_block.specs.OpenLeaf.{OpenLeaf, no_leaf, open_text, LeafLine, line_of_leaf}
use Rattle.cm_block.specs.LeafViews.{leaf_of}
use Rattle.cm_block.specs.Parser.{stack_of}

-- one more line after this stack is too deep, and it is the next
abbrev pub Deep : BlockFault → LimitsView → Stack → LineView → Type 0
Deep (BlocksTooDeep n) limits before line = (limits.blocks < nesting (push_line limits.rules before line).now) × (n ≡ suc (length (close_stack before).owners))
Deep NoMemory limits before line = ⊤

-- a level and the open leaf once a run of text is opened there, unless a leaf is open
abbrev pub with_run : Level → OpenLeaf → Level × OpenLeaf
with_run level no_leaf = (block_opens level, open_text [])
with_run level x = (level, x)

-- a blank line is none of its lines
abbrev pub ends_at_blank : OpenLeaf → Bool
ends_at_blank no_leaf = true
ends_at_blank (open_text source) = true
ends_at_blank _ = false

-- A line that stays in the given number of containers is one of the open leaf, or not: it stays in all then.
abbrev pub TakenToLeaf : Bool → ℕ → code.BlockParser → LineView → code.BlockParser → Type 0
TakenToLeaf true depth before line now =
    (length before.stack.frames ≤ depth)
    × ((l : LeafLine) × ((line_of_leaf before.limits.rules (leaf_of before.leaf) line ≡ Some l)
    × (stack_of now ≡ within before.stack.frames (push_leaf_line before.owners before.stack.level l))))
TakenToLeaf false depth before line now =
    (length before.stack.frames ≤ depth → line_of_leaf before.limits.rules (leaf_of before.leaf) line ≡ None)
    × ((leaf_of now.leaf ≡ leaf_of before.leaf) × ((now.stack ≡ before.stack) × (now.owners ≡ before.owners)))
