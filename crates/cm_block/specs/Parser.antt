-- What a parser has taken: the lines that it has been given.
use Rattle.std.specs.Prelude.{◌≡◌, ℕ, ◌+◌, ◌*◌, ◌≤◌, Bool, not, ◌&&◌, ◌||◌, ◌==◌, nat_lt, List, length, Some, None, is_some, ⊤}
use Rattle.cm_text.specs.Rules.{Rules}
use Rattle.cm_text.specs.Limits.{LimitsView}
use Rattle.cm_text.specs.Lines.{LineView}
use Rattle.cm_scan.specs.blocks.Blocks.{blocks_of, owners_of, reference_table, first_too_deep}
use Rattle.cm_scan.specs.laws.PartLaws.{AreLines}
use Rattle.cm_block.specs.declared.parser.BlockParser as code
use Rattle.cm_block.specs.declared.parser.Outline.{Outline}
use Rattle.cm_block.specs.declared.fault.BlockFault.{BlockFault}
use Rattle.cm_block.specs.declared.fault.BlockFault.TheVariants.{BlocksTooDeep, NoMemory}
use Rattle.cm_block.specs.OpenLeaf.{is_open_text, is_no_leaf}
use Rattle.cm_block.specs.Stack.{Stack, empty_stack, push_lines}
use Rattle.cm_block.specs.Frames.{stack_with}
use Rattle.cm_block.specs.LeafViews.{leaf_of}
use Rattle.cm_block.specs.Tests.{AllTested, container_count, count_of}

-- the stack that a parser holds
abbrev pub stack_of : code.BlockParser → Stack
stack_of parser = stack_with parser.stack.bare parser.stack.frames parser.stack.level (leaf_of parser.leaf) parser.owners

-- no container and no leaf is open
abbrev pub has_nothing_open : code.BlockParser → Bool
has_nothing_open parser = length parser.stack.frames == 0 && is_no_leaf (leaf_of parser.leaf)

-- The parser has met no fault, and can be given lines of text, the first after this number of spaces: a run of text is open, or nothing
-- is, and they aren't indented code (4.4 Indented code blocks).
abbrev pub takes_text : code.BlockParser → ℕ → Bool
takes_text parser spaces = not (is_some parser.fault) && (is_open_text (leaf_of parser.leaf) || (nat_lt spaces 4 && has_nothing_open parser))

-- The parser has been given these lines, and can be given more. With its limits and rules none of them is too deep. It has read
-- them as often as `TestsOf` says.
pub record HasTaken (parser : code.BlockParser) (lines : List LineView) : Type 0 where
  pub going : parser.fault ≡ None
  pub are_lines : AreLines lines
  pub holds : stack_of parser ≡ push_lines parser.limits.rules empty_stack lines
  pub within : first_too_deep parser.limits.rules parser.limits.blocks lines ≡ None
  pub few : length parser.stack.frames ≤ parser.limits.blocks
  pub tests : AllTested (count_of (stack_of parser)) ((parser.limits.blocks + 5) * length lines) 0 parser.tests

-- The lines have the reported fault, or memory was refused.
abbrev pub TellsDepth : BlockFault → LimitsView → List LineView → Type 0
TellsDepth (BlocksTooDeep line) limits lines = first_too_deep limits.rules limits.blocks lines ≡ Some line
TellsDepth NoMemory limits lines = ⊤

-- the outline has the blocks, the owners and the link reference definitions of these lines
pub record OutlineOf (outline : Outline) (rules : Rules) (lines : List LineView) : Type 0 where
  pub blocks : outline.blocks ≡ blocks_of rules lines
  pub owners : outline.owners ≡ owners_of rules lines
  pub definitions : outline.definitions ≡ reference_table rules lines

-- How often the lines were read: at least once for each block quote and item in the outline, and for each line at most the limit of
-- blocks and five times more.
pub record TestsOf (outline : Outline) (blocks : ℕ) (lines : List LineView) : Type 0 where
  pub enough : container_count outline.blocks ≤ outline.tests
  pub few : outline.tests ≤ (blocks + 5) * length lines
