-- One pass over the lines gives what the definition by cases gives.
use Rattle.std.specs.Prelude.{◌≡◌, List, length}
use Rattle.cm_text.specs.Rules.{Rules}
use Rattle.cm_text.specs.Lines.{LineView}
use Rattle.cm_scan.specs.blocks.Blocks.{parts_of, blocks_of, owners_of, reference_table}
use Rattle.cm_scan.specs.laws.PartLaws.{AreLines}
use Rattle.cm_block.specs.Machine.{ClosedPart, parts_in_one_pass}
use Rattle.cm_block.specs.Level.{LevelOfParts}
use Rattle.cm_block.specs.Stack.{empty_stack, push_lines, close_stack}

-- One pass over the lines gives their parts.
abbrev pub OnePass : Type 0
OnePass = (rules : Rules) (lines : List LineView) → parts_in_one_pass rules lines ≡ parts_of rules lines

-- Closed parts added one by one make the level of their parts.
abbrev pub FromTheLeft : Type 0
FromTheLeft = (closed_parts : List ClosedPart) → LevelOfParts closed_parts

-- The stack after the lines, once closed, has their blocks.
abbrev pub StackBlocks : Type 0
StackBlocks = (rules : Rules) (lines : List LineView) → (close_stack (push_lines rules empty_stack lines)).blocks ≡ blocks_of rules lines

-- The stack after the lines, once closed, has the owner of each.
abbrev pub StackOwners : Type 0
StackOwners = (rules : Rules) (lines : List LineView) → (close_stack (push_lines rules empty_stack lines)).owners ≡ owners_of rules lines

-- The stack after the lines, once closed, has the table of their link reference definitions.
abbrev pub StackTable : Type 0
StackTable = (rules : Rules) (lines : List LineView) → (close_stack (push_lines rules empty_stack lines)).definitions ≡ reference_table rules lines

-- The stack after the lines, once closed, has as many owners as there are lines.
abbrev pub OneOwnerEach : Type 0
OneOwnerEach = (rules : Rules) (lines : List LineView) → AreLines lines → length (close_stack (push_lines rules empty_stack lines)).owners ≡ length lines
