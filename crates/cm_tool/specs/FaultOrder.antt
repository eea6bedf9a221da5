-- The faults of an input in the order in which a parser meets them: first a line that has ended and is too
-- deep, then what is wrong with the text, the last line, and the first leaf that nests too deep. The lines
-- are those that the parser's feed has cut.
use Rattle.std.specs.Prelude.{◌≡◌, ℕ, List, Option}
use Rattle.std.specs.Option.{option_map, option_or}
use Rattle.cm_text.specs.declared.fault.TextFault.{TextFault}
use Rattle.cm_text.specs.Limits.{LimitsView}
use Rattle.cm_text.specs.Lines.{text_of, plain_lines_of}
use Rattle.cm_text.specs.Faults.{settled_fault, text_fault}
use Rattle.cm_text.specs.Feed.{cut_bytes}
use Rattle.cm_scan.specs.blocks.Blocks.{first_too_deep}
use Rattle.cm_tool.specs.declared.fault.Fault.{Fault}
use Rattle.cm_tool.specs.declared.fault.Fault.TheVariants.{BlocksTooDeep, InlinesTooDeep}
use Rattle.cm_tool.specs.ToldFaults.{told}
use Rattle.cm_tool.specs.Leaves.{first_leaf_past}
use Rattle.cm_scan.specs.Documents.{tree_of}
use Rattle.cm_tool.specs.Faults.{fault_of, settled_fault_of}

-- the first line too deep of those that have ended
abbrev pub ended_deep : LimitsView → List ℕ → Option ℕ
ended_deep limits bytes = first_too_deep limits.rules limits.blocks (cut_bytes limits.bytes bytes).ended

-- the first line too deep of all
abbrev pub all_deep : LimitsView → List ℕ → Option ℕ
all_deep limits bytes = first_too_deep limits.rules limits.blocks (plain_lines_of (text_of bytes))

-- the first leaf too deep
abbrev pub leaf_deep : LimitsView → List ℕ → Option ℕ
leaf_deep limits bytes = first_leaf_past limits.inlines (tree_of limits.rules bytes)

-- the first of the last two
abbrev pub of_two : Option ℕ → Option ℕ → Option Fault
of_two all leaf = option_or (option_map BlocksTooDeep all) (option_map InlinesTooDeep leaf)

-- the first of all four
abbrev pub of_four : Option ℕ → Option TextFault → Option ℕ → Option ℕ → Option Fault
of_four ended wrong all leaf = option_or (option_map BlocksTooDeep ended) (option_or (option_map told wrong) (of_two all leaf))

-- the first fault that a parser meets
abbrev pub fault_met : LimitsView → List ℕ → Option Fault
fault_met limits bytes = of_four (ended_deep limits bytes) (text_fault limits.bytes bytes) (all_deep limits bytes) (leaf_deep limits bytes)

-- the same however the bytes continue
abbrev pub settled_fault_met : LimitsView → List ℕ → Option Fault
settled_fault_met limits bytes = option_or (option_map BlocksTooDeep (ended_deep limits bytes)) (option_map told (settled_fault limits.bytes bytes))

-- The fault that a parser meets first is the fault of the input.
abbrev pub FaultsInOrder : Type 0
FaultsInOrder = (limits : LimitsView) (bytes : List ℕ)
    → (fault_of limits bytes ≡ fault_met limits bytes) × (settled_fault_of limits bytes ≡ settled_fault_met limits bytes)
