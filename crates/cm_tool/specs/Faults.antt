-- The fault of an input: a line that is too deep, what is wrong with its text, or a leaf whose inlines nest too deep.
use Rattle.std.specs.Prelude.{◌≡◌, ◌↔◌, ℕ, List, ◌++◌, take, Option, Some, None}
use Rattle.std.specs.Option.{option_map, option_or}
use Rattle.cm_text.specs.declared.fault.TextFault.{TextFault}
use Rattle.cm_text.specs.Limits.{LimitsView}
use Rattle.cm_text.specs.Lines.{LineView, text_of, plain_lines_of, ended_lines_of}
use Rattle.cm_text.specs.Faults.{valid_len, settled_fault, text_fault}
use Rattle.cm_text.specs.Settled.{AreBytes}
use Rattle.cm_scan.specs.blocks.Blocks.{first_too_deep}
use Rattle.cm_tool.specs.declared.fault.Fault.{Fault}
use Rattle.cm_tool.specs.declared.fault.Fault.TheVariants.{BlocksTooDeep, InlinesTooDeep}
use Rattle.cm_tool.specs.ToldFaults.{told}
use Rattle.cm_tool.specs.Leaves.{first_leaf_past}
use Rattle.cm_scan.specs.Documents.{tree_of}

-- the first of the lines that is in more block quotes and items than the limit
abbrev pub too_deep : LimitsView → List LineView → Option Fault
too_deep limits lines = option_map BlocksTooDeep (first_too_deep limits.rules limits.blocks lines)

-- the longest prefix of the bytes within the limit that is UTF-8, after which the text's fault is
abbrev pub sound_front : ℕ → List ℕ → List ℕ
sound_front limit bytes = take (valid_len limit bytes) (take limit bytes)

-- the first line too deep of those that have ended in that front
abbrev pub ended_too_deep : LimitsView → List ℕ → Option Fault
ended_too_deep limits bytes = too_deep limits (ended_lines_of (text_of (sound_front limits.bytes bytes)))

-- the first leaf of the tree whose inlines nest deeper than the limit
abbrev pub leaf_too_deep : LimitsView → List ℕ → Option Fault
leaf_too_deep limits bytes = option_map InlinesTooDeep (first_leaf_past limits.inlines (tree_of limits.rules bytes))

-- If something is wrong with the text, the fault is the first line too deep of those that have ended before it, or else that; a
-- line that it cuts isn't judged. If nothing is, it is the first line too deep of all, or else the first leaf too deep.
abbrev pub fault_by : Option TextFault → LimitsView → List ℕ → Option Fault
fault_by (Some fault) limits bytes = option_or (ended_too_deep limits bytes) (Some (told fault))
fault_by None limits bytes = option_or (too_deep limits (plain_lines_of (text_of bytes))) (leaf_too_deep limits bytes)

-- the fault of the bytes if they end here
abbrev pub fault_of : LimitsView → List ℕ → Option Fault
fault_of limits bytes = fault_by (text_fault limits.bytes bytes) limits bytes

-- The fault of the bytes however they continue. The last line, which hasn't ended, isn't judged, and no leaf is, since a definition
-- after it may count.
abbrev pub settled_fault_of : LimitsView → List ℕ → Option Fault
settled_fault_of limits bytes = option_or (ended_too_deep limits bytes) (option_map told (settled_fault limits.bytes bytes))

-- every input that starts with these bytes has the fault
abbrev pub Settles : LimitsView → List ℕ → Fault → Type 0
Settles limits bytes fault = (more : List ℕ) → AreBytes more → fault_of limits (bytes ++ more) ≡ Some fault

-- `settled_fault_of` is the fault that the bytes settle, or none if they settle none
abbrev pub SettledIsTold : Type 0
SettledIsTold = (limits : LimitsView) (bytes : List ℕ) (fault : Fault)
    → (settled_fault_of limits bytes ≡ Some fault) ↔ Settles limits bytes fault
