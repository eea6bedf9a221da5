-- The lines that faults are on, and the line that names a file with a fault.
use Rattle.std.specs.Prelude.{ℕ, ◌+◌, ◌==◌, Bool, false, List, take, length, ◌++◌, codes, Option, Some, None, Result, Ok, Err, ◌≡◌, option_and_then}
use Rattle.std.specs.Fmt.{decimal}
use Rattle.std.specs.List.{position_from}
use Rattle.cm_command.specs.declared.job.Job.{Job}
use Rattle.cm_command.specs.declared.job.Job.TheVariants.{Examples}
use Rattle.cm_text.specs.DeviceViews.{SourceView}
use Rattle.cm_text.specs.Limits.{LimitsView}
use Rattle.cm_text.specs.Lines.{lines_of}
use Rattle.cm_text.specs.Rules.{Rules}
use Rattle.cm_tree.specs.declared.tree.Owner.{Owner}
use Rattle.cm_tree.specs.declared.tree.Owner.TheVariants.{Leaf}
use Rattle.cm_tool.specs.declared.fault.Fault.{Fault}
use Rattle.cm_tool.specs.declared.fault.Fault.TheVariants.{NotUtf8, TooLong, InlinesTooDeep, NoMemory}
use Rattle.cm_tool.specs.Document.{owners_of_bytes}
use Rattle.cm_tool.specs.FaultLines.{line_of}
use Rattle.cm_tool.specs.Reading.{ReadWhole, Refuses}
use Rattle.cm_tool.specs.Shown.{shown}

-- the line of the byte at this place, counted from 1: the number of lines up to that byte, which is the last of them
abbrev pub line_of_byte : (at : ℕ) → List ℕ → ℕ
line_of_byte at bytes = length (lines_of (take (at + 1) bytes))

-- the line belongs to this leaf
abbrev pub is_of_leaf : (leaf : ℕ) → Owner → Bool
is_of_leaf leaf (Leaf number) = number == leaf
is_of_leaf leaf _ = false

-- the first line of a leaf, counted from 1
abbrev pub first_line_of_leaf : (leaf : ℕ) → List Owner → Option ℕ
first_line_of_leaf leaf owners = position_from (is_of_leaf leaf) 1 owners

-- the line of a fault of these bytes: that of its byte, or the first one of its leaf. Any other fault has its line in its own text, or
-- none.
abbrev pub line_of_fault : Rules → List ℕ → Fault → Option ℕ
line_of_fault rules bytes (NotUtf8 at) = Some (line_of_byte at bytes)
line_of_fault rules bytes (TooLong at) = Some (line_of_byte at bytes)
line_of_fault rules bytes (InlinesTooDeep leaf) = first_line_of_leaf leaf (owners_of_bytes rules bytes)
line_of_fault rules bytes _ = None

-- reading these bytes ends without a fault, or with this one, which isn't that memory ran out
abbrev pub EndsWith : Option Fault → LimitsView → List ℕ → SourceView → SourceView → Type 0
EndsWith None limits bytes from left = ReadWhole limits bytes from left
EndsWith (Some NoMemory) limits bytes from left = ⊥
EndsWith (Some fault) limits bytes from left = Refuses fault limits bytes from left

-- this is the line of the fault, if there is one, with which reading these bytes ends
abbrev pub IsLineOfFault : Option ℕ → LimitsView → List ℕ → SourceView → SourceView → Type 0
IsLineOfFault line limits bytes from left =
    (fault : Option Fault) × EndsWith fault limits bytes from left × (line ≡ option_and_then (line_of_fault limits.rules bytes) fault)

-- What searching for the line of a job's fault returns, once these bytes have been read. Faults in a file of examples have none. If
-- memory runs out, no read has failed.
abbrev pub FindsLine : {E : Type 0} → Result (Option ℕ) E → Job → LimitsView → List ℕ → SourceView → SourceView → Type 0
FindsLine (Ok line) Examples limits bytes from left = line ≡ None
FindsLine (Ok line) _ limits bytes from left = IsLineOfFault line limits bytes from left
FindsLine (Err _) _ limits bytes from left = left.failed ≡ from.failed

-- the line that follows that of a fault: the name of the file, and the line in it, if there is one
abbrev pub place_line : (name : List ℕ) → (line : Option ℕ) → List ℕ
place_line name None = line_of (codes "in " ++ shown name)
place_line name (Some line) = line_of (codes "in " ++ shown name ++ codes ", line " ++ decimal line)
