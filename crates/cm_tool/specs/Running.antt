-- What running a task, or reporting why there is none, writes and returns.
use Rattle.std.specs.Prelude.{◌≡◌, ℕ, List, [], ◌∷◌, ◌++◌, Result, Ok, Err, codes, string_bytes, ◌⊎◌}
use Rattle.cm_text.specs.DeviceViews.{SinkView, SourceView}
use Rattle.cm_text.specs.Limits.{LimitsView}
use Rattle.cm_text.specs.Lines.{text_of}
use Rattle.cm_text.specs.Writing.{IsUnwritten, Wrote, WroteFront}
use Rattle.cm_tool.specs.Writing.{Converts, Lists, WritesJson}
use Rattle.cm_tool.specs.Reporting.{WritesReport}
use Rattle.cm_tool.specs.Rewriting.{Rewrites}
use Rattle.cm_tool.specs.declared.fault.Fault.{Fault}
use Rattle.cm_tool.specs.declared.fault.Fault.TheVariants as faults
use Rattle.cm_tool.specs.declared.fault.Fault.TheVariants.{BadExampleFile, ReadFailed, WriteFailed}
use Rattle.cm_tool.specs.ExampleFiles.{Example, examples_of, opening_line}
use Rattle.cm_tool.specs.FaultLines.{fault_text, line_of}
use Rattle.cm_tool.specs.Reading.{IsWhole, RefusesBy, fault_of_text, settled_of_text}
use Rattle.cm_tool.specs.Shown.{shown}
use Rattle.cm_command.specs.declared.job.Job.{Job}
use Rattle.cm_command.specs.declared.job.Job.TheVariants.{Render, Tree, TreeJson, Rewrite, Examples}
use Rattle.cm_command.specs.declared.job.Stop.{Stop}
use Rattle.cm_command.specs.declared.job.Stop.TheVariants.{Help, Wrong, NoMemory}

-- a prefix of the text was written, up to a failed write
abbrev pub WroteSome : SinkView → SinkView → List ℕ → Type 0
WroteSome old new text = (written : ℕ) × WroteFront old new text written

-- the text was written, or a prefix of it up to a failed write
abbrev pub Offered : SinkView → SinkView → List ℕ → Type 0
Offered old new text = Wrote old new text 0 ⊎ WroteSome old new text

-- the same of the line of a fault
abbrev pub OfferedLine : Fault → SinkView → SinkView → Type 0
OfferedLine fault old new = Offered old new (line_of (fault_text fault))

-- The exit status is 0 after success, and 1 after a fault.
abbrev pub status_of : Result ℕ Fault → ℕ
status_of (Ok _) = 0
status_of (Err _) = 1

-- The error writer gets the line of a fault, and otherwise nothing.
abbrev pub Reports : Result ℕ Fault → SinkView → SinkView → Type 0
Reports (Ok _) old new = IsUnwritten old new
Reports (Err fault) old new = OfferedLine fault old new

-- what doing a job returns once these bytes have been read, and what has been written then
abbrev pub Does : Job → Result ℕ Fault → LimitsView → List ℕ → SourceView → SourceView → SinkView → SinkView → Type 0
Does Render answer limits bytes from left old new = Converts answer limits bytes from left old new
Does Tree answer limits bytes from left old new = Lists answer limits bytes from left old new
Does TreeJson answer limits bytes from left old new = WritesJson answer limits bytes from left old new
Does Rewrite answer limits bytes from left old new = Rewrites answer limits bytes from left old new
Does Examples answer limits bytes from left old new = WritesReport answer limits bytes from left old new

-- the job returns this, and the exit status and the error writer report it
pub record RunsTo (answer : Result ℕ Fault) (status : ℕ) (job : Job) (limits : LimitsView) (bytes : List ℕ) (from left : SourceView) (old new old-errors new-errors : SinkView) : Type 0 where
  pub does : Does job answer limits bytes from left old new
  pub told : status ≡ status_of answer
  pub reports : Reports answer old-errors new-errors

-- Help is written, with status 0, or the failure to write it is reported, with 1. A wrong command line is
-- reported with 2, and exhausted memory with 1.
abbrev pub Tells : Stop → ℕ → SinkView → SinkView → SinkView → SinkView → Type 0
Tells (Help text) status old new old-errors new-errors =
    ((status ≡ 0) × Wrote old new (string_bytes text) 0 × IsUnwritten old-errors new-errors)
    ⊎ ((status ≡ 1) × (written : ℕ) × WroteFront old new (string_bytes text) written × OfferedLine (WriteFailed written) old-errors new-errors)
Tells (Wrong text) status old new old-errors new-errors =
    (status ≡ 2) × IsUnwritten old new × Offered old-errors new-errors (string_bytes text)
Tells NoMemory status old new old-errors new-errors =
    (status ≡ 1) × IsUnwritten old new × OfferedLine faults.NoMemory old-errors new-errors

-- the lines about a file that can't be opened: the fault, and then its name and the reason
abbrev pub unopened_lines : (name reason : List ℕ) → List ℕ
unopened_lines name reason = line_of (fault_text ReadFailed) ++ line_of (codes "cannot open " ++ shown name ++ codes ": " ++ shown reason)

-- the errors get these lines, or that of exhausted memory
abbrev pub TellsUnopened : (name reason : List ℕ) → SinkView → SinkView → Type 0
TellsUnopened name reason old new = Offered old new (unopened_lines name reason) ⊎ OfferedLine faults.NoMemory old new

-- the line about a file without examples
abbrev pub no_example_line : List ℕ
no_example_line = line_of (codes "no example found; an example starts with the line " ++ opening_line)

-- the errors get that line if there is no example, and otherwise nothing
abbrev pub TellsIfNone : List Example → SinkView → SinkView → Type 0
TellsIfNone [] old new = Offered old new no_example_line
TellsIfNone (_ ∷ _) old new = IsUnwritten old new

-- What reporting a file without examples returns: the file has been read to its end, and its examples are found; or why they aren't.
abbrev pub TellsNoExample : {A : Type 0} → Result A Fault → LimitsView → List ℕ → SourceView → SourceView → SinkView → SinkView → Type 0
TellsNoExample (Ok _) limits bytes from left old new =
    IsWhole (fault_of_text limits bytes) from left × (examples : List Example) × (examples_of (text_of bytes) ≡ Ok examples) × TellsIfNone examples old new
TellsNoExample (Err (BadExampleFile line)) limits bytes from left old new =
    IsWhole (fault_of_text limits bytes) from left × (examples_of (text_of bytes) ≡ Err line) × IsUnwritten old new
TellsNoExample (Err fault) limits bytes from left old new =
    RefusesBy (settled_of_text limits bytes) (fault_of_text limits bytes) fault from left × IsUnwritten old new
