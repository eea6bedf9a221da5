-- The report of a source's examples, as it is written.
use Rattle.std.specs.Prelude.{◌≡◌, ℕ, List, ◌++◌, Result, Ok, Err, codes, flat_map, ◌⊎◌}
use Rattle.std.specs.Fmt.{decimal}
use Rattle.cm_text.specs.DeviceViews.{SinkView, SourceView}
use Rattle.cm_text.specs.Limits.{LimitsView}
use Rattle.cm_text.specs.Lines.{text_of}
use Rattle.cm_text.specs.Writing.{IsUnwritten, Wrote, WroteFront}
use Rattle.cm_tool.specs.declared.fault.Fault.{Fault}
use Rattle.cm_tool.specs.declared.fault.Fault.TheVariants.{NoMemory, WriteFailed, ExampleDiffers}
use Rattle.cm_tool.specs.ExampleFiles.{DifferenceView, ReportView, report_on, verdict_of}
use Rattle.cm_tool.specs.Reading.{IsWhole, RefusesBy, fault_of_text, settled_of_text}

-- the lines about an example that differs
abbrev pub difference_text : DifferenceView → List ℕ
difference_text d = codes "example " ++ decimal d.number ++ codes "\nexpected:\n" ++ d.expected ++ codes "got:\n" ++ d.got

-- The report of a file of examples, as it is written: each example that differs, and how many agree.
abbrev pub report_text : ReportView → List ℕ
report_text report = flat_map difference_text report.differ ++ decimal report.agree ++ codes " of " ++ decimal report.total ++ codes " agree\n"

-- the text has been read to its end, and this is the report of its examples
pub record IsReported (limits : LimitsView) (bytes : List ℕ) (from left : SourceView) (report : ReportView) : Type 0 where
  pub whole : IsWhole (fault_of_text limits bytes) from left
  pub is : report_on limits.rules (text_of bytes) ≡ Ok report

-- all of the report was written, and this is its verdict
abbrev pub Judges : Result ℕ Fault → LimitsView → List ℕ → SourceView → SourceView → SinkView → SinkView → Type 0
Judges answer limits bytes from left old new =
    (report : ReportView) × IsReported limits bytes from left report × Wrote old new (report_text report) 0 × (answer ≡ verdict_of report)

-- there is no text, or there is no report of it
abbrev pub Unreported : Fault → LimitsView → List ℕ → SourceView → SourceView → Type 0
Unreported fault limits bytes from left =
    RefusesBy (settled_of_text limits bytes) (fault_of_text limits bytes) fault from left
    ⊎ (IsWhole (fault_of_text limits bytes) from left × (report_on limits.rules (text_of bytes) ≡ Err fault))

-- What writing the report of a source's examples returns, and what has been written then: the verdict, once all of the report has been
-- written; or why a write failed or there is no report.
abbrev pub WritesReport : Result ℕ Fault → LimitsView → List ℕ → SourceView → SourceView → SinkView → SinkView → Type 0
WritesReport (Ok total) limits bytes from left old new = Judges (Ok total) limits bytes from left old new
WritesReport (Err (ExampleDiffers number)) limits bytes from left old new = Judges (Err (ExampleDiffers number)) limits bytes from left old new
WritesReport (Err (WriteFailed written)) limits bytes from left old new =
    (report : ReportView) × IsReported limits bytes from left report × WroteFront old new (report_text report) written
WritesReport (Err NoMemory) limits bytes from left old new = (left.failed ≡ from.failed) × IsUnwritten old new
WritesReport (Err fault) limits bytes from left old new = Unreported fault limits bytes from left × IsUnwritten old new
