-- Writing the report of a source's examples.
use Rattle.std.proofs.Common.{◌≡◌, ◌∙◌, ℕ, List, [], ◌∷◌, refl, sym, ap, subst}
use Rattle.std.specs.Prelude.{Result, Ok, Err}
use Rattle.cm_text.specs.DeviceViews.{SinkView, SourceView}
use Rattle.cm_text.specs.Limits.{LimitsView}
use Rattle.cm_text.specs.Lines.{text_of}
use Rattle.cm_text.specs.Rules.{Rules}
use Rattle.cm_text.specs.Writing.{Wrote, WroteFront}
use Rattle.cm_tool.specs.declared.fault.Fault.{Fault}
use Rattle.cm_tool.specs.declared.fault.Fault.TheVariants.{WriteFailed}
use Rattle.cm_tool.specs.ExampleFiles.{DifferenceView, ReportView, report_on, verdict_of}
use Rattle.cm_tool.specs.Reading.{IsWhole, fault_of_text}
use Rattle.cm_tool.specs.Reporting.{IsReported, WritesReport, report_text}

-- the report of what was read
pub reported : (limits : LimitsView) (rules : Rules) (bytes text : List ℕ) (from left : SourceView) (report : ReportView)
    → IsWhole (fault_of_text limits bytes) from left → text ≡ text_of bytes → rules ≡ limits.rules → Ok report ≡ report_on rules text
    → IsReported limits bytes from left report
reported limits rules bytes text from left report whole text_is rules_are is = record {
  whole = whole;
  is = ap (λ r. report_on r (text_of bytes)) (sym rules_are) ∙ ap (report_on rules) (sym text_is) ∙ sym is;
}

-- once it has been written, the answer is its verdict
pub judged : (limits : LimitsView) (bytes : List ℕ) (from left : SourceView) (old new : SinkView) (report : ReportView) (answer : Result ℕ Fault)
    → IsReported limits bytes from left report → Wrote old new (report_text report) 0 → answer ≡ verdict_of report
    → WritesReport answer limits bytes from left old new
judged limits bytes from left old new report answer is wrote answer_is =
    subst (λ a. WritesReport a limits bytes from left old new) (sym answer_is) (go report.differ refl)
  where
    go : (ds : List DifferenceView) → ds ≡ report.differ → WritesReport (verdict_of (record { total = report.total; agree = report.agree; differ = ds })) limits bytes from left old new
    go [] is_so = (report, is, wrote, ap (λ ds. verdict_of (record { total = report.total; agree = report.agree; differ = ds })) is_so)
    go (d ∷ ds) is_so = (report, is, wrote, ap (λ ds. verdict_of (record { total = report.total; agree = report.agree; differ = ds })) is_so)

-- what went out is the report
pub wrote_report : (old new : SinkView) (bytes text : List ℕ) → bytes ≡ text → Wrote old new bytes 0 → Wrote old new text 0
wrote_report old new bytes text is wrote = subst (λ t. Wrote old new t 0) is wrote

-- or a prefix of it
pub lost_report : (limits : LimitsView) (read : List ℕ) (from left : SourceView) (old new : SinkView) (bytes : List ℕ) (report : ReportView) (written : ℕ)
    → IsReported limits read from left report → bytes ≡ report_text report → WroteFront old new bytes written
    → WritesReport (Err (WriteFailed written)) limits read from left old new
lost_report limits read from left old new bytes report written is same wrote =
    (report, is, subst (λ t. WroteFront old new t written) same wrote)
