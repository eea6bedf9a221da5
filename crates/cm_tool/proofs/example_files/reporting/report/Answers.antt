use Rattle.std.proofs.Common.{◌∙◌, ap, string_bytes}
use Rattle.std.proofs.lemmas.Result.{err_from_is_err_and}
use Rattle.cm_tool.specs.ExampleFiles.{report_on, report_view}
use Rattle.cm_tool.proofs.lemmas.ReportingLemmas.{judged, lost_report, reported, wrote_report}
use Rattle.cm_tool.proofs.example_files.reporting.report.Goals as goal

pub returns-in_err-write_all : goal.returns-in_err-write_all
returns-in_err-write_all g c =
    let p = err_from_is_err_and c.from_residual-in_err-write_all.result c.from_residual-in_err-write_all.ensures.1 in
    let read = c.in_ok-text.ensures in
    let view = report_view c.in_ok-report.report in
    let bytes = read.0 in
    let is = reported c.args.limits c.rules.result bytes (string_bytes c.in_ok-text.text) _ _ view read.2.0 read.2.1 c.rules.ensures
    (c.in_ok-report.ensures ∙ ap (report_on c.rules.result) c.deref.ensures) in
    rw (p.1, p.2) (bytes, read.1, lost_report c.args.limits bytes _ _ _ _ c.as_bytes.result.now view c.in_err-write_all.field-0.0.written is (c.as_bytes.ensures.value ∙ c.in_ok-output.ensures) c.in_err-write_all.ensures.wrote)

pub returns : goal.returns
returns g c =
    let read = c.in_ok-text.ensures in
    let view = report_view c.in_ok-report.report in
    let bytes = read.0 in
    let is = reported c.args.limits c.rules.result bytes (string_bytes c.in_ok-text.text) _ _ view read.2.0 read.2.1 c.rules.ensures
    (c.in_ok-report.ensures ∙ ap (report_on c.rules.result) c.deref.ensures) in
    let wrote = wrote_report _ _ c.as_bytes.result.now _ (c.as_bytes.ensures.value ∙ c.in_ok-output.ensures) c.in_ok-write_all.ensures.wrote in
    (bytes, read.1, judged c.args.limits bytes _ _ _ _ view c.verdict.result is wrote c.verdict.ensures)
