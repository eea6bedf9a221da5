use Rattle.std.proofs.Common.{◌≡◌, ◌∙◌, Some, None, drop, sym, ap, arith}
use Rattle.cm_scan.specs.spans.RawHtml.{raw_html}
use Rattle.cm_scan.specs.Scanned.{reading_of, whole_of}
use Rattle.cm_scan.proofs.lemmas.spans.RawHtmlByFirstBytes.{html-cut, cut-boundary, whole-some}
use Rattle.cm_scan.proofs.inline_html.raw_html_by.Goals as goal

pub overflow_sub-end : goal.overflow_sub-end
overflow_sub-end c =
    let found : raw_html c.args.rules (drop c.args.at c.args.text.now) ≡ Some c.in_ok-rest.rest.now = sym (c.in_ok-rest.ensures.read ∙ ap (raw_html c.args.rules) c.bytes_from.ensures.rest) in
    omega (arith, (html-cut c.args.rules c.args.text.now c.args.at c.in_ok-rest.rest.now c.requires.0 found).high)

pub range-requires-clause-start_le_end : goal.range-requires-clause-start_le_end
range-requires-clause-start_le_end c =
    let found : raw_html c.args.rules (drop c.args.at c.args.text.now) ≡ Some c.in_ok-rest.rest.now = sym (c.in_ok-rest.ensures.read ∙ ap (raw_html c.args.rules) c.bytes_from.ensures.rest) in
    omega (arith, (html-cut c.args.rules c.args.text.now c.args.at c.in_ok-rest.rest.now c.requires.0 found).low)

pub range-requires-clause-end_boundary : goal.range-requires-clause-end_boundary
range-requires-clause-end_boundary c =
    let found : raw_html c.args.rules (drop c.args.at c.args.text.now) ≡ Some c.in_ok-rest.rest.now = sym (c.in_ok-rest.ensures.read ∙ ap (raw_html c.args.rules) c.bytes_from.ensures.rest) in
    cut-boundary c.args.text.now c.args.at c.in_ok-rest.rest.now c.utf8.text (html-cut c.args.rules c.args.text.now c.args.at c.in_ok-rest.rest.now c.requires.0 found)

pub returns-clause-read : goal.returns-clause-read
returns-clause-read c =
    let found : raw_html c.args.rules (drop c.args.at c.args.text.now) ≡ Some c.in_ok-rest.rest.now = sym (c.in_ok-rest.ensures.read ∙ ap (raw_html c.args.rules) c.bytes_from.ensures.rest) in
    whole-some c.args.rules c.args.text.now c.range.result.now c.args.at c.in_ok-rest.rest.now c.requires.0
    (html-cut c.args.rules c.args.text.now c.args.at c.in_ok-rest.rest.now c.requires.0 found) found c.range.ensures.value

pub returns-clause-boundary : goal.returns-clause-boundary
returns-clause-boundary c =
    let found : raw_html c.args.rules (drop c.args.at c.args.text.now) ≡ Some c.in_ok-rest.rest.now = sym (c.in_ok-rest.ensures.read ∙ ap (raw_html c.args.rules) c.bytes_from.ensures.rest) in
    cut-boundary c.args.text.now c.args.at c.in_ok-rest.rest.now c.utf8.text (html-cut c.args.rules c.args.text.now c.args.at c.in_ok-rest.rest.now c.requires.0 found)

pub returns-in_err-rest-clause-read : goal.returns-in_err-rest-clause-read
returns-in_err-rest-clause-read c =
    let none : raw_html c.args.rules (drop c.args.at c.args.text.now) ≡ None = sym (c.in_err-rest.ensures.read ∙ ap (raw_html c.args.rules) c.bytes_from.ensures.rest) in
    ap (reading_of c.args.text.now) c.from_residual.ensures ∙ sym (ap (whole_of (drop c.args.at c.args.text.now)) none)
