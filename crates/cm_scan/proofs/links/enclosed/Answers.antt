use Rattle.std.proofs.Common.{◌∙◌, ◌==◌, ◌+◌, false, ap, subst, get_or, ◌<◌, length, arith}
use Rattle.std.proofs.lemmas.Str.{IsCharBoundary-after_ascii, IsCharBoundary-before_ascii}
use Rattle.cm_scan.specs.inlines.Links.{keep_if, up_to_closing}
use Rattle.cm_scan.specs.Scanned.{reading_of}
use Rattle.cm_scan.specs.steps.LinkSteps.{fits, is_barred}
use Rattle.cm_scan.proofs.lemmas.texts.ScannerAnswers.{enclosed-none, enclosed-some, part-at}
use Rattle.cm_scan.proofs.links.enclosed.Goals as goal

pub returns-in_err-end-clause-read : goal.returns-in_err-end-clause-read
returns-in_err-end-clause-read c =
    ap (reading_of c.args.text.now) c.from_residual.ensures
    ∙ enclosed-none (λ t. keep_if (fits c.args.bounds.most c.args.bounds.blank_lines) (up_to_closing (λ x. x == c.args.bounds.close) (is_barred c.args.bounds.open c.args.bounds.one_line) false t))
    c.args.text.now c.as_bytes.result.now c.args.at c.as_bytes.ensures.value c.in_err-end.ensures.read

pub range-requires-clause-start_boundary : goal.range-requires-clause-start_boundary
range-requires-clause-start_boundary c = λ _. IsCharBoundary-after_ascii c.args.text.now c.args.at c.utf8.text c.requires.within c.requires.ascii.0

pub returns-clause-read : goal.returns-clause-read
returns-clause-read c =
    enclosed-some (λ t. keep_if (fits c.args.bounds.most c.args.bounds.blank_lines) (up_to_closing (λ x. x == c.args.bounds.close) (is_barred c.args.bounds.open c.args.bounds.one_line) false t))
    c.args.text.now c.as_bytes.result.now c.range.result.now c.args.at c.in_ok-end.end c.as_bytes.ensures.value c.range.ensures.value c.in_ok-end.ensures.read

pub returns-clause-boundary : goal.returns-clause-boundary
returns-clause-boundary c =
    let close : get_or c.as_bytes.result.now c.in_ok-end.end 0 < 128 = omega (arith, c.in_ok-end.ensures.close, c.requires.ascii.1) in
    let here : get_or c.args.text.now c.in_ok-end.end 0 < 128 = subst (λ t. get_or t c.in_ok-end.end 0 < 128) c.as_bytes.ensures.value close in
    IsCharBoundary-after_ascii c.args.text.now c.in_ok-end.end c.utf8.text (omega (arith, c.in_ok-end.ensures.within.1, c.as_bytes.ensures.len)) here

pub returns-clause-place : goal.returns-clause-place
returns-clause-place c =
    let text = c.args.text.now in
    let end = c.in_ok-end.end in
    let inside = c.in_ok-end.ensures.within in
    let within : end < length text = omega (arith, inside.1, c.as_bytes.ensures.len) in
    let close : get_or c.as_bytes.result.now end 0 < 128 = omega (arith, c.in_ok-end.ensures.close, c.requires.ascii.1) in
    let here : get_or text end 0 < 128 = subst (λ t. get_or t end 0 < 128) c.as_bytes.ensures.value close in
    part-at text c.range.result.now (c.args.at + 1) end c.range.ensures.value inside.0
    (IsCharBoundary-after_ascii text c.args.at c.utf8.text c.requires.within c.requires.ascii.0) (IsCharBoundary-before_ascii text end within here)
