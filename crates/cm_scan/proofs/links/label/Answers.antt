use Rattle.std.proofs.Common.{◌∙◌, ap, drop}
use Rattle.cm_scan.specs.Words.{begins_with}
use Rattle.cm_scan.specs.Scanned.{reading_of}
use Rattle.cm_scan.proofs.lemmas.texts.ScannerAnswers.{label-not_next, label-absent, label-blank, label-some}
use Rattle.cm_scan.proofs.links.label.Goals as goal

pub returns-then-not-is_next-clause-read : goal.returns-then-not-is_next-clause-read
returns-then-not-is_next-clause-read c =
    label-not_next c.args.text.now c.args.at c.is_next.result (c.is_next.ensures.next ∙ ap (λ t. begins_with 91 (drop c.args.at t)) c.as_bytes.ensures.value) c.if-not-is_next.true

pub returns-in_err-label-clause-read : goal.returns-in_err-label-clause-read
returns-in_err-label-clause-read c =
    ap (reading_of c.args.text.now) c.from_residual.ensures
    ∙ label-absent c.args.text.now c.args.at c.is_next.result (c.is_next.ensures.next ∙ ap (λ t. begins_with 91 (drop c.args.at t)) c.as_bytes.ensures.value) c.if-not-is_next.false
    c.in_err-label.ensures.read

pub returns-then-is_blank-clause-read : goal.returns-then-is_blank-clause-read
returns-then-is_blank-clause-read c =
    label-blank c.args.text.now c.args.at c.is_next.result c.is_blank.result (record { text = c.in_ok-label.label.now; rest = drop c.in_ok-label.end c.args.text.now })
    (c.is_next.ensures.next ∙ ap (λ t. begins_with 91 (drop c.args.at t)) c.as_bytes.ensures.value) c.if-not-is_next.false c.in_ok-label.ensures.read c.is_blank.ensures.blank c.if-is_blank.true

pub returns-clause-read : goal.returns-clause-read
returns-clause-read c =
    label-some c.args.text.now c.args.at c.is_next.result c.is_blank.result (record { text = c.in_ok-label.label.now; rest = drop c.in_ok-label.end c.args.text.now })
    (c.is_next.ensures.next ∙ ap (λ t. begins_with 91 (drop c.args.at t)) c.as_bytes.ensures.value) c.if-not-is_next.false c.in_ok-label.ensures.read c.is_blank.ensures.blank c.if-is_blank.false
