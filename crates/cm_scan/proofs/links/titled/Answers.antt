use Rattle.std.proofs.Common.{◌≡◌, ◌∙◌, ap, drop, option_map, subst, Some, None}
use Rattle.cm_scan.specs.spans.Tags.{is_blank_next}
use Rattle.cm_scan.specs.inlines.Links.{after_line}
use Rattle.cm_scan.specs.Scanned.{definition_with}
use Rattle.cm_scan.proofs.lemmas.links.DefinitionParts.{gap-of, titled-no, titled-absent, titled-open, titled-some}
use Rattle.cm_scan.proofs.links.titled.Goals as goal

pub returns-then-not-is_blank_next-clause-read : goal.returns-then-not-is_blank_next-clause-read
returns-then-not-is_blank_next-clause-read c = λ l d.
    titled-no l d (drop c.args.at c.args.text.now) c.is_blank_next.result (c.is_blank_next.ensures.blank ∙ ap (λ t. is_blank_next (drop c.args.at t)) c.as_bytes-bytes.ensures.value) c.if-not-is_blank_next.true

pub returns-in_err-title-clause-read : goal.returns-in_err-title-clause-read
returns-in_err-title-clause-read c = λ l d.
    ap (option_map (λ r. definition_with l d r.0.now (drop r.1 c.args.text.now))) c.from_residual.ensures
    ∙ titled-absent l d (drop c.args.at c.args.text.now) (drop c.after_gap.result c.args.text.now) c.is_blank_next.result
    (c.is_blank_next.ensures.blank ∙ ap (λ t. is_blank_next (drop c.args.at t)) c.as_bytes-bytes.ensures.value) c.if-not-is_blank_next.false
    (gap-of c.args.text.now c.as_bytes-bytes.result.now c.args.at c.after_gap.result c.as_bytes-bytes.ensures.value c.after_gap.ensures.skipped) c.in_err-title.ensures.read

pub returns-in_err-end-clause-read : goal.returns-in_err-end-clause-read
returns-in_err-end-clause-read c = λ l d.
    ap (option_map (λ r. definition_with l d r.0.now (drop r.1 c.args.text.now))) c.from_residual-in_err-end.ensures
    ∙ titled-open l d (drop c.args.at c.args.text.now) (drop c.after_gap.result c.args.text.now) c.is_blank_next.result (record { text = c.in_ok-title.title.now; rest = drop c.in_ok-title.end c.args.text.now })
    (c.is_blank_next.ensures.blank ∙ ap (λ t. is_blank_next (drop c.args.at t)) c.as_bytes-bytes.ensures.value) c.if-not-is_blank_next.false
    (gap-of c.args.text.now c.as_bytes-bytes.result.now c.args.at c.after_gap.result c.as_bytes-bytes.ensures.value c.after_gap.ensures.skipped) c.in_ok-title.ensures.read
    (subst (λ t. None ≡ after_line (drop c.in_ok-title.end t)) c.as_bytes-bytes.ensures.value c.in_err-end.ensures.ended)

pub returns-clause-read : goal.returns-clause-read
returns-clause-read c = λ l d.
    titled-some l d (drop c.args.at c.args.text.now) (drop c.after_gap.result c.args.text.now) (drop c.in_ok-end.end c.args.text.now) c.is_blank_next.result
    (record { text = c.in_ok-title.title.now; rest = drop c.in_ok-title.end c.args.text.now })
    (c.is_blank_next.ensures.blank ∙ ap (λ t. is_blank_next (drop c.args.at t)) c.as_bytes-bytes.ensures.value) c.if-not-is_blank_next.false
    (gap-of c.args.text.now c.as_bytes-bytes.result.now c.args.at c.after_gap.result c.as_bytes-bytes.ensures.value c.after_gap.ensures.skipped) c.in_ok-title.ensures.read
    (subst (λ t. Some (drop c.in_ok-end.end t) ≡ after_line (drop c.in_ok-title.end t)) c.as_bytes-bytes.ensures.value c.in_ok-end.ensures.ended)
