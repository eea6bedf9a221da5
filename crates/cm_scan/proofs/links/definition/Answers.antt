use Rattle.std.proofs.Common.{◌∙◌, ◌+◌, ap, drop, option_map, subst, sym, arith, Some, None}
use Rattle.std.specs.Str.{IsCharBoundary}
use Rattle.std.proofs.lemmas.Str.{IsCharBoundary-after_ascii}
use Rattle.cm_scan.specs.Words.{begins_with}
use Rattle.cm_scan.specs.Scanned.{definition_with}
use Rattle.cm_scan.proofs.lemmas.texts.ScannerAnswers.{begins-at}
use Rattle.cm_scan.proofs.lemmas.links.DefinitionParts.{gap-of, no-label, label-alone, no-destination, whole-definition}
use Rattle.cm_scan.proofs.links.definition.Goals as goal

pub returns-in_err-label-clause-read : goal.returns-in_err-label-clause-read
returns-in_err-label-clause-read c =
    ap (option_map (λ r. definition_with r.0.label.now r.0.dest.now r.0.title.now (drop r.1 c.args.text.now))) c.from_residual.ensures
    ∙ no-label (drop c.args.at c.args.text.now) c.in_err-label.ensures.read

pub returns-then-not-is_next-clause-read : goal.returns-then-not-is_next-clause-read
returns-then-not-is_next-clause-read c =
    label-alone (drop c.args.at c.args.text.now) (record { text = c.in_ok-label.label.now; rest = drop c.in_ok-label.colon c.args.text.now }) c.is_next.result c.in_ok-label.ensures.read
    (c.is_next.ensures.next ∙ ap (λ t. begins_with 58 (drop c.in_ok-label.colon t)) c.as_bytes.ensures.value) c.if-not-is_next.true

pub destination-requires : goal.destination-requires
destination-requires c =
    let next = begins-at 58 c.args.text.now c.in_ok-label.colon
    (ap (λ t. begins_with 58 (drop c.in_ok-label.colon t)) (sym c.as_bytes.ensures.value) ∙ sym c.is_next.ensures.next ∙ c.if-not-is_next.false) in
    let after : IsCharBoundary c.args.text.now (c.in_ok-label.colon + 1) = IsCharBoundary-after_ascii c.args.text.now c.in_ok-label.colon c.utf8.text next.0 (omega (arith, next.2)) in
    subst (λ t. IsCharBoundary t c.after_gap.result) c.as_bytes-2.ensures.value
    (c.after_gap.ensures.boundary c.as_bytes-2.ensures.utf8 (subst (λ t. IsCharBoundary t (c.in_ok-label.colon + 1)) (sym c.as_bytes-2.ensures.value) after))

pub returns-in_err-dest-clause-read : goal.returns-in_err-dest-clause-read
returns-in_err-dest-clause-read c =
    ap (option_map (λ r. definition_with r.0.label.now r.0.dest.now r.0.title.now (drop r.1 c.args.text.now))) c.from_residual-in_err-dest.ensures
    ∙ no-destination (drop c.args.at c.args.text.now) c.args.text.now c.in_ok-label.label.now c.in_ok-label.colon c.after_gap.result c.is_next.result c.in_ok-label.ensures.read
    (c.is_next.ensures.next ∙ ap (λ t. begins_with 58 (drop c.in_ok-label.colon t)) c.as_bytes.ensures.value) c.if-not-is_next.false
    (gap-of c.args.text.now c.as_bytes-2.result.now (c.in_ok-label.colon + 1) c.after_gap.result c.as_bytes-2.ensures.value c.after_gap.ensures.skipped) c.in_err-dest.ensures.read

pub returns-in_err-title-clause-read : goal.returns-in_err-title-clause-read
returns-in_err-title-clause-read c =
    ap (option_map (λ r. definition_with r.0.label.now r.0.dest.now r.0.title.now (drop r.1 c.args.text.now))) c.from_residual-in_err-title.ensures
    ∙ whole-definition (drop c.args.at c.args.text.now) c.args.text.now c.in_ok-label.label.now c.in_ok-label.colon c.after_gap.result c.is_next.result
    (record { text = c.in_ok-dest.dest.now; rest = drop c.in_ok-dest.end c.args.text.now }) None c.in_ok-label.ensures.read
    (c.is_next.ensures.next ∙ ap (λ t. begins_with 58 (drop c.in_ok-label.colon t)) c.as_bytes.ensures.value) c.if-not-is_next.false
    (gap-of c.args.text.now c.as_bytes-2.result.now (c.in_ok-label.colon + 1) c.after_gap.result c.as_bytes-2.ensures.value c.after_gap.ensures.skipped) c.in_ok-dest.ensures.read
    (c.in_err-title.ensures.read c.in_ok-label.label.now c.in_ok-dest.dest.now)

pub returns-clause-read : goal.returns-clause-read
returns-clause-read c =
    whole-definition (drop c.args.at c.args.text.now) c.args.text.now c.in_ok-label.label.now c.in_ok-label.colon c.after_gap.result c.is_next.result
    (record { text = c.in_ok-dest.dest.now; rest = drop c.in_ok-dest.end c.args.text.now }) (Some (definition_with c.in_ok-label.label.now c.in_ok-dest.dest.now c.in_ok-title.title.now (drop c.in_ok-title.end c.args.text.now)))
    c.in_ok-label.ensures.read
    (c.is_next.ensures.next ∙ ap (λ t. begins_with 58 (drop c.in_ok-label.colon t)) c.as_bytes.ensures.value) c.if-not-is_next.false
    (gap-of c.args.text.now c.as_bytes-2.result.now (c.in_ok-label.colon + 1) c.after_gap.result c.as_bytes-2.ensures.value c.after_gap.ensures.skipped) c.in_ok-dest.ensures.read
    (c.in_ok-title.ensures.read c.in_ok-label.label.now c.in_ok-dest.dest.now)
