use Rattle.std.proofs.Common.{◌∙◌, Some, drop, sym, ap}
use Rattle.cm_scan.specs.Scanned.{reading_of}
use Rattle.cm_scan.proofs.lemmas.spans.BacktickStrings.{span-none, span-is, span-content, no-span-later}
use Rattle.cm_scan.proofs.code_spans.code_span.Goals as goal

pub returns-then-start-at-clause-read : goal.returns-then-start-at-clause-read
returns-then-start-at-clause-read c = span-none c.args.text.now c.args.at c.after_run-start.result c.after_run-start.ensures.end c.if-start-at.true

pub returns-then-start-at-clause-content : goal.returns-then-start-at-clause-content
returns-then-start-at-clause-content c = span-content (drop c.args.at c.args.text.now) _ (returns-then-start-at-clause-read c)

pub returns-in_err-close-clause-read : goal.returns-in_err-close-clause-read
returns-in_err-close-clause-read c =
    ap (reading_of c.args.text.now) c.from_residual.ensures ∙ c.in_err-close.ensures.read
    ∙ span-is c.args.text.now c.args.at c.after_run-start.result c.after_run-start.ensures.end c.after_run-start.ensures.beyond c.if-start-at.false

pub returns-in_err-close-clause-content : goal.returns-in_err-close-clause-content
returns-in_err-close-clause-content c = span-content (drop c.args.at c.args.text.now) _ (returns-in_err-close-clause-read c)

pub returns-clause-read : goal.returns-clause-read
returns-clause-read c =
    ap (λ t. Some (record { text = t; rest = drop c.in_ok-close.end c.args.text.now })) c.range.ensures.value ∙ c.in_ok-close.ensures.read
    ∙ span-is c.args.text.now c.args.at c.after_run-start.result c.after_run-start.ensures.end c.after_run-start.ensures.beyond c.if-start-at.false

pub returns-clause-content : goal.returns-clause-content
returns-clause-content c = span-content (drop c.args.at c.args.text.now) _ (returns-clause-read c)

pub returns-then-start-at-clause-none_later : goal.returns-then-start-at-clause-none_later
returns-then-start-at-clause-none_later c = λ none later low same. no-span-later c.args.text.now c.args.at later low (returns-then-start-at-clause-read c) same

pub returns-in_err-close-clause-none_later : goal.returns-in_err-close-clause-none_later
returns-in_err-close-clause-none_later c = λ none later low same.
    no-span-later c.args.text.now c.args.at later low (sym (ap (reading_of c.args.text.now) none) ∙ returns-in_err-close-clause-read c) same
