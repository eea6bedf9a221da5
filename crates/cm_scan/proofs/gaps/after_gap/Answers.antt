use Rattle.std.proofs.Common.{◌∙◌, sym, arith}
use Rattle.std.proofs.lemmas.Str.{IsCharBoundary-after_ascii}
use Rattle.cm_scan.proofs.lemmas.texts.GapLemmas.{gap-feed, gap-other, gap-end}
use Rattle.cm_scan.proofs.gaps.after_gap.Goals.{else-end-text-via-then-end-text+else-text-end-eq10, else-end-text-via-else-end-text}
use Rattle.cm_scan.proofs.gaps.after_gap.Goals as goal

pub returns-then-text-end-eq10-clause-skipped : goal.returns-then-text-end-eq10-clause-skipped
returns-then-text-end-eq10-clause-skipped c =
    c.after_blanks.ensures.skipped
    ∙ sym (gap-feed c.args.text.now c.args.at c.after_blanks-end.result c.after_blanks-end.ensures.skipped c.if-end-text.true (omega (arith, c.if-text-end-eq10.true)))

pub returns-clause-skipped : goal.returns-clause-skipped
returns-clause-skipped c = sym (elim c.else-end-text.branch [
  | else-end-text-via-then-end-text+else-text-end-eq10 w ↦ gap-other c.args.text.now c.args.at c.after_blanks-end.result c.after_blanks-end.ensures.skipped w.if-end-text.true w.if-text-end-eq10.false
  | else-end-text-via-else-end-text w ↦ gap-end c.args.text.now c.args.at c.after_blanks-end.result c.after_blanks-end.ensures.skipped (omega (arith, w.if-end-text.false))
])

pub returns-then-text-end-eq10-clause-boundary : goal.returns-then-text-end-eq10-clause-boundary
returns-then-text-end-eq10-clause-boundary c = λ utf8 at.
    c.after_blanks.ensures.boundary utf8 (IsCharBoundary-after_ascii c.args.text.now c.after_blanks-end.result utf8 c.if-end-text.true (omega (arith, c.if-text-end-eq10.true)))
