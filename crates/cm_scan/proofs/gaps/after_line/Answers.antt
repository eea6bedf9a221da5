use Rattle.std.proofs.Common.{arith}
use Rattle.std.proofs.lemmas.Str.{IsCharBoundary-after_ascii}
use Rattle.cm_scan.proofs.lemmas.texts.GapLemmas.{line-feed, line-other, line-end}
use Rattle.cm_scan.proofs.gaps.after_line.Goals as goal

pub returns-then-end-text-clause-ended : goal.returns-then-end-text-clause-ended
returns-then-end-text-clause-ended c = line-end c.args.text.now c.args.at c.after_blanks-end.result c.after_blanks-end.ensures.skipped (omega (arith, c.if-end-text.true))

pub returns-then-text-end-eq10-clause-ended : goal.returns-then-text-end-eq10-clause-ended
returns-then-text-end-eq10-clause-ended c =
    line-feed c.args.text.now c.args.at c.after_blanks-end.result c.after_blanks-end.ensures.skipped (omega (arith, c.if-end-text.false, c.after_blanks-end.ensures.within)) c.if-text-end-eq10.true

pub returns-clause-ended : goal.returns-clause-ended
returns-clause-ended c =
    line-other c.args.text.now c.args.at c.after_blanks-end.result c.after_blanks-end.ensures.skipped (omega (arith, c.if-end-text.false, c.after_blanks-end.ensures.within)) c.if-text-end-eq10.false

pub returns-then-text-end-eq10-clause-boundary : goal.returns-then-text-end-eq10-clause-boundary
returns-then-text-end-eq10-clause-boundary c = λ utf8 at.
    IsCharBoundary-after_ascii c.args.text.now c.after_blanks-end.result utf8 (omega (arith, c.if-end-text.false, c.after_blanks-end.ensures.within)) (omega (arith, c.if-text-end-eq10.true))
