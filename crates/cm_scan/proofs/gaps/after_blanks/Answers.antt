use Rattle.std.proofs.Common.{◌∙◌, sym, arith}
use Rattle.std.proofs.lemmas.Str.{IsCharBoundary-after_ascii}
use Rattle.cm_scan.proofs.lemmas.texts.GapLemmas.{blank-ascii, trim-step, trim-stop, trim-none}
use Rattle.cm_scan.proofs.gaps.after_blanks.Goals as goal

pub loop-end-preserved : goal.loop-end-preserved
loop-end-preserved c = record {
  skipped = trim-step c.args.text.now c.loop-end.end c.loop-end-test.true (sym c.is_space_or_tab.ensures ∙ c.if-is_space_or_tab.true) ∙ c.loop-end.invariant.skipped;
  within = omega (arith, c.loop-end-test.true);
  boundary = λ utf8 at. IsCharBoundary-after_ascii c.args.text.now c.loop-end.end utf8 c.loop-end-test.true (blank-ascii _ (sym c.is_space_or_tab.ensures ∙ c.if-is_space_or_tab.true));
}

pub returns-else-is_space_or_tab-clause-skipped : goal.returns-else-is_space_or_tab-clause-skipped
returns-else-is_space_or_tab-clause-skipped c =
    sym (trim-stop c.args.text.now c.loop-end.end c.loop-end-test.true (sym c.is_space_or_tab.ensures ∙ c.if-is_space_or_tab.false)) ∙ c.loop-end.invariant.skipped

pub returns-after-loop-end-clause-skipped : goal.returns-after-loop-end-clause-skipped
returns-after-loop-end-clause-skipped c = sym (trim-none c.args.text.now c.loop-end.end (omega (arith, c.loop-end-test.false))) ∙ c.loop-end.invariant.skipped
