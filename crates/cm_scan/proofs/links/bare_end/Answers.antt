use Rattle.std.proofs.Common.{◌∙◌, ◌-◌, sym, arith, get_or}
use Rattle.cm_scan.specs.steps.LinkSteps.{is_plain_in_run}
use Rattle.cm_scan.proofs.lemmas.links.BracketedParts.{here-and-beyond}
use Rattle.cm_scan.proofs.lemmas.links.BareDestinations.{bare-step, bare-plains, bare-stop, bare-none, bare-some, ends-inside, ends-past, few-more, Ends}
use Rattle.cm_scan.proofs.links.bare_end.Goals.{then-loop-at-test+else-is_plain_in_run+then-is_bare_end, else-loop-at-test}
use Rattle.cm_scan.proofs.links.bare_end.Goals as goal

pub returns-then-is_too_deep-clause-read : goal.returns-then-is_too_deep-clause-read
returns-then-is_too_deep-clause-read c =
    sym (bare-stop c.loop-at.opened c.loop-at.escaped c.args.text.now c.args.from c.loop-at.at c.loop-at-test.true
    (sym c.is_bare_end.ensures ∙ c.if-is_bare_end.false) (sym c.is_too_deep.ensures ∙ c.if-is_too_deep.true)) ∙ c.loop-at.invariant.read

pub loop-at-preserved : goal.loop-at-preserved
loop-at-preserved c = record {
  read = bare-step c.loop-at.opened c.opened_by-opened.result c.loop-at.escaped c.escapes_next-escaped.result c.args.text.now c.args.from c.loop-at.at c.loop-at.invariant.within.0
      c.loop-at-test.true (sym c.is_bare_end.ensures ∙ c.if-is_bare_end.false) (sym c.is_too_deep.ensures ∙ c.if-is_too_deep.false) c.opened_by-opened.ensures c.escapes_next-escaped.ensures.escapes
      ∙ c.loop-at.invariant.read;
  within = (omega (arith, c.loop-at.invariant.within.0), omega (arith, c.loop-at-test.true));
  few = few-more c.loop-at.opened c.opened_by-opened.result (get_or c.args.text.now c.loop-at.at 0) c.loop-at.escaped c.loop-at.invariant.few
      (sym c.is_too_deep.ensures ∙ c.if-is_too_deep.false) c.opened_by-opened.ensures;
}

pub returns-then-opened-gt0-clause-read : goal.returns-then-opened-gt0-clause-read
returns-then-opened-gt0-clause-read c =
    let ends : Ends c.loop-at.opened c.loop-at.escaped c.args.text.now c.loop-at.at = elim c.loop-at-test.branch [
      | then-loop-at-test+else-is_plain_in_run+then-is_bare_end w ↦ ends-inside c.loop-at.opened c.loop-at.escaped c.args.text.now c.loop-at.at w.loop-at-test.true (sym w.is_bare_end.ensures ∙ w.if-is_bare_end.true)
      | else-loop-at-test w ↦ ends-past c.loop-at.opened c.loop-at.escaped c.args.text.now c.loop-at.at (omega (arith, w.loop-at-test.false))
    ] in
    sym (bare-none c.loop-at.opened c.loop-at.escaped c.args.text.now c.args.from c.loop-at.at ends (omega (arith, c.if-opened-gt0.true))) ∙ c.loop-at.invariant.read

pub returns-clause-read : goal.returns-clause-read
returns-clause-read c =
    let ends : Ends c.loop-at.opened c.loop-at.escaped c.args.text.now c.loop-at.at = elim c.loop-at-test.branch [
      | then-loop-at-test+else-is_plain_in_run+then-is_bare_end w ↦ ends-inside c.loop-at.opened c.loop-at.escaped c.args.text.now c.loop-at.at w.loop-at-test.true (sym w.is_bare_end.ensures ∙ w.if-is_bare_end.true)
      | else-loop-at-test w ↦ ends-past c.loop-at.opened c.loop-at.escaped c.args.text.now c.loop-at.at (omega (arith, w.loop-at-test.false))
    ] in
    sym (bare-some c.loop-at.opened c.loop-at.escaped c.args.text.now c.args.from c.loop-at.at ends (omega (arith, c.if-opened-gt0.false))) ∙ c.loop-at.invariant.read

pub loop-at-preserved-then-is_plain_in_run : goal.loop-at-preserved-then-is_plain_in_run
loop-at-preserved-then-is_plain_in_run c =
    let end = c.run_plain_end-at.result in
    let within = c.run_plain_end-at.ensures.within in
    record {
      read = bare-plains (end - c.loop-at.at - 1) c.loop-at.opened c.loop-at.escaped c.args.text.now c.args.from c.loop-at.at end (omega (arith, within))
          c.loop-at.invariant.within.0 within.1
          (here-and-beyond is_plain_in_run c.args.text.now c.loop-at.at end (sym c.is_plain_in_run.ensures ∙ c.if-is_plain_in_run.true) c.run_plain_end-at.ensures.plain)
          ∙ c.loop-at.invariant.read;
      within = (omega (arith, c.loop-at.invariant.within.0, within), within.1);
      few = c.loop-at.invariant.few;
    }
