use Rattle.std.proofs.Common.{Some, ◌∙◌, sym, ap, eq-eqb, arith}
use Rattle.std.proofs.lemmas.Grind.{common_steps}
use Rattle.std.proofs.lemmas.Bool.{eqb-true}
use Rattle.cm_scan.proofs.lemmas.spans.TagParts.{quoted_none, quoted_first}
use Rattle.cm_scan.proofs.lemmas.spans.ReachLemmas.{above_zero, quoted_vain, quoted_found}
use Rattle.cm_scan.proofs.tags.after_quoted.Goals as goal

pub returns-in_err-at-clause-read : goal.returns-in_err-at-clause-read
returns-in_err-at-clause-read g c =
    let none = quoted_none c.args.quote c.args.bytes.now (λ k within e. c.in_err-at.ensures.found k (omega arith) within (eq-eqb _ _ e)) in
    grind (arith, common_steps, none)

pub returns-in_err-at-clause-none : goal.returns-in_err-at-clause-none
returns-in_err-at-clause-none g c = λ is _.
    let vain = quoted_vain c.args.quote c.args.bytes.now (above_zero c.args.quote is) (λ k within e. c.in_err-at.ensures.found k (omega arith) within (eq-eqb _ _ e)) in
    omega (arith, vain, c.find_byte.ensures.none c.in_err-at.was)

pub overflow_add-at : goal.overflow_add-at
overflow_add-at g c = omega (arith, c.in_ok-at.ensures.some)

pub returns-clause-read : goal.returns-clause-read
returns-clause-read g c =
    let bytes = c.args.bytes.now in
    let at = c.in_ok-at.at in
    let first = quoted_first c.args.quote bytes at c.in_ok-at.ensures.found.0.high (eqb-true _ _ c.in_ok-at.ensures.found.1)
    (λ k below e. c.in_ok-at.ensures.found.0.before k (omega arith) below (eq-eqb _ _ e)) in
    ap Some c.after.ensures ∙ sym first

pub returns-clause-some : goal.returns-clause-some
returns-clause-some g c = λ is.
    let bytes = c.args.bytes.now in
    let at = c.in_ok-at.at in
    let found = quoted_found c.args.quote bytes at (above_zero c.args.quote is) c.in_ok-at.ensures.found.0.high (eqb-true _ _ c.in_ok-at.ensures.found.1)
    (λ k below e. c.in_ok-at.ensures.found.0.before k (omega arith) below (eq-eqb _ _ e)) in
    rw c.after.ensures (omega (arith, found, c.in_ok-at.ensures.some))
