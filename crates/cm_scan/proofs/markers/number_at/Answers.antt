use Rattle.std.proofs.Common.{◌≡◌, ◌+◌, ◌-◌, ◌∙◌, true, false, get_or, length, sym, ap, arith}
use Rattle.std.specs.List.{fold}
use Rattle.std.specs.Char.{is_ascii_digit}
use Rattle.std.proofs.lemmas.Grind.{common_steps}
use Rattle.cm_scan.specs.steps.LineSteps.{with_digit}
use Rattle.cm_scan.proofs.lemmas.blocks.MarkerLemmas.{bound, bound_step, bound_most, front_step, skip_step, front_stop, front_end}
use Rattle.cm_scan.proofs.markers.number_at.Goals as goal

pub overflow_mul-number : goal.overflow_mul-number
overflow_mul-number c = omega (arith, c.loop-end.invariant.fits, bound_most (c.loop-end.end - c.args.at) (omega arith))

pub overflow_add-number : goal.overflow_add-number
overflow_add-number c =
    let digit : is_ascii_digit (get_or c.as_bytes-bytes.result.now c.loop-end.end 0) ≡ true = sym c.is_digit.ensures ∙ c.if-is_digit.true in
    grind (arith, digit, c.loop-end.invariant.fits, bound_most (c.loop-end.end - c.args.at) (omega arith))

pub loop-end-preserved : goal.loop-end-preserved
loop-end-preserved c =
    let bytes = c.as_bytes-bytes.result.now in
    let end = c.loop-end.end in
    let digit : is_ascii_digit (get_or bytes end 0) ≡ true = sym c.is_digit.ensures ∙ c.if-is_digit.true in
    let more = front_step bytes end (omega arith) digit in
    let next : end + 1 - c.args.at ≡ end - c.args.at + 1 = omega arith in
    record {
      begin = omega arith;
      within = omega arith;
      count = omega (arith, c.loop-end.invariant.count, ap length more);
      value = grind (arith, common_steps, sym (ap (fold with_digit c.loop-end.number) more) ∙ c.loop-end.invariant.value);
      left = sym (skip_step bytes end (omega arith) digit) ∙ c.loop-end.invariant.left;
      few = omega arith;
      fits = grind (arith, digit, c.loop-end.invariant.fits, ap bound next ∙ bound_step (end - c.args.at));
    }

pub returns-else-is_digit-clause-whole : goal.returns-else-is_digit-clause-whole
returns-else-is_digit-clause-whole c =
    let bytes = c.as_bytes-bytes.result.now in
    let other : is_ascii_digit (get_or bytes c.loop-end.end 0) ≡ false = sym c.is_digit.ensures ∙ c.if-is_digit.false in
    λ _. rw (sym c.as_bytes-bytes.ensures.value) (front_stop bytes c.loop-end.end (omega arith) other)

pub returns-after-loop-end-clause-whole : goal.returns-after-loop-end-clause-whole
returns-after-loop-end-clause-whole c = λ less. front_end c.args.text.now c.loop-end.end (omega (arith, less))
