use Rattle.std.proofs.Common.{◌≡◌, ◌≤◌, ◌+◌, ◌*◌, ◌∙◌, take, get_or, refl, arith}
use Rattle.std.specs.Char.{digit_value}
use Rattle.std.specs.Str.Parse.{digits_value}
use Rattle.cm_text.proofs.lemmas.ReferenceLemmas.{value-of_digit, number-more}
use Rattle.cm_text.proofs.references.number.Goals.{After-unwrap_or}
use Rattle.cm_text.proofs.references.number.Goals as goal

-- the number with the next digit
more : (c : After-unwrap_or) → (c.loop-b.number * c.args.radix + c.unwrap_or.result ≡ digits_value c.args.radix (take (c.loop-b.b-index + 1) c.args.digits.now))
    × (c.loop-b.number * c.args.radix + c.unwrap_or.result ≤ digits_value c.args.radix c.args.digits.now)
more c =
    let digit = c.unwrap_or.ensures ∙ value-of_digit c.args.radix c.args.digits.now c.loop-b.b-index c.to_digit.result c.requires.digits c.loop-b-test.true c.to_digit.ensures.value in
    number-more c.args.radix c.args.digits.now c.loop-b.b-index c.loop-b.number c.unwrap_or.result c.requires.radix.0 c.loop-b-test.true c.loop-b.invariant digit

pub overflow_mul-number : goal.overflow_mul-number
overflow_mul-number c =
    let digits = c.args.digits.now in
    let next = (number-more c.args.radix digits c.loop-b.b-index c.loop-b.number (digit_value (get_or digits c.loop-b.b-index 0)) c.requires.radix.0 c.loop-b-test.true c.loop-b.invariant refl).1 in
    omega (arith, next, c.requires.fits)

pub overflow_add-number : goal.overflow_add-number
overflow_add-number c = let next = (more (goal.at.overflow_add-number c).After-unwrap_or).1 in omega (arith, next, c.requires.fits)

pub loop-b-preserved : goal.loop-b-preserved
loop-b-preserved c = (more (goal.at.loop-b-preserved c).After-unwrap_or).0
