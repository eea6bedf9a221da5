use Rattle.std.proofs.Common.{arith}
use Rattle.std.specs.Char.{is_ascii_alphanumeric}
use Rattle.cm_text.proofs.lemmas.ReferenceReach.{count_reach, letter_passed}
use Rattle.cm_text.proofs.references.named.Goals as goal

pub returns-in_err-name-clause-looks : goal.returns-in_err-name-clause-looks
returns-in_err-name-clause-looks g c = omega (arith, count_reach is_ascii_alphanumeric letter_passed c.args.text.now, c.count_while-count.ensures.count is_ascii_alphanumeric (λ b told small e. e), c.count_while-count.ensures.looks, c.before_semicolon.ensures.looks)

pub returns-in_err-chars-clause-looks : goal.returns-in_err-chars-clause-looks
returns-in_err-chars-clause-looks g c = omega (arith, count_reach is_ascii_alphanumeric letter_passed c.args.text.now, c.count_while-count.ensures.count is_ascii_alphanumeric (λ b told small e. e), c.count_while-count.ensures.looks, c.before_semicolon.ensures.looks)

pub returns-clause-looks : goal.returns-clause-looks
returns-clause-looks g c = omega (arith, count_reach is_ascii_alphanumeric letter_passed c.args.text.now, c.count_while-count.ensures.count is_ascii_alphanumeric (λ b told small e. e), c.count_while-count.ensures.looks, c.before_semicolon.ensures.looks)
