use Rattle.std.proofs.Common.{◌∙◌, take, drop, ap, sym, subst, arith}
use Rattle.std.specs.Char.{is_ascii_hexdigit}
use Rattle.std.specs.Str.Parse.{AllDigits}
use Rattle.std.proofs.lemmas.List.Sums.{prefix_len-le-length}
use Rattle.cm_text.specs.References.{begins_with}
use Rattle.cm_text.proofs.lemmas.ReferenceLemmas.{hexadecimal_digit, all_digits, taken_is}
use Rattle.cm_text.proofs.lemmas.ReferenceReach.{count_reach, hexadecimal_passed}
use Rattle.cm_text.proofs.references.hexadecimal.Goals as goal

pub before_semicolon-requires : goal.before_semicolon-requires
before_semicolon-requires g c = rw (c.count_while-count.ensures.count is_ascii_hexdigit (λ b told small e. e)) (prefix_len-le-length is_ascii_hexdigit c.args.text.now)

pub numbered-requires-clause-digits : goal.numbered-requires-clause-digits
numbered-requires-clause-digits g c =
    let text = c.args.text.now in
    let len = c.count_while-count.result in
    let taken = taken_is (begins_with 59 (drop len text)) (take len text) c.in_ok-digits.digits.now c.in_ok-digits.ensures.read in
    subst (λ t. AllDigits 16 t) (sym (taken ∙ ap (λ n. take n text) (c.count_while-count.ensures.count is_ascii_hexdigit (λ b told small e. e)))) (all_digits 16 is_ascii_hexdigit text hexadecimal_digit)

pub returns-in_err-digits-clause-looks : goal.returns-in_err-digits-clause-looks
returns-in_err-digits-clause-looks g c = omega (arith, count_reach is_ascii_hexdigit hexadecimal_passed c.args.text.now, c.count_while-count.ensures.count is_ascii_hexdigit (λ b told small e. e), c.count_while-count.ensures.looks, c.before_semicolon.ensures.looks)

pub returns-clause-looks : goal.returns-clause-looks
returns-clause-looks g c = omega (arith, count_reach is_ascii_hexdigit hexadecimal_passed c.args.text.now, c.count_while-count.ensures.count is_ascii_hexdigit (λ b told small e. e), c.count_while-count.ensures.looks, c.before_semicolon.ensures.looks)
