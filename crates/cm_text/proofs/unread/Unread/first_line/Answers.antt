use Rattle.std.proofs.Common.{◌∙◌, ◌==◌, drop, length, ap, arith, string_bytes, take, length-drop}
use Rattle.std.proofs.lemmas.List.Sums.{count_by-le-length}
use Rattle.cm_text.specs.LineText.{is_line}
use Rattle.cm_text.proofs.lemmas.CutLemmas.{none_ends, slice_from_start}
use Rattle.cm_text.proofs.lemmas.UnreadLemmas.{lent}
use Rattle.cm_text.proofs.unread.Unread.first_line.Goals as goal

pub returns-then-self-rest-clause-none : goal.returns-then-self-rest-clause-none
returns-then-self-rest-clause-none c =
    let u = c.args.self.now in
    none_ends u.after_return u.line (drop u.passed (string_bytes u.text)) u.first (c.if-self-rest.true ∙ ap length c.rest-rest.ensures)

pub invariant_of-result : goal.invariant_of-result
invariant_of-result c =
    let u = c.args.self.now in
    record {
      one_line = ap is_line (c.range.ensures.value ∙ slice_from_start c.rest-rest.result.now u.line ∙ ap (λ t. take u.line t) c.rest-rest.ensures) ∙ u.first.plain;
      fits = omega (arith, count_by-le-length (λ b. b == 9) c.range.result.now, c.requires, c.range.ensures.len, ap length c.rest-rest.ensures, length-drop u.passed (string_bytes u.text));
    }

pub returns-clause-line : goal.returns-clause-line
returns-clause-line c =
    let u = c.args.self.now in
    let len = ap length c.rest-rest.ensures in
    lent u.after_return (string_bytes u.text) c.range.result.now u.passed u.line u.waits u.first (omega (arith, c.if-self-rest.false, len, u.first.within))
    (c.range.ensures.value ∙ slice_from_start c.rest-rest.result.now u.line ∙ ap (λ t. take u.line t) c.rest-rest.ensures)
