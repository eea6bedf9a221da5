use Rattle.std.proofs.Common.{◌∙◌, ◌<◌, ap, sym, arith, drop, length, string_bytes}
use Rattle.std.proofs.lemmas.Bool.{eqb-true, eqb-false}
use Rattle.std.proofs.lemmas.Result.{on_ok_weaker}
use Rattle.cm_text.specs.Cut.{Cut}
use Rattle.cm_text.specs.Lines.{ends_a_line}
use Rattle.cm_text.proofs.lemmas.EndedLines.{none_open, nothing_open, last_ends}
use Rattle.cm_text.proofs.unread.Unread.end_text.Goals as goal

pub returns-then-is_empty-clause-ok : goal.returns-then-is_empty-clause-ok
returns-then-is_empty-clause-ok c =
    let u = c.args.self.now in
    nothing_open u.after_return (drop u.passed (string_bytes u.text))
    (sym (ap length c.rest-rest.ensures) ∙ eqb-true (length c.rest-rest.result.now) 0 (sym c.is_empty.ensures ∙ c.if-is_empty.true))

pub returns-then-ends_a_line-clause-ok : goal.returns-then-ends_a_line-clause-ok
returns-then-ends_a_line-clause-ok c =
    let u = c.args.self.now in
    none_open u.after_return (drop u.passed (string_bytes u.text)) (sym (ap ends_a_line c.rest-rest.ensures) ∙ sym c.ends_a_line.ensures.ends ∙ c.if-ends_a_line.true)

pub returns-clause-ok : goal.returns-clause-ok
returns-clause-ok c =
    let u = c.args.self.now in
    let rest = drop u.passed (string_bytes u.text) in
    let some : 0 < length rest =
    omega (arith, ap length c.rest-rest.ensures, eqb-false (length c.rest-rest.result.now) 0 (sym c.is_empty.ensures ∙ c.if-is_empty.false)) in
    on_ok_weaker c.go_on.result
    (λ done. ap (λ (d : Cut). d.ended) done
    ∙ last_ends u.after_return rest some (sym (ap ends_a_line c.rest-rest.ensures) ∙ sym c.ends_a_line.ensures.ends ∙ c.if-ends_a_line.false)) c.go_on.ensures.ok
