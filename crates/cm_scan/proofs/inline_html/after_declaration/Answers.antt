use Rattle.std.proofs.Common.{◌+◌, ◌≤◌, ◌∙◌, length, sym, ap, arith}
use Rattle.cm_scan.proofs.lemmas.spans.ReachLemmas.{map_some, declared_letter}
use Rattle.cm_scan.specs.spans.RawHtml.{after_declaration}
use Rattle.cm_scan.proofs.lemmas.spans.RawHtmlByFirstBytes.{declaration-none, declaration-other, declaration-letter}
use Rattle.cm_scan.proofs.inline_html.after_declaration.Goals as goal

pub returns-in_err-b-clause-read : goal.returns-in_err-b-clause-read
returns-in_err-b-clause-read g c = c.from_residual.ensures ∙ declaration-none ∙ sym (ap after_declaration c.in_err-b.ensures.read)

pub returns-then-not-is_letter-clause-read : goal.returns-then-not-is_letter-clause-read
returns-then-not-is_letter-clause-read g c =
    declaration-other c.in_ok-b.b c.in_ok-b.beyond (sym c.is_letter.ensures ∙ c.if-not-is_letter.true) ∙ sym (ap after_declaration c.in_ok-b.ensures.read)

pub returns-clause-read : goal.returns-clause-read
returns-clause-read g c = c.after_end.ensures.read ∙ declaration-letter c.in_ok-b.b c.in_ok-b.beyond (sym c.is_letter.ensures ∙ c.if-not-is_letter.false) ∙ sym (ap after_declaration c.in_ok-b.ensures.read)

pub returns-clause-some : goal.returns-clause-some
returns-clause-some g c = map_some c.after_end.result _ _ c.after_end.ensures.some (λ rest h. omega (arith, h, ap length c.in_ok-b.ensures.read, c.first.ensures.looks))

pub returns-clause-none : goal.returns-clause-none
returns-clause-none g c = λ none.
    omega (arith, c.after_end.ensures.looks, c.first.ensures.looks, declared_letter c.args.inside.now c.in_ok-b.b c.in_ok-b.beyond c.in_ok-b.ensures.read (sym c.is_letter.ensures ∙ c.if-not-is_letter.false))
