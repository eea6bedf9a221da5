use Rattle.std.proofs.Common.{◌≡◌, ◌∙◌, ap, drop, option_map, subst, Some, None}
use Rattle.cm_scan.specs.inlines.Links.{after_line}
use Rattle.cm_scan.specs.Scanned.{definition_with}
use Rattle.cm_scan.proofs.lemmas.links.DefinitionParts.{end-none, end-some}
use Rattle.cm_scan.proofs.links.end_of_definition.Goals as goal

pub returns-in_err-end-clause-read : goal.returns-in_err-end-clause-read
returns-in_err-end-clause-read c = λ l d.
    ap (option_map (λ r. definition_with l d r.0.now (drop r.1 c.args.text.now))) c.from_residual.ensures
    ∙ end-none l d (drop c.args.at c.args.text.now) (c.in_default.ensures.read l d)
    (subst (λ t. None ≡ after_line (drop c.args.at t)) c.as_bytes.ensures.value c.in_err-end.ensures.ended)

pub returns-clause-read : goal.returns-clause-read
returns-clause-read c = λ l d.
    end-some l d (drop c.args.at c.args.text.now) (drop c.in_ok-end.end c.args.text.now) (c.in_default.ensures.read l d)
    (subst (λ t. Some (drop c.in_ok-end.end t) ≡ after_line (drop c.args.at t)) c.as_bytes.ensures.value c.in_ok-end.ensures.ended)
