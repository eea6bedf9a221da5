use Rattle.std.proofs.Common.{◌≡◌, ◌∙◌, ap, subst}
use Rattle.std.specs.Prelude.{None}
use Rattle.std.proofs.lemmas.Result.{err_from_is_err_and}
use Rattle.cm_tool.specs.Faults.{fault_of}
use Rattle.cm_tool.specs.Parsing.{TellsFault}
use Rattle.cm_tool.specs.Writing.{converted}
use Rattle.cm_tool.proofs.example_files.comparing.rendered.Goals as goal

pub returns-clause-html : goal.returns-clause-html
returns-clause-html c =
    let limits = c.args.limits in
    let html = c.in_ok-html_of.ensures in
    let source = c.as_bytes.ensures.value in
    (subst (λ bytes. fault_of limits bytes ≡ None) source html.0, c.in_ok-into_string.ensures ∙ html.1 ∙ ap (converted limits.rules) source)

pub returns-in_err-html_of-clause-told : goal.returns-in_err-html_of-clause-told
returns-in_err-html_of-clause-told c =
    let p = err_from_is_err_and c.from_residual.result c.from_residual.ensures.1 in
    rw (p.1, p.2) (subst (λ bytes. TellsFault c.in_err-html_of.field-0.0 (fault_of c.args.limits bytes)) c.as_bytes.ensures.value c.in_err-html_of.ensures)
