use Rattle.std.proofs.Common.{ap, sym, ◌∙◌}
use Rattle.cm_scan.specs.blocks.HtmlBlocks.{html_start}
use Rattle.cm_source.specs.Spelling.{ended_lines}
use Rattle.cm_source.specs.steps.HtmlLines.{fit_from}
use Rattle.cm_source.proofs.lemmas.refusals.HtmlAlone.{is-html, no-html}
use Rattle.cm_source.proofs.html_alone.is_html_block.Goals as goal

pub returns-then-not-is_code_text : goal.returns-then-not-is_code_text
returns-then-not-is_code_text c = sym (no-html c.args.rules c.args.text.now (sym c.is_code_text.ensures ∙ c.if-not-is_code_text.true))

pub returns-in-Some : goal.returns-in-Some
returns-in-Some c =
    let lines = ended_lines c.args.text.now in
    c.all_fit.ensures ∙ ap (λ o. fit_from o lines) (c.in-Some.ensures.start ∙ ap (html_start c.args.rules) c.first_line.ensures)
    ∙ sym (is-html c.args.rules c.args.text.now (sym c.is_code_text.ensures ∙ c.if-not-is_code_text.false))

pub returns-in-None : goal.returns-in-None
returns-in-None c =
    let lines = ended_lines c.args.text.now in
    ap (λ o. fit_from o lines) (c.in-None.ensures.start ∙ ap (html_start c.args.rules) c.first_line.ensures)
    ∙ sym (is-html c.args.rules c.args.text.now (sym c.is_code_text.ensures ∙ c.if-not-is_code_text.false))
