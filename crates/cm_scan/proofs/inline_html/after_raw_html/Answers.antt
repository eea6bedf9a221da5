use Rattle.std.proofs.Common.{◌∙◌, sym, arith}
use Rattle.cm_scan.proofs.lemmas.spans.RawHtmlGoesOn.{raw-on, raw-off}
use Rattle.cm_scan.proofs.inline_html.after_raw_html.Goals as goal

pub returns-then-not-raw_html-clause-read : goal.returns-then-not-raw_html-clause-read
returns-then-not-raw_html-clause-read g c = sym (raw-off c.args.rules c.args.text.now (sym c.raw_html.ensures ∙ c.if-not-raw_html.true))

pub returns-clause-read : goal.returns-clause-read
returns-clause-read g c = c.after_html_tag.ensures.read ∙ sym (raw-on c.args.rules c.args.text.now (sym c.raw_html.ensures ∙ c.if-not-raw_html.false))
