use Rattle.std.proofs.Common.{◌∙◌, sym}
use Rattle.cm_scan.proofs.lemmas.spans.RawHtmlByFirstBytes.{short-here, short-next}
use Rattle.cm_scan.proofs.inline_html.short_end.Goals as goal

pub returns-in-Some-clause-read : goal.returns-in-Some-clause-read
returns-in-Some-clause-read g c = short-here c.args.inside.now c.in-Some.rest c.in-Some.ensures.read

pub returns-clause-read : goal.returns-clause-read
returns-clause-read g c = c.after_front-2.ensures.read ∙ sym (short-next c.args.inside.now c.in_default.ensures.read)
