use Rattle.std.proofs.Common.{◌≡◌}
use Rattle.cm_html.specs.Html.{html_of}
use Rattle.cm_tool.proofs.lemmas.ParserLemmas.{walk_made}
use Rattle.cm_tool.proofs.outlines.html_of_outline.Goals as goal

pub returns : goal.returns
returns c = λ bytes is.
    let new = c.new.ensures in
    walk_made c.args.limits c.args.outline bytes is (λ tree pages. pages ≡ html_of tree) c.new.result c.html.new.self new.first new.limits new.all c.html.result
    c.html.ensures.html c.html.ensures.passes c.html.ensures.told
