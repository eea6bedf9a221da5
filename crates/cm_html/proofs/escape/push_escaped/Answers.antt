use Rattle.std.proofs.Common.{◌≡◌, None, arith}
use Rattle.std.proofs.lemmas.Grind.{common_steps}
use Rattle.std.specs.List.{position}
use Rattle.cm_html.specs.steps.Bytes.{is_escaped}
use Rattle.cm_html.proofs.lemmas.EscapeLemmas.{escape-none}
use Rattle.cm_html.proofs.escape.push_escaped.Goals as goal

pub returns-in-None : goal.returns-in-None
returns-in-None c =
    let none : position is_escaped c.args.text.now ≡ None = cc in
    grind (arith, common_steps, escape-none c.args.text.now none)
