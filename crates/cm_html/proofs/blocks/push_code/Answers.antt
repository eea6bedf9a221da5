use Rattle.std.proofs.Common.{codes, ap, ◌∙◌, ◌++◌}
use Rattle.cm_html.proofs.lemmas.Pushed.{enclosed}
use Rattle.cm_html.specs.Escape.{escape, class_word}
use Rattle.cm_html.specs.Html.{code_start}
use Rattle.cm_html.proofs.blocks.push_code.Goals as goal

pub returns : goal.returns
returns c =
    let front = c.in_ok-push_code_start.ensures ∙ ap (λ word. c.args.out.now ++ code_start word) c.class_word.ensures in
    enclosed c.push_str.result _ (code_start (class_word c.args.info.now)) (escape c.args.text.now) (codes "</code></pre>\n") _ _ _
    front c.in_ok-push_escaped.ensures c.push_str.ensures
