use Rattle.std.proofs.Common.{codes}
use Rattle.cm_html.proofs.lemmas.Pushed.{enclosed}
use Rattle.cm_html.specs.Escape.{escape}
use Rattle.cm_html.proofs.blocks.push_class_start.Goals as goal

pub returns : goal.returns
returns c = enclosed c.push_str-2.result _ (codes "<pre><code class=\"language-") (escape c.args.word.now) (codes "\">") _ _ _ c.in_ok-push_str.ensures c.in_ok-push_escaped.ensures c.push_str-2.ensures
