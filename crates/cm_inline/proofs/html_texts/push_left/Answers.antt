use Rattle.cm_inline.proofs.lemmas.Words.{rules}
use Rattle.cm_inline.proofs.lemmas.HtmlLemmas.{run-next}
use Rattle.cm_inline.proofs.html_texts.push_left.Goals as goal

pub loop-preserved : goal.loop-preserved
loop-preserved c = search (rules, run-next)
