use Rattle.cm_inline.proofs.lemmas.Words.{arith, rules, nat_tests}
use Rattle.cm_inline.proofs.lemmas.CodeLemmas.{line-feed, line-whole}
use Rattle.cm_inline.proofs.lemmas.HtmlLemmas.{line-html}
use Rattle.cm_inline.proofs.html_texts.push_one_line.Goals as goal

pub loop-at-preserved : goal.loop-at-preserved
loop-at-preserved c = grind (arith, nat_tests, line-feed, line-html)

pub returns : goal.returns
returns c = record { pushed = search (rules, line-whole) }
