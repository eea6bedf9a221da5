use Rattle.std.proofs.Common.{arith}
use Rattle.cm_scan.proofs.lemmas.spans.ReachLemmas.{three_tags, reach_some}
use Rattle.cm_scan.proofs.span_laws.tags_reach_thrice.Goals as goal

pub returns : goal.returns
returns c = λ text. omega (arith, three_tags text, reach_some 0 text, reach_some 34 text, reach_some 39 text)
