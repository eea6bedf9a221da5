use Rattle.std.proofs.Common.{drop, arith}
use Rattle.std.proofs.lemmas.Grind.{common_steps}
use Rattle.cm_scan.proofs.lemmas.blocks.LineFormLemmas.{fence_few, fence_found}
use Rattle.cm_scan.proofs.line_forms.fence_of.Goals as goal

pub returns-then-count-lt3 : goal.returns-then-count-lt3
returns-then-count-lt3 c = record { fence = fence_few (drop c.args.at c.args.text.now) c.args.marker (omega arith) }

pub returns : goal.returns
returns c = record { fence = grind (arith, common_steps, fence_found (drop c.args.at c.args.text.now) c.args.marker (omega arith)) }
