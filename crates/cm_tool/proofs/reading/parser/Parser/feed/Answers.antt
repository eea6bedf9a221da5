use Rattle.std.proofs.Common.{rules, tests}
use Rattle.std.proofs.lemmas.Grind.{common_steps}
use Rattle.cm_tool.proofs.reading.parser.Parser.feed.Goals as goal

pub returns-in_default-result-clause-stands : goal.returns-in_default-result-clause-stands
returns-in_default-result-clause-stands c = search (rules, tests, common_steps)
