use Rattle.std.proofs.Common.{refl}
use Rattle.cm_tool.proofs.lemmas.ExampleLawLemmas.{examples_are_determined, examples_are_told}
use Rattle.cm_tool.proofs.laws.examples_by_lines.Goals as goal

pub returns-clause-text : goal.returns-clause-text
returns-clause-text c text = refl

pub returns-clause-told : goal.returns-clause-told
returns-clause-told c = examples_are_told

pub returns-clause-determined : goal.returns-clause-determined
returns-clause-determined c = examples_are_determined
