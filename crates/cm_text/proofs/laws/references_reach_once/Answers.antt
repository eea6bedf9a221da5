use Rattle.std.proofs.Common.{refl}
use Rattle.cm_text.specs.ReferenceReach.{reference_reach, reference_reaches}
use Rattle.cm_text.proofs.lemmas.ReferenceReach.{references_once}
use Rattle.cm_text.proofs.laws.references_reach_once.Goals as goal

pub returns-clause-law : goal.returns-clause-law
returns-clause-law c = references_once

pub returns-clause-examples : goal.returns-clause-examples
unfolding reference_reach reference_reaches
returns-clause-examples c = record { semicolon = refl; number = refl; next_reference = refl; end = refl; together = refl }
