use Rattle.cm_scan.proofs.lemmas.inlines.ReadingSteps.{reading_goes_on, bracket_step}
use Rattle.cm_scan.proofs.lemmas.inlines.LeftByEachStep.{step_leaves_an_end}
use Rattle.cm_scan.proofs.inline_laws.reading_goes_on.Goals as goal

pub returns-clause-on : goal.returns-clause-on
returns-clause-on c = reading_goes_on

pub returns-clause-end : goal.returns-clause-end
returns-clause-end c = step_leaves_an_end

pub returns-clause-bracket : goal.returns-clause-bracket
returns-clause-bracket c = bracket_step
