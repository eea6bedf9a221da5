use Rattle.cm_scan.proofs.lemmas.inlines.DelimiterRuns.{runs_are_few}
use Rattle.cm_scan.proofs.inline_laws.runs_are_few.Goals as goal

pub returns : goal.returns
returns c = runs_are_few
