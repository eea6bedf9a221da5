use Rattle.cm_scan.proofs.lemmas.cuts.OneCut.{one_cut}
use Rattle.cm_scan.proofs.lemmas.cuts.ReadingCuts.{sources_are_cut}
use Rattle.cm_scan.proofs.cut_laws.sources_are_cut.Goals as goal

pub returns-clause-cut : goal.returns-clause-cut
returns-clause-cut c = sources_are_cut

pub returns-clause-one : goal.returns-clause-one
returns-clause-one c = one_cut
