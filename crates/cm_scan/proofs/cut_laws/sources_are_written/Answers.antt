use Rattle.cm_scan.proofs.lemmas.cuts.OneCut.{plain_texts_are_sources, atoms_are_written, tails_are_written}
use Rattle.cm_scan.proofs.cut_laws.sources_are_written.Goals as goal

pub returns-clause-text : goal.returns-clause-text
returns-clause-text c = plain_texts_are_sources

pub returns-clause-atom : goal.returns-clause-atom
returns-clause-atom c = atoms_are_written

pub returns-clause-tail : goal.returns-clause-tail
returns-clause-tail c = tails_are_written
