use Rattle.cm_text.proofs.lemmas.EndedLines.{ended_lines_are_cut}
use Rattle.cm_text.proofs.laws.ended_lines_are_cut.Goals as goal

pub returns : goal.returns
returns c = ended_lines_are_cut
