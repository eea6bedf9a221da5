use Rattle.cm_scan.proofs.lemmas.blocks.CountedLines.{parts_have_lines}
use Rattle.cm_scan.proofs.lemmas.blocks.LooseByOwners.{loose_by_owners}
use Rattle.cm_scan.proofs.laws.loose_lists.Goals as goal

pub returns-clause-lines : goal.returns-clause-lines
returns-clause-lines c = parts_have_lines

pub returns-clause-loose : goal.returns-clause-loose
returns-clause-loose c = loose_by_owners
