use Rattle.cm_scan.proofs.lemmas.blocks.SingleBlocks.{fenced_up_to_its_end, fenced_to_the_last}
use Rattle.cm_scan.proofs.block_laws.lines_of_fenced_code.Goals as goal

pub returns-clause-end : goal.returns-clause-end
returns-clause-end c = fenced_up_to_its_end

pub returns-clause-last : goal.returns-clause-last
returns-clause-last c = fenced_to_the_last
