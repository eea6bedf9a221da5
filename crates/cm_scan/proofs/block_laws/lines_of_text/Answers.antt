use Rattle.cm_scan.proofs.lemmas.blocks.SingleBlocks.{run_up_to_its_end, run_up_to_its_underline}
use Rattle.cm_scan.proofs.block_laws.lines_of_text.Goals as goal

pub returns-clause-end : goal.returns-clause-end
returns-clause-end c = run_up_to_its_end

pub returns-clause-underline : goal.returns-clause-underline
returns-clause-underline c = run_up_to_its_underline
