use Rattle.cm_scan.proofs.lemmas.blocks.SingleBlocks.{unindented_line}
use Rattle.cm_scan.proofs.block_laws.lines_at_the_margin.Goals as goal

pub returns : goal.returns
returns c = unindented_line
