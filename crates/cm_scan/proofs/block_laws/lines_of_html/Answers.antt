use Rattle.cm_scan.proofs.lemmas.blocks.SingleBlocks.{html_up_to_its_end, html_up_to_a_blank_line}
use Rattle.cm_scan.proofs.block_laws.lines_of_html.Goals as goal

pub returns-clause-end : goal.returns-clause-end
returns-clause-end c = html_up_to_its_end

pub returns-clause-blank_line : goal.returns-clause-blank_line
returns-clause-blank_line c = html_up_to_a_blank_line
