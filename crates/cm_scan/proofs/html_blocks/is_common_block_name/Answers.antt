use Rattle.cm_scan.specs.blocks.HtmlBlocks.{common_block_names}
use Rattle.cm_scan.proofs.html_blocks.is_common_block_name.Goals as goal

pub returns : goal.returns
unfolding common_block_names
returns c = record { among = c.is_among.ensures.among }
