use Rattle.cm_scan.proofs.lemmas.blocks.SingleBlocks.{quote_and_space, quote_alone, item_and_space, item_alone}
use Rattle.cm_scan.proofs.block_laws.content_after_markers.Goals as goal

pub returns-clause-quote : goal.returns-clause-quote
returns-clause-quote c = quote_and_space

pub returns-clause-quote_alone : goal.returns-clause-quote_alone
returns-clause-quote_alone c = quote_alone

pub returns-clause-item : goal.returns-clause-item
returns-clause-item c = item_and_space

pub returns-clause-item_alone : goal.returns-clause-item_alone
returns-clause-item_alone c = item_alone
