use Rattle.cm_scan.proofs.lemmas.blocks.SingleBlocks.{kind_of_itself, item_before_its_list, item_by_itself}
use Rattle.cm_scan.proofs.block_laws.items_before_lists.Goals as goal

pub returns-clause-kind : goal.returns-clause-kind
returns-clause-kind c = kind_of_itself

pub returns-clause-list : goal.returns-clause-list
returns-clause-list c = item_before_its_list

pub returns-clause-alone : goal.returns-clause-alone
returns-clause-alone c = item_by_itself
