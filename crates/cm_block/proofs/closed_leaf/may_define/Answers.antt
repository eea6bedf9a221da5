use Rattle.cm_block.proofs.lemmas.RunLemmas.{no_definition}
use Rattle.cm_block.proofs.closed_leaf.may_define.Goals as goal

pub returns : goal.returns
returns c = no_definition c.args.text.now c.as_bytes.result.now c.is_next.result c.as_bytes.ensures.value c.is_next.ensures.next
