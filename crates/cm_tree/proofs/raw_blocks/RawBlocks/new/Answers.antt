use Rattle.cm_tree.proofs.lemmas.RawLemmas.{nothing-made}
use Rattle.cm_tree.proofs.raw_blocks.RawBlocks.new.Goals as goal

pub returns-clause-blocks : goal.returns-clause-blocks
returns-clause-blocks c = nothing-made _ c.new-3.result.items c.new-2.result.items c.new-2.ensures.items
