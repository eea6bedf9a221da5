use Rattle.cm_tree.proofs.lemmas.RawLemmas.{grows-same}
use Rattle.cm_tree.proofs.raw_blocks.RawBlocks.push_text.Goals as goal

pub returns-in_err-from-clause-grows : goal.returns-in_err-from-clause-grows
returns-in_err-from-clause-grows c = grows-same c.args.self.now

pub returns-in_err-to-clause-grows : goal.returns-in_err-to-clause-grows
returns-in_err-to-clause-grows c = grows-same c.args.self.now
