use Rattle.cm_inline.proofs.lemmas.Words.{arith, nat_tests}
use Rattle.cm_inline.proofs.lemmas.ReaderLemmas.{text-goes, put-goes}
use Rattle.cm_inline.proofs.reading.read_on.Goals as goal

pub returns-then-end-leaf-clause-reading : goal.returns-then-end-leaf-clause-reading
returns-then-end-leaf-clause-reading g c = text-goes c.args.rules c.args.leaf.source.now c.args.leaf.definitions.now c.args.text.0 c.args.text.1 c.args.reader.now c.requires.text c.requires.reading

pub close-requires-clause-reading : goal.close-requires-clause-reading
close-requires-clause-reading g c = text-goes c.args.rules c.args.leaf.source.now c.args.leaf.definitions.now c.args.text.0 c.args.text.1 c.args.reader.now c.requires.text c.requires.reading

pub returns-clause-reading : goal.returns-clause-reading
returns-clause-reading g c = grind (arith, nat_tests, put-goes, text-goes)
