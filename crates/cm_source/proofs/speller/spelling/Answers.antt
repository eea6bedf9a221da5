use Rattle.std.proofs.Common.{true}
use Rattle.cm_source.specs.Spelling.{lines_of_blocks}
use Rattle.cm_source.proofs.lemmas.spelling.SpelledBlocks.{text-is}
use Rattle.cm_source.proofs.speller.spelling.Goals as goal

pub returns : goal.returns
returns c = text-is (lines_of_blocks true c.args.blocks.now) c.new-source.result c.spell_blocks.new.source c.new-source.ensures c.in_ok-spell_blocks.ensures
