use Rattle.cm_block.proofs.lemmas.LevelLaws.{level_of_parts}
use Rattle.cm_block.proofs.laws.levels.Goals as goal

pub returns : goal.returns
returns c = level_of_parts
