use Rattle.cm_scan.proofs.lemmas.blocks.HeadingLevels.{heading_levels}
use Rattle.cm_scan.proofs.laws.heading_levels.Goals as goal

pub returns : goal.returns
returns c = heading_levels
