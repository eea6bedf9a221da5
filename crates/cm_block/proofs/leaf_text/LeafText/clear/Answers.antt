use Rattle.std.proofs.Common.{sym, ap, ◌∙◌}
use Rattle.cm_scan.specs.blocks.Blocks.{line_feeds}
use Rattle.cm_block.proofs.lemmas.FeedLemmas.{no_feeds}
use Rattle.cm_block.proofs.leaf_text.LeafText.clear.Goals as goal

pub invariant_of-self : goal.invariant_of-self
invariant_of-self c = sym (ap line_feeds c.clear.ensures.bytes ∙ no_feeds)
