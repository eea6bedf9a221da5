use Rattle.std.proofs.Common.{sym, ap, ◌∙◌}
use Rattle.cm_scan.specs.blocks.Blocks.{line_feeds}
use Rattle.cm_block.proofs.lemmas.FeedLemmas.{no_feeds}
use Rattle.cm_block.proofs.leaf_text.LeafText.new.Goals as goal

pub invariant_of-result : goal.invariant_of-result
invariant_of-result c = sym (ap line_feeds c.new.ensures.bytes ∙ no_feeds)
