use Rattle.std.proofs.Common.{string_bytes, length, ap, arith}
use Rattle.cm_block.proofs.lemmas.FeedLemmas.{feeds_within}
use Rattle.cm_block.proofs.leaf_text.LeafText.feeds.Goals as goal

pub returns-clause-few : goal.returns-clause-few
returns-clause-few c =
    omega (arith, c.self.invariant, feeds_within (string_bytes c.self.inside.text), ap length c.as_bytes-bytes.ensures.value, c.as_bytes-bytes.ensures.len)
