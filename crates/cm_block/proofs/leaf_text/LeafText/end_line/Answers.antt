use Rattle.std.proofs.Common.{string_bytes, length, ap, arith}
use Rattle.cm_scan.specs.blocks.Blocks.{line_feeds}
use Rattle.cm_block.proofs.lemmas.FeedLemmas.{feeds_ended, feeds_within}
use Rattle.cm_block.proofs.leaf_text.LeafText.end_line.Goals as goal

pub overflow_add-self : goal.overflow_add-self
overflow_add-self c =
    omega (
      arith,
      c.self.invariant,
      ap line_feeds c.in_ok-push_str.ensures.bytes,
      feeds_ended (string_bytes c.self.inside.text),
      feeds_within (string_bytes c.push_str.new.self),
      ap length c.as_bytes-bytes.ensures.value,
      c.as_bytes-bytes.ensures.len,
      c.len-len.ensures,
      c.len-len.type_inv,
    )

pub invariant_of-self-2 : goal.invariant_of-self-2
invariant_of-self-2 c =
    omega (arith, c.self.invariant, ap line_feeds c.in_ok-push_str.ensures.bytes, feeds_ended (string_bytes c.self.inside.text))
