use Rattle.std.proofs.Common.{string_bytes, length, ◌++◌, ap, ◌∙◌, arith}
use Rattle.cm_scan.specs.blocks.Blocks.{line_feeds}
use Rattle.cm_block.proofs.lemmas.FeedLemmas.{feeds_append, feeds_within}
use Rattle.cm_block.proofs.lemmas.TextRunLemmas.{lines_added, content_feeds}
use Rattle.cm_block.proofs.leaf_text.LeafText.add_lines.Goals as goal

pub overflow_add-self : goal.overflow_add-self
overflow_add-self c =
    let t = c.args.lines.now in
    let old = string_bytes c.self.inside.text in
    omega (
      arith,
      c.self.invariant,
      content_feeds t.text.now t.spaces t.count t.lines c.content.result.now c.content.ensures,
      ap line_feeds c.in_ok-push_str.ensures.bytes,
      feeds_append old c.content.result.now,
      feeds_within (string_bytes c.push_str.new.self),
      ap length c.as_bytes-bytes.ensures.value,
      c.as_bytes-bytes.ensures.len,
      c.len-len.ensures,
      c.len-len.type_inv,
    )

pub invariant_of-self-2 : goal.invariant_of-self-2
invariant_of-self-2 c =
    let t = c.args.lines.now in
    omega (
      arith,
      c.self.invariant,
      content_feeds t.text.now t.spaces t.count t.lines c.content.result.now c.content.ensures,
      ap line_feeds c.in_ok-push_str.ensures.bytes,
      feeds_append (string_bytes c.self.inside.text) c.content.result.now,
    )

pub returns : goal.returns
returns c =
    let t = c.args.lines.now in
    c.in_ok-push_str.ensures.bytes
    ∙ ap (λ xs. xs ++ c.content.result.now) (c.self.view_is ∙ c.in_ok-begin_line.ensures)
    ∙ lines_added t.text.now t.spaces t.count t.lines c.content.result.now c.content.ensures c.args.self.now
