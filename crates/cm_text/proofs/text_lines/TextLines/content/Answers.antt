use Rattle.std.proofs.Common.{IsUtf8, subst, arith}
use Rattle.std.proofs.lemmas.Str.{IsCharBoundary-before_ascii}
use Rattle.cm_text.proofs.lemmas.TextLineLemmas.{feed_last, spaces_within, spaces_boundary, not_last, content_is}
use Rattle.cm_text.proofs.text_lines.TextLines.content.Goals as goal

pub range-requires-clause-start_le_end : goal.range-requires-clause-start_le_end
range-requires-clause-start_le_end c = let t = c.args.self.now in not_last t.text.now t.spaces t.count t.lines

pub range-requires-clause-start_boundary : goal.range-requires-clause-start_boundary
range-requires-clause-start_boundary c = λ _. let t = c.args.self.now in spaces_boundary t.text.now t.spaces t.count t.lines (subst IsUtf8 c.as_bytes-bytes.ensures.value c.as_bytes-bytes.ensures.utf8)

pub range-requires-clause-end_boundary : goal.range-requires-clause-end_boundary
range-requires-clause-end_boundary c =
    let t = c.args.self.now in
    IsCharBoundary-before_ascii t.text.now _ (omega (arith, spaces_within t.text.now t.spaces t.count t.lines)) (omega (arith, feed_last t.text.now t.spaces t.count t.lines))

pub returns : goal.returns
returns c = let t = c.args.self.now in content_is t.text.now t.spaces t.count t.lines c.range.result.now c.range.ensures.value
