use Rattle.std.proofs.Common.{◌∙◌, ◌<◌, take, ap, arith, string_bytes}
use Rattle.cm_text.proofs.lemmas.CutLemmas.{slice_from_start}
use Rattle.cm_text.proofs.lemmas.TextLineLemmas.{text_lent}
use Rattle.cm_text.proofs.unread.Unread.text_lines.Goals as goal

pub returns : goal.returns
returns c =
    let u = c.args.self.now in
    let some : 0 < u.text_ahead.count = omega (arith, c.if-count-eq0.false) in
    text_lent u.after_return (string_bytes u.text) u.passed u.text_ahead u.waits (u.ahead some) some c.range.result.now
    (c.range.ensures.value ∙ slice_from_start c.rest.result.now u.text_ahead.len ∙ ap (take u.text_ahead.len) c.rest.ensures)
