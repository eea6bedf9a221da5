use Rattle.std.proofs.Common.{length, take, get_or, ap, ◌∙◌, arith}
use Rattle.std.specs.Prelude.{string_bytes}
use Rattle.cm_scan.specs.Words.{trim_end_spaces}
use Rattle.cm_source.proofs.lemmas.spelling.WrittenLineLemmas.{stripped-end}
use Rattle.cm_source.proofs.source_lines.strip_end.Goals as goal

pub truncate-requires : goal.truncate-requires
truncate-requires c = λ within.
    let text = string_bytes c.args.text.now in
    let is = c.trim_end_spaces-kept.ensures.trimmed ∙ ap trim_end_spaces c.deref.ensures in
    let end = stripped-end text in
    let size = ap length is in
    (omega (arith, size, end.0), λ some more ascii. (let byte = end.1 (omega (arith, more, size)) in absurd (omega (arith, ascii, byte, ap (λ n. get_or text n 0) size))))

pub returns : goal.returns
returns c =
    let is = c.trim_end_spaces-kept.ensures.trimmed ∙ ap trim_end_spaces c.deref.ensures in
    c.truncate.ensures.bytes ∙ ap (λ t. take (length t) (string_bytes c.args.text.now)) is ∙ (stripped-end (string_bytes c.args.text.now)).2
