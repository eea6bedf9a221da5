use Rattle.std.proofs.Common.{◌∷◌, [], ◌++◌, inl, inr, refl, ap, ◌∙◌, arith}
use Rattle.cm_source.proofs.lemmas.spelling.WrittenLineLemmas.{ends-line}
use Rattle.cm_source.proofs.source_lines.SourceLines.end_line.Goals.{then-self-len, else-self-len}
use Rattle.cm_source.proofs.source_lines.SourceLines.end_line.Goals as goal

pub returns : goal.returns
unfolding lib.Utf8.encode
returns c =
    let pushed = c.in_ok-push.ensures.bytes in
    ends-line c.args.self.now _
    (elim c.if-self-len.branch [
      | then-self-len w ↦ inl (omega (arith, w.if-self-len.true, c.len.ensures), (rw w.self-is at pushed) ∙ ap (λ t. t ++ 10 ∷ []) w.strip_end.ensures)
      | else-self-len w ↦ inr (λ e. omega (arith, e, w.if-self-len.false, c.len.ensures), rw w.self-is at pushed)
    ]) refl refl
