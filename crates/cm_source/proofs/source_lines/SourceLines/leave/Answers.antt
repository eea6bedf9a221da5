use Rattle.std.proofs.Common.{take, ap, ◌∙◌}
use Rattle.std.specs.Prelude.{string_bytes}
use Rattle.cm_source.specs.declared.source_lines.SourceLines.{SourceLines}
use Rattle.cm_source.proofs.lemmas.spelling.WrittenLineLemmas.{leaves-begun, leaves-ended}
use Rattle.cm_source.proofs.source_lines.SourceLines.leave.Goals.{then-self+in_ok-end_line, else-self}
use Rattle.cm_source.proofs.source_lines.SourceLines.leave.Goals as goal

pub returns : goal.returns
returns c =
    let old = c.args.self.now in
    let front = c.args.front in
    let cut = c.truncate.ensures.bytes in
    elim c.if-self.branch [
      | then-self+in_ok-end_line w ↦
          leaves-begun old w.end_line.new.self _ front w.if-self.true w.in_ok-end_line.ensures (ap (λ (s : SourceLines). string_bytes s.text) w.self-is) (ap (λ (s : SourceLines). s.begun) w.self-is) (cut ∙ ap (λ (s : SourceLines). take front (string_bytes s.front)) w.self-is)
      | else-self w ↦ leaves-ended old _ front w.if-self.false (ap (λ (s : SourceLines). string_bytes s.text) w.self-is) (ap (λ (s : SourceLines). s.begun) w.self-is) (cut ∙ ap (λ (s : SourceLines). take front (string_bytes s.front)) w.self-is)
    ]
