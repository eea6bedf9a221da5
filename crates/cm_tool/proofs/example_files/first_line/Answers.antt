use Rattle.std.proofs.Common.{◌≡◌, ◌∙◌, ◌+◌, ap, cond, sym}
use Rattle.std.proofs.lemmas.List.{take_rest}
use Rattle.cm_tool.proofs.lemmas.LineLemmas.{is_pair, line_at, whole_line}
use Rattle.cm_tool.proofs.example_files.first_line.Goals.{then-starts_with, else-starts_with}
use Rattle.cm_tool.proofs.example_files.first_line.Goals as goal

pub returns-in_default-clause-lines : goal.returns-in_default-clause-lines
returns-in_default-clause-lines c =
    rw (sym c.as_bytes-bytes.ensures.value) (whole_line c.as_bytes-bytes.result.now (rw c.as_bytes-bytes.ensures.value c.requires) c.in_default.ensures)

pub returns-clause-lines : goal.returns-clause-lines
returns-clause-lines c =
    let bytes = c.as_bytes-bytes.result.now in
    let first = c.in-Some.ensures in
    let value = c.starts_with.ensures.value in
    let last_is : c.if-starts_with.last ≡ cond c.starts_with.result (c.in-Some.at + 1) c.in-Some.at = elim c.if-starts_with.branch [
      | then-starts_with w ↦ w.last-is ∙ ap (λ b. cond b (c.in-Some.at + 1) c.in-Some.at) (sym w.if-starts_with.true)
      | else-starts_with w ↦ w.last-is ∙ ap (λ b. cond b (c.in-Some.at + 1) c.in-Some.at) (sym w.if-starts_with.false)
    ] in
    rw (c.cut_at.ensures.before, c.cut_at-2.ensures.after, sym c.as_bytes-bytes.ensures.value)
    (line_at bytes c.in-Some.at c.if-starts_with.last c.starts_with.result first.0.high first.1 first.0.before (ap is_pair (sym (take_rest bytes c.in-Some.at)) ∙ sym value) last_is)
