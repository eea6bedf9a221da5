use Rattle.std.proofs.Common.{◌∙◌, ◌-◌, length, get_or, ap, sym}
use Rattle.cm_text.specs.LineText.{is_line_ending}
use Rattle.cm_text.proofs.lemmas.EndedLines.{ends_by_last}
use Rattle.cm_text.proofs.endings.ends_a_line.Goals as goal

pub returns : goal.returns
returns c = record {
  ends = c.contains.ensures ∙ ap (λ t. is_line_ending (get_or t (length c.args.text.now - 1) 0)) c.as_bytes.ensures.value
      ∙ sym (ends_by_last c.args.text.now c.requires);
}
