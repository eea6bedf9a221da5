use Rattle.std.proofs.Common.{⊎_elim, ◌∙◌, codes, refl, sym, ap}
use Rattle.cm_scan.specs.blocks.HtmlBlocks.{is_html_end}
use Rattle.cm_scan.specs.blocks.HtmlKinds.{kind_of}
use Rattle.cm_scan.proofs.lemmas.blocks.WordsInAnyCase.{any_case}
use Rattle.cm_scan.proofs.html_blocks.is_html_end.Goals as goal

pub returns-in-RawText : goal.returns-in-RawText
unfolding is_html_end
returns-in-RawText c = record { ends = c.holds_raw_text_end.ensures.held ∙ sym (ap (λ k. is_html_end (kind_of k) c.args.bytes.now) c.in-RawText.is) }

pub returns-in-Comment : goal.returns-in-Comment
unfolding is_html_end
returns-in-Comment c = record { ends = c.holds_word.ensures.held ∙ any_case (codes "-->") c.args.bytes.now refl ∙ sym (ap (λ k. is_html_end (kind_of k) c.args.bytes.now) c.in-Comment.is) }

pub returns-in-Instruction : goal.returns-in-Instruction
unfolding is_html_end
returns-in-Instruction c = record { ends = c.holds_word-in-Instruction.ensures.held ∙ any_case (codes "?>") c.args.bytes.now refl ∙ sym (ap (λ k. is_html_end (kind_of k) c.args.bytes.now) c.in-Instruction.is) }

pub returns-in-Declaration : goal.returns-in-Declaration
unfolding is_html_end
returns-in-Declaration c = record { ends = c.holds_word-in-Declaration.ensures.held ∙ any_case (codes ">") c.args.bytes.now refl ∙ sym (ap (λ k. is_html_end (kind_of k) c.args.bytes.now) c.in-Declaration.is) }

pub returns-in-CharacterData : goal.returns-in-CharacterData
unfolding is_html_end
returns-in-CharacterData c = record { ends = c.holds_word-in-CharacterData.ensures.held ∙ any_case (codes "]]>") c.args.bytes.now refl ∙ sym (ap (λ k. is_html_end (kind_of k) c.args.bytes.now) c.in-CharacterData.is) }

pub returns-in-BlockTag : goal.returns-in-BlockTag
unfolding is_html_end
returns-in-BlockTag c = record {
  ends = ⊎_elim
      (λ is. sym (ap (λ k. is_html_end (kind_of k) c.args.bytes.now) is))
      (λ is. sym (ap (λ k. is_html_end (kind_of k) c.args.bytes.now) is))
      c.in-BlockTag.is;
}
