use Rattle.std.specs.Str.{str_to_ascii_lowercase}
use Rattle.std.proofs.Common.{◌≡◌, ◌∙◌, true, length, sym, ap, arith}
use Rattle.cm_scan.specs.Words.{is_at_word}
use Rattle.cm_scan.specs.blocks.HtmlBlocks.{is_at_name_end}
use Rattle.cm_scan.proofs.lemmas.blocks.WordsInAnyCase.{slice_from, named_yes, named_no, named_longer}
use Rattle.cm_scan.proofs.html_blocks.is_named_start.Goals as goal
use Rattle.cm_scan.proofs.html_blocks.is_named_start.Goals.{then-beyond-name-via-then-beyond-name, then-beyond-name-via-else-beyond-name+then-not-is_at_word}

pub returns-then-beyond-name : goal.returns-then-beyond-name
returns-then-beyond-name c = record {
  start = let name = c.args.name.now in
      let beyond = c.args.beyond.now in
      elim c.then-beyond-name.branch [
        | then-beyond-name-via-then-beyond-name w ↦ sym (named_longer name beyond (omega arith))
        | then-beyond-name-via-else-beyond-name+then-not-is_at_word w ↦
            sym (named_no name beyond (ap (λ word. is_at_word word (str_to_ascii_lowercase beyond)) (sym w.as_bytes.ensures.value) ∙ sym w.is_at_word.ensures.word ∙ w.if-not-is_at_word.true))
      ];
}

pub returns : goal.returns
returns c = record {
  start = let name = c.args.name.now in
      let beyond = c.args.beyond.now in
      let is : is_at_word name (str_to_ascii_lowercase beyond) ≡ true =
      ap (λ word. is_at_word word (str_to_ascii_lowercase beyond)) (sym c.as_bytes.ensures.value) ∙ sym c.is_at_word.ensures.word ∙ c.if-not-is_at_word.false in
      c.is_at_name_end.ensures.ends ∙ ap is_at_name_end (slice_from (length name) beyond) ∙ sym (named_yes name beyond is);
}
