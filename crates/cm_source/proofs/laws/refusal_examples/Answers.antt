use Rattle.std.proofs.Common.{refl}
use Rattle.cm_text.proofs.lemmas.Computing.{character_kinds}
use Rattle.cm_scan.proofs.lemmas.Computing.{block_structure}
use Rattle.cm_scan.proofs.lemmas.InlineComputing.{inline_structure}
use Rattle.cm_source.specs.RefusalExamples.{InlineRefusalExamples, RefusalExamples}
use Rattle.cm_source.proofs.lemmas.shared.Computing.{judging}
use Rattle.cm_source.proofs.laws.refusal_examples.Goals as goal

of_inlines : InlineRefusalExamples
unfolding character_kinds block_structure inline_structure
of_inlines = record {
  accepted = simp judging;
  nul = simp judging;
  nul_in_a_title = simp judging;
  empty_text = simp judging;
  divided_text = simp judging;
  nested = simp judging;
  nested_strike = simp judging;
  touching = simp judging;
  without_content = simp judging;
  space_inside = simp judging;
  plain_before_punctuation = simp judging;
  plain_before_plain = simp judging;
  plain_after_a_code_span = simp judging;
  empty_code_span = simp judging;
  two_code_spans = simp judging;
  end_of_a_label = simp judging;
  end_of_a_label_later = simp judging;
  html_first = simp judging;
  html_after_a_break = simp judging;
  two_tags = simp judging;
  autolink_as_a_declaration = simp judging;
  link_in_link = simp judging;
  break_in_a_heading = simp judging;
  break_first = simp judging;
  break_last_in_emphasis = simp judging;
  strike = simp judging;
  strike_off = simp judging;
  link_off = simp judging;
  image_off = simp judging;
  link_of_the_web = simp judging;
  raw_html_off = simp judging;
}

of_blocks : RefusalExamples
unfolding character_kinds block_structure inline_structure
of_blocks = record {
  nothing = refl;
  accepted = simp judging;
  tight = simp judging;
  loose = simp judging;
  definition = simp judging;
  nul = simp judging;
  seventh_level = simp judging;
  empty_paragraph = simp judging;
  no_items = simp judging;
  ten_digits = simp judging;
  code_without_its_end = simp judging;
  html_before_a_blank_line = simp judging;
  html_without_its_end = simp judging;
  html_of_a_text = simp judging;
  comment = simp judging;
  two_lists = simp judging;
  two_kinds = simp judging;
  list_first = simp judging;
  loose_item_of_one = simp judging;
  tight_item_of_two = simp judging;
  list_from_2_after_a_paragraph = simp judging;
}

pub returns-clause-inlines : goal.returns-clause-inlines
returns-clause-inlines c = of_inlines

pub returns-clause-blocks : goal.returns-clause-blocks
returns-clause-blocks c = of_blocks
