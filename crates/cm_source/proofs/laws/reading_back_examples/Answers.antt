use Rattle.std.proofs.Common.{refl}
use Rattle.cm_scan.proofs.lemmas.Computing.{block_structure}
use Rattle.cm_scan.proofs.lemmas.InlineComputing.{inline_structure}
use Rattle.cm_source.specs.ReadingBackExamples.{LeafBlockExamples, ContainerExamples, ContentExamples, RuleExamples, MisreadExamples, SourceExamples, NotUtf8Examples}
use Rattle.cm_source.proofs.lemmas.shared.Computing.{string_spellings, spelling, judging, reading, sourcing}
use Rattle.cm_source.proofs.laws.reading_back_examples.Goals as goal

leaves : LeafBlockExamples
unfolding block_structure inline_structure string_spellings
leaves = record {
  nothing = record { spellable = refl; spelled = refl; read = refl };
  paragraph_alone = record { spellable = simp judging; spelled = simp spelling; read = simp reading };
  paragraphs = record { spellable = simp judging; spelled = simp spelling; read = simp reading };
  looks_like_a_heading = record { spellable = simp judging; spelled = simp spelling; read = simp reading };
  looks_like_an_item = record { spellable = simp judging; spelled = simp spelling; read = simp reading };
  looks_like_code = record { spellable = simp judging; spelled = simp spelling; read = simp reading };
  heading = record { spellable = simp judging; spelled = simp spelling; read = simp reading };
  closed_by_no_sign = record { spellable = simp judging; spelled = simp spelling; read = simp reading };
  heading_without_content = record { spellable = simp judging; spelled = simp spelling; read = simp reading };
  thematic_break = record { spellable = simp judging; spelled = simp spelling; read = simp reading };
  code = record { spellable = simp judging; spelled = simp spelling; read = simp reading };
  code_without_lines = record { spellable = simp judging; spelled = simp spelling; read = simp reading };
  code_with_a_fence = record { spellable = simp judging; spelled = simp spelling; read = simp reading };
  html = record { spellable = simp judging; spelled = simp spelling; read = simp reading };
  comment_over_a_blank_line = record { spellable = simp judging; spelled = simp spelling; read = simp reading };
  each = record { spellable = simp judging; spelled = simp spelling; read = simp reading };
}

containers : ContainerExamples
unfolding block_structure inline_structure string_spellings
containers = record {
  quote = record { spellable = simp judging; spelled = simp spelling; read = simp reading };
  quote_without_blocks = record { spellable = simp judging; spelled = simp spelling; read = simp reading };
  quote_of_two = record { spellable = simp judging; spelled = simp spelling; read = simp reading };
  two_quotes = record { spellable = simp judging; spelled = simp spelling; read = simp reading };
  quote_in_a_quote = record { spellable = simp judging; spelled = simp spelling; read = simp reading };
  dashes = record { spellable = simp judging; spelled = simp spelling; read = simp reading };
  pluses = record { spellable = simp judging; spelled = simp spelling; read = simp reading };
  stars = record { spellable = simp judging; spelled = simp spelling; read = simp reading };
  full_stops = record { spellable = simp judging; spelled = simp spelling; read = simp reading };
  parentheses = record { spellable = simp judging; spelled = simp spelling; read = simp reading };
  loose = record { spellable = simp judging; spelled = simp spelling; read = simp reading };
  loose_item_of_two = record { spellable = simp judging; spelled = simp spelling; read = simp reading };
  bare_item = record { spellable = simp judging; spelled = simp spelling; read = simp reading };
  bare_items = record { spellable = simp judging; spelled = simp spelling; read = simp reading };
  loose_bare_items = record { spellable = simp judging; spelled = simp spelling; read = simp reading };
  bare_item_before_a_block = record { spellable = simp judging; spelled = simp spelling; read = simp reading };
  two_lists = record { spellable = simp judging; spelled = simp spelling; read = simp reading };
  list_in_a_tight_item = record { spellable = simp judging; spelled = simp spelling; read = simp reading };
  list_in_a_loose_item = record { spellable = simp judging; spelled = simp spelling; read = simp reading };
  code_in_an_item = record { spellable = simp judging; spelled = simp spelling; read = simp reading };
  heading_in_an_item = record { spellable = simp judging; spelled = simp spelling; read = simp reading };
  break_in_an_item = record { spellable = simp judging; spelled = simp spelling; read = simp reading };
  html_in_an_item = record { spellable = simp judging; spelled = simp spelling; read = simp reading };
  list_in_a_quote_in_a_list = record { spellable = simp judging; spelled = simp spelling; read = simp reading };
}

contents : ContentExamples
unfolding block_structure inline_structure string_spellings
contents = record {
  reference = record { spellable = simp judging; spelled = simp spelling; read = simp reading };
  beyond_ascii = record { spellable = simp judging; spelled = simp spelling; read = simp reading };
  code_span = record { spellable = simp judging; spelled = simp spelling; read = simp reading };
  code_span_of_backticks = record { spellable = simp judging; spelled = simp spelling; read = simp reading };
  emphasis = record { spellable = simp judging; spelled = simp spelling; read = simp reading };
  emphasis_inside_a_word = record { spellable = simp judging; spelled = simp spelling; read = simp reading };
  strong = record { spellable = simp judging; spelled = simp spelling; read = simp reading };
  strong_code = record { spellable = simp judging; spelled = simp spelling; read = simp reading };
  link = record { spellable = simp judging; spelled = simp spelling; read = simp reading };
  titled_link = record { spellable = simp judging; spelled = simp spelling; read = simp reading };
  link_to_nowhere = record { spellable = simp judging; spelled = simp spelling; read = simp reading };
  image = record { spellable = simp judging; spelled = simp spelling; read = simp reading };
  image_in_a_link = record { spellable = simp judging; spelled = simp spelling; read = simp reading };
  link_in_emphasis = record { spellable = simp judging; spelled = simp spelling; read = simp reading };
  autolink = record { spellable = simp judging; spelled = simp spelling; read = simp reading };
  raw_html = record { spellable = simp judging; spelled = simp spelling; read = simp reading };
  soft_break = record { spellable = simp judging; spelled = simp spelling; read = simp reading };
  hard_break = record { spellable = simp judging; spelled = simp spelling; read = simp reading };
  break_in_emphasis = record { spellable = simp judging; spelled = simp spelling; read = simp reading };
  spaces_at_a_break = record { spellable = simp judging; spelled = simp spelling; read = simp reading };
  markup_after_a_break = record { spellable = simp judging; spelled = simp spelling; read = simp reading };
  emphasis_in_a_heading = record { spellable = simp judging; spelled = simp spelling; read = simp reading };
  break_in_a_quoted_item = record { spellable = simp judging; spelled = simp spelling; read = simp reading };
}

rules : RuleExamples
unfolding block_structure inline_structure string_spellings
rules = record {
  tildes = record { spellable = simp judging; spelled = simp spelling; read = simp reading };
  tildes_with_strikethrough = record { spellable = simp judging; spelled = simp spelling; read = simp reading };
  strike = record { spellable = simp judging; spelled = simp spelling; read = simp reading };
  strike_off = record { refused = simp judging; spelled = simp spelling; read = simp reading };
  tag_off = record { refused = simp judging; spelled = simp spelling; read = simp reading };
  html_block_off = record { refused = simp judging; spelled = simp spelling; read = simp reading };
  link_off = record { refused = simp judging; spelled = simp spelling; read = simp reading };
  image_off = record { refused = simp judging; spelled = simp spelling; read = simp reading };
  link_of_the_web = record { spellable = simp judging; spelled = simp spelling; read = simp reading };
  info_over_lines = record { spellable = simp judging; spelled = simp spelling; read = simp reading };
  info_off = record { refused = simp judging; spelled = simp spelling; read = simp reading };
  strike_in_a_link = record { spellable = simp judging; spelled = simp spelling; read = simp reading };
  pound_sign = record { refused = simp judging; spelled = simp spelling; read = simp reading };
  older_pound_sign = record { spellable = simp judging; spelled = simp spelling; read = simp reading };
  shortest_comment = record { spellable = simp judging; spelled = simp spelling; read = simp reading };
  older_shortest_comment = record { refused = simp judging; spelled = simp spelling; read = simp reading };
  search = record { spellable = simp judging; spelled = simp spelling; read = simp reading };
  older_search = record { refused = simp judging; spelled = simp spelling; read = simp reading };
  source = record { refused = simp judging; spelled = simp spelling; read = simp reading };
  older_source = record { spellable = simp judging; spelled = simp spelling; read = simp reading };
}

misread : MisreadExamples
unfolding block_structure inline_structure string_spellings
misread = record {
  definition = record { refused = simp judging; spelled = simp spelling; read = refl };
  nul = record { refused = simp judging; spelled = simp spelling; read = simp reading };
  seventh_level = record { refused = simp judging; spelled = simp spelling; read = simp reading };
  ten_digits = record { refused = simp judging; spelled = simp spelling; read = simp reading };
  divided_text = record { refused = simp judging; spelled = simp spelling; read = simp reading };
  emphasis_in_strong = record { refused = simp judging; spelled = simp spelling; read = simp reading };
  emphasis_beside_emphasis = record { refused = simp judging; spelled = simp spelling; read = simp reading };
  emphasis_of_nothing = record { refused = simp judging; spelled = simp spelling; read = simp reading };
  emphasis_of_a_space = record { refused = simp judging; spelled = simp spelling; read = simp reading };
  code_span_over_lines = record { refused = simp judging; spelled = simp spelling; read = simp reading };
  code_span_beside_another = record { refused = simp judging; spelled = simp spelling; read = simp reading };
  html_first = record { refused = simp judging; spelled = simp spelling; read = simp reading };
  link_in_a_link = record { refused = simp judging; spelled = simp spelling; read = simp reading };
  break_last = record { refused = simp judging; spelled = simp spelling; read = simp reading };
  unended_code = record { refused = simp judging; spelled = simp spelling; read = simp reading };
  html_of_text = record { refused = simp judging; spelled = simp spelling; read = simp reading };
  lists_of_one_type = record { refused = simp judging; spelled = simp spelling; read = simp reading };
  three_lists_in_one_another = record { refused = simp judging; spelled = simp spelling; read = simp reading };
  loose_item_of_one = record { refused = simp judging; spelled = simp spelling; read = simp reading };
  tight_item_of_two = record { refused = simp judging; spelled = simp spelling; read = simp reading };
}

sources : SourceExamples
unfolding block_structure inline_structure string_spellings
sources = record {
  content = simp sourcing;
  content_of_nothing = simp sourcing;
  code = simp sourcing;
  inside = simp sourcing;
  read = refl;
  whatever_is_defined = simp spelling;
}

not_utf8 : NotUtf8Examples
unfolding block_structure inline_structure string_spellings
not_utf8 = record {
  in_a_paragraph = simp judging;
  in_a_heading = simp judging;
  content = simp spelling;
  spellable = simp judging;
  spelled = simp spelling;
  read = simp reading;
}

pub returns-clause-leaves : goal.returns-clause-leaves
returns-clause-leaves c = leaves

pub returns-clause-containers : goal.returns-clause-containers
returns-clause-containers c = containers

pub returns-clause-contents : goal.returns-clause-contents
returns-clause-contents c = contents

pub returns-clause-rules : goal.returns-clause-rules
returns-clause-rules c = rules

pub returns-clause-misread : goal.returns-clause-misread
returns-clause-misread c = misread

pub returns-clause-sources : goal.returns-clause-sources
returns-clause-sources c = sources

pub returns-clause-not_utf8 : goal.returns-clause-not_utf8
returns-clause-not_utf8 c = not_utf8
