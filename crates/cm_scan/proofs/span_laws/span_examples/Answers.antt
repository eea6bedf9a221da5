use Rattle.std.proofs.Common.{refl}
use Rattle.cm_scan.specs.spans.Autolinks.{in_angles, is_scheme, is_absolute, ends_with, is_host_label, is_address, as_autolink, autolink}
use Rattle.cm_scan.specs.spans.CodeSpans.{up_to_run, but_last, stripped, code_span}
use Rattle.cm_scan.specs.Words.{run_length, after_run, skip, front_of, after_word}
use Rattle.cm_scan.specs.spans.Tags.{after_gap, tag_name, after_quoted, after_unquoted, after_value, after_specification, after_attribute, after_tag_end, after_attributes, open_tag, closing_tag}
use Rattle.cm_scan.specs.spans.RawHtml.{beyond_word, from_to, short_end, after_comment, comment, after_declaration, declaration, html_tag, raw_html}
use Rattle.cm_scan.specs.spans.Reach.{tag_reach, mark_reach, html_reach, declared, needed_after_mark, needed, link_reach, link_reaches}
use Rattle.cm_scan.specs.laws.SpanExamples.{RawHtmlExamples, ReachExamples, OlderExamples, AutolinkExamples, CodeSpanExamples}
use Rattle.cm_scan.proofs.span_laws.span_examples.Goals as goal

read : RawHtmlExamples
unfolding skip front_of after_word after_gap tag_name after_quoted after_unquoted after_value after_specification after_attribute after_tag_end after_attributes open_tag closing_tag beyond_word from_to short_end after_comment comment after_declaration declaration html_tag raw_html
read = record {
  open_tag = refl;
  closed_at_once = refl;
  three_values = refl;
  over_a_line = refl;
  two_line_endings = refl;
  no_gap = refl;
  name_of_a_digit = refl;
  no_end = refl;
  no_value = refl;
  gap_in_front = refl;
  closing_tag = refl;
  closing_tag_with_attribute = refl;
  comment = refl;
  empty_comment = refl;
  short_comment = refl;
  comment_of_a_hyphen = refl;
  open_comment = refl;
  instruction = refl;
  empty_instruction = refl;
  declaration = refl;
  declaration_of_a_digit = refl;
  character_data = refl;
  character_data_in_lower_case = refl;
  nothing = refl;
  text = refl;
}

older : OlderExamples
unfolding skip front_of after_word after_gap tag_name after_quoted after_unquoted after_value after_specification after_attribute after_tag_end after_attributes open_tag closing_tag beyond_word from_to short_end after_comment comment after_declaration declaration html_tag raw_html
older = record {
  comment = refl;
  empty_comment = refl;
  short_comment = refl;
  comment_of_a_hyphen = refl;
  two_hyphens = refl;
  hyphen_at_the_end = refl;
  open_tag = refl;
}

pub returns-clause-read : goal.returns-clause-read
returns-clause-read c = read

pub returns-clause-older : goal.returns-clause-older
returns-clause-older c = older

links : AutolinkExamples
unfolding skip front_of after_word run_length after_run in_angles is_scheme is_absolute ends_with is_host_label is_address as_autolink autolink up_to_run but_last stripped code_span
links = record {
  absolute = refl;
  made_up_scheme = refl;
  scheme_of_one = refl;
  no_colon = refl;
  space_inside = refl;
  space_in_front = refl;
  no_end = refl;
  address = refl;
  address_like_a_declaration = refl;
  no_local_part = refl;
  escaped_plus = refl;
  empty_label = refl;
  hyphen_at_an_end = refl;
  nothing = refl;
}

reach : ReachExamples
unfolding after_word beyond_word tag_reach mark_reach html_reach declared needed_after_mark needed link_reach link_reaches
reach = record {
  up_to_its_end = refl;
  quoted_bracket = refl;
  next_tag = refl;
  open_quotation = refl;
  comment = refl;
  open_comment = refl;
  older_comment = refl;
  older_comment_needs_nothing = refl;
  declaration = refl;
  no_declaration = refl;
  tag = refl;
  autolink = refl;
  space_in_an_autolink = refl;
  next_autolink = refl;
  autolinks = refl;
}

spans : CodeSpanExamples
unfolding skip front_of after_word run_length after_run in_angles is_scheme is_absolute ends_with is_host_label is_address as_autolink autolink up_to_run but_last stripped code_span
spans = record {
  one = refl;
  longer_run_inside = refl;
  only_two_backticks = refl;
  two_spaces = refl;
  one_space = refl;
  all_spaces = refl;
  line_endings = refl;
  shorter_run_closes_nothing = refl;
  longer_run_closes_nothing = refl;
  no_backtick = refl;
}

pub returns-clause-links : goal.returns-clause-links
returns-clause-links c = links

pub returns-clause-spans : goal.returns-clause-spans
returns-clause-spans c = spans

pub returns-clause-reach : goal.returns-clause-reach
returns-clause-reach c = reach
