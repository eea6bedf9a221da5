use Rattle.std.proofs.Common.{refl}
use Rattle.cm_scan.proofs.lemmas.Computing.{block_structure}
use Rattle.cm_scan.specs.laws.BlockExamples.{LeafExamples, ContainerExamples, DefinitionExamples, DepthExamples, BoundExamples}
use Rattle.cm_scan.proofs.laws.worked_examples.Goals as goal

leaves : LeafExamples
unfolding block_structure
leaves = record {
  no_lines = record { tree = refl; lines = refl };
  atx_headings = record { tree = refl; lines = refl };
  underline_and_break = record { tree = refl; lines = refl };
  indented_code = record { tree = refl; lines = refl };
  tildes = record { tree = refl; lines = refl };
  html_up_to_a_blank_line = record { tree = refl; lines = refl };
  comment_over_a_blank_line = record { tree = refl; lines = refl };
  html_interrupts_a_paragraph = record { tree = refl; lines = refl };
  fence_with_a_column = record { tree = refl; lines = refl };
  tab_inside_code = record { tree = refl; lines = refl };
  fence_interrupts_a_paragraph = record { tree = refl; lines = refl };
  shorter_fence_closes_nothing = record { tree = refl; lines = refl };
  last_html_interrupts_nothing = record { tree = refl; lines = refl };
  seven_number_signs = record { tree = refl; lines = refl };
  escaped_closing_sequence = record { tree = refl; lines = refl };
  gap_in_an_underline = record { tree = refl; lines = refl };
  backtick_in_an_info_string = record { tree = refl; lines = refl };
  info_string_resolved = record { tree = refl; lines = refl };
  search_interrupts_a_paragraph = record { tree = refl; lines = refl };
  source_interrupts_nothing = record { tree = refl; lines = refl };
  older_search = record { tree = refl; lines = refl };
  older_source = record { tree = refl; lines = refl };
}

containers : ContainerExamples
unfolding block_structure
containers = record {
  lazy_line = record { tree = refl; lines = refl };
  lazy_line_is_no_underline = record { tree = refl; lines = refl };
  break_ends_a_quote = record { tree = refl; lines = refl };
  bare_marker_and_blank_line = record { tree = refl; lines = refl };
  code_in_an_item = record { tree = refl; lines = refl };
  two_interrupts_nothing = record { tree = refl; lines = refl };
  loose_list = record { tree = refl; lines = refl };
  list_in_a_list = record { tree = refl; lines = refl };
  tabs_in_a_quote = record { tree = refl; lines = refl };
  two_delimiters = record { tree = refl; lines = refl };
  four_columns_are_lazy = record { tree = refl; lines = refl };
  blank_line_of_a_quote = record { tree = refl; lines = refl };
  open_fence_in_an_item = record { tree = refl; lines = refl };
  three_quotes = record { tree = refl; lines = refl };
  lazy_line_inside_two_quotes = record { tree = refl; lines = refl };
  ten_digits = record { tree = refl; lines = refl };
}

definitions : DefinitionExamples
unfolding block_structure
definitions = record {
  text_after_a_title = record { tree = refl; lines = refl };
  title_that_is_none = record { tree = refl; lines = refl };
  definition_interrupts_nothing = record { tree = refl; lines = refl };
  title_over_lines = record { tree = refl; lines = refl };
  lazy_line_after_a_definition = record { tree = refl; lines = refl };
  underline_after_definitions = record { tree = refl; lines = refl };
  heading_after_a_definition = record { tree = refl; lines = refl };
  break_after_a_definition = record { tree = refl; lines = refl };
  destination_in_angles = record { tree = refl; lines = refl };
  resolved = record { tree = refl; lines = refl };
  first_of_a_list = record { tree = refl; lines = refl };
  second_item = record { tree = refl; lines = refl };
  blank_after_it = record { tree = refl; lines = refl };
  definition_in_an_item = record { tree = refl; lines = refl };
  definition_makes_it_loose = record { tree = refl; lines = refl };
}

depths : DepthExamples
unfolding block_structure
depths = record {
  within_the_limit = refl;
  past_the_limit = refl;
  items_count = refl;
  hundred_quotes = refl;
  one_more = refl;
}

bounds : BoundExamples
unfolding block_structure
bounds = record {
  longest_label = refl;
  longer_label = refl;
  most_parentheses = refl;
  more_parentheses = refl;
}

pub returns-clause-leaves : goal.returns-clause-leaves
returns-clause-leaves c = leaves

pub returns-clause-containers : goal.returns-clause-containers
returns-clause-containers c = containers

pub returns-clause-definitions : goal.returns-clause-definitions
returns-clause-definitions c = definitions

pub returns-clause-depths : goal.returns-clause-depths
returns-clause-depths c = depths

pub returns-clause-bounds : goal.returns-clause-bounds
returns-clause-bounds c = bounds
