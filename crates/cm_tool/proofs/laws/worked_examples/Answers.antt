use Rattle.std.proofs.Common.{ℕ, List, refl}
use Rattle.ucd_category.proofs.Computing.{ucd_category}
use Rattle.cm_text.specs.Addresses.{address_scheme}
use Rattle.cm_text.proofs.lemmas.Computing.{label_folding}
use Rattle.cm_tool.specs.Shown.{is_nonprinting}
use Rattle.std.specs.Fmt.{digits}
use Rattle.std.specs.Str.{is_utf8, chars}
use Rattle.std.specs.Str.Lossy.{utf8_valid_len, utf8_error_len}
use Rattle.cm_tree.specs.declared.tree.Inline.TheViews.{outs-Text as text, outs-Soft as soft, outs-Hard as hard, outs-Code as code_span, outs-Emph as emph, outs-Strong as strong, outs-Link as link}
use Rattle.cm_tree.specs.declared.tree.Inline.TheFolds.{fold_out-Inline}
use Rattle.cm_tree.specs.declared.tree.Block.{Block}
use Rattle.cm_tree.specs.declared.tree.Block.TheVariants.{outs-Paragraph as paragraph, outs-Heading as heading, outs-Code as code, outs-Html as raw, outs-Break as thematic, outs-Definition as definition, outs-Quote as quote, outs-List as items}
use Rattle.cm_tree.specs.declared.tree.Block.TheFolds.{fold_out-Block}
use Rattle.cm_scan.proofs.lemmas.Computing.{block_structure}
use Rattle.cm_scan.proofs.lemmas.InlineComputing.{inline_structure}
use Rattle.cm_html.specs.Escape.{is_kept, destination_byte, class_word}
use Rattle.cm_html.specs.Html.{Rendered, inline_step, Written, block_step}
use Rattle.cm_tree.specs.Depth.{depth_step}
use Rattle.cm_tool.specs.Leaves.{depths_step}
use Rattle.cm_tool.proofs.laws.worked_examples.Goals as goal
use lib.Utf8.{encode}

pub returns-clause-faults : goal.returns-clause-faults
unfolding block_structure inline_structure utf8_valid_len utf8_error_len is_utf8 chars encode
returns-clause-faults c = record {
  line_before_a_fault = refl;
  line_cut_by_a_fault = refl;
  past_the_limit = refl;
  within_the_limit = simp (fold_out-Block Block, fold_out-Block (List ℕ) depths_step, fold_out-Inline ℕ depth_step, quote, paragraph, text);
  carriage_return = refl;
  unended = refl;
  unended_at_the_end = refl;
  second_leaf = simp (fold_out-Block Block, fold_out-Block (List ℕ) depths_step, fold_out-Inline ℕ depth_step, thematic, paragraph, text, emph, strong);
  leaf_within_the_limit = simp (fold_out-Block Block, fold_out-Block (List ℕ) depths_step, fold_out-Inline ℕ depth_step, thematic, paragraph, text, emph, strong);
  leaf_not_settled = refl;
  line_before_a_leaf = refl;
}

pub returns-clause-html : goal.returns-clause-html
unfolding block_structure inline_structure label_folding class_word digits is_kept destination_byte address_scheme
returns-clause-html c = record {
  no_text = refl;
  paragraph_over_two_lines = simp (fold_out-Block Block, fold_out-Block Written block_step, fold_out-Inline Rendered inline_step, paragraph, text, soft);
  break_between_paragraphs = simp (fold_out-Block Block, fold_out-Block Written block_step, fold_out-Inline Rendered inline_step, paragraph, thematic, text);
  heading = simp (fold_out-Block Block, fold_out-Block Written block_step, fold_out-Inline Rendered inline_step, heading, thematic, text);
  heading_over_two_lines = simp (fold_out-Block Block, fold_out-Block Written block_step, fold_out-Inline Rendered inline_step, heading, text, soft);
  references = simp (fold_out-Block Block, fold_out-Block Written block_step, fold_out-Inline Rendered inline_step, paragraph, text);
  carriage_return = simp (fold_out-Block Block, fold_out-Block Written block_step, fold_out-Inline Rendered inline_step, paragraph, text, soft);
  carriage_return_line_feed = simp (fold_out-Block Block, fold_out-Block Written block_step, fold_out-Inline Rendered inline_step, paragraph, text, soft);
  nul = simp (fold_out-Block Block, fold_out-Block Written block_step, fold_out-Inline Rendered inline_step, paragraph, text);
  blank_line = simp (fold_out-Block Block, fold_out-Block Written block_step, fold_out-Inline Rendered inline_step, paragraph, text);
  emphasis = simp (fold_out-Block Block, fold_out-Block Written block_step, fold_out-Inline Rendered inline_step, paragraph, text, emph, strong);
  link_before_its_definition = simp (fold_out-Block Block, fold_out-Block Written block_step, fold_out-Inline Rendered inline_step, paragraph, definition, text, link);
  search_interrupts_a_paragraph = simp (fold_out-Block Block, fold_out-Block Written block_step, fold_out-Inline Rendered inline_step, paragraph, raw, text);
  source_by_the_older_rules = simp (fold_out-Block Block, fold_out-Block Written block_step, fold_out-Inline Rendered inline_step, paragraph, raw, text);
  block_of_a_stranger = simp (fold_out-Block Block, fold_out-Block Written block_step, fold_out-Inline Rendered inline_step, paragraph, text, emph);
  tag_of_a_stranger = simp (fold_out-Block Block, fold_out-Block Written block_step, fold_out-Inline Rendered inline_step, paragraph, text);
  link_of_a_stranger = simp (fold_out-Block Block, fold_out-Block Written block_step, fold_out-Inline Rendered inline_step, paragraph, text, link);
  autolinks_of_a_stranger = simp (fold_out-Block Block, fold_out-Block Written block_step, fold_out-Inline Rendered inline_step, paragraph, text, link);
  class_of_a_stranger = simp (fold_out-Block Block, fold_out-Block Written block_step, code);
  indented_code = simp (fold_out-Block Block, fold_out-Block Written block_step, code);
  lazy_line = simp (fold_out-Block Block, fold_out-Block Written block_step, fold_out-Inline Rendered inline_step, quote, paragraph, text, soft);
  list_in_a_quote = simp (fold_out-Block Block, fold_out-Block Written block_step, fold_out-Inline Rendered inline_step, quote, items, paragraph, text, soft);
  spaces_after_a_tab = simp (fold_out-Block Block, fold_out-Block Written block_step, fold_out-Inline Rendered inline_step, paragraph, text, hard);
  code_and_escape = simp (fold_out-Block Block, fold_out-Block Written block_step, fold_out-Inline Rendered inline_step, paragraph, text, code_span);
}

pub returns-clause-files : goal.returns-clause-files
unfolding block_structure inline_structure utf8_valid_len utf8_error_len is_utf8 chars encode class_word digits
returns-clause-files c = record {
  no_examples = refl;
  agrees = simp (fold_out-Block Block, fold_out-Block (List ℕ) depths_step, fold_out-Inline ℕ depth_step, fold_out-Block Written block_step, fold_out-Inline Rendered inline_step, paragraph, text);
  empty_source = refl;
  differs = simp (fold_out-Block Block, fold_out-Block (List ℕ) depths_step, fold_out-Inline ℕ depth_step, fold_out-Block Written block_step, fold_out-Inline Rendered inline_step, paragraph, text);
  by_the_older_rules = simp (fold_out-Block Block, fold_out-Block (List ℕ) depths_step, fold_out-Inline ℕ depth_step, fold_out-Block Written block_step, fold_out-Inline Rendered inline_step, paragraph, raw, text);
  arrow_as_a_tab = refl;
  opening_line_in_a_source = refl;
  carriage_returns = refl;
  more_after_the_word = refl;
  opening_line_alone = refl;
  closed_before_the_middle = refl;
  no_closing_line = refl;
  all_agree = refl;
  first_that_differs = refl;
}

pub returns-clause-shown : goal.returns-clause-shown
unfolding ucd_category is_nonprinting chars encode
returns-clause-shown c = record {
  name = refl;
  letter_beyond_ascii = refl;
  backslash = refl;
  escape = refl;
  line_feed = refl;
  delete = refl;
  next_line = refl;
  line_separator = refl;
  override_of_direction = refl;
  tag = refl;
}

pub returns-clause-places : goal.returns-clause-places
unfolding block_structure digits is_nonprinting ucd_category chars encode
returns-clause-places c = record {
  first_byte = refl;
  line_feed = refl;
  start_of_a_line = refl;
  empty_line = refl;
  carriage_return = refl;
  between_both = refl;
  after_both = refl;
  nul = refl;
  no_utf8 = refl;
  too_long = refl;
  leaf = refl;
  told_already = refl;
  nowhere = refl;
  named = refl;
  named_with_the_line = refl;
}
