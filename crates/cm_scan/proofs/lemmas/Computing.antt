-- Computing the definitions at literals.
use Rattle.cm_scan.specs.Words.{skip, front_of, run_length, after_run, trim_end_by, after_word, is_at_word, holds_word}
use Rattle.cm_scan.specs.blocks.Lines.{past, marks, size}
use Rattle.cm_scan.specs.blocks.LineForms.{is_thematic_break, without_closing, atx_heading, underline, fence_of, opening_fence, is_closing_fence, bullet_marker, marker_after, ordered_marker, item_marker}
use Rattle.cm_scan.specs.spans.Tags.{after_gap, tag_name, after_quoted, after_unquoted, after_value, after_specification, after_attribute, after_tag_end, after_attributes, open_tag, closing_tag}
use Rattle.cm_scan.specs.blocks.HtmlBlocks.{block_names, common_block_names, is_raw_text_start, is_declaration_start, is_block_tag_start, is_any_tag_start, html_start, is_html_end}
use Rattle.cm_scan.specs.inlines.Links.{up_to_closing, label, bare_run, destination, has_blank_line, title_in, title, after_line, titled, untitled, link_definition, definitions_within, definitions_of}
use Rattle.cm_scan.specs.blocks.Starts.{start_of_content, start_of, interrupts_paragraph, underline_of, continuation_if_lazy, after_quote_marker, continuation_in_quote, content_offset, content_column, first_content, continuation_in_item}
use Rattle.cm_scan.specs.blocks.Parts.{info_of, leaves_paragraph_open, next_items, put_item, put_leaves, is_separated, is_loose, line_owners, table_of, leaves_open_after, items_leave_open, ends_blank_after, items_end_blank, blocks_of_parts, blocks_of_items, leaf_count, item_leaf_count, owners_after, item_owners_after, depths_of, item_depths_of, definitions_in, item_definitions_in}
use Rattle.cm_scan.specs.blocks.Blocks.{rest_of, next_line, text_run, line_feeds, definition_leaves, leaves_of_run, fenced, html_to_end, html_to_blank, html_lines, indented, inside, quote_parts, item_parts, fence_parts, html_parts, code_parts, text_parts, parts_by_start, parts_by_cases, parts_within, parts_of, blocks_of, owners_of, reference_table, first_too_deep}
use Rattle.cm_text.proofs.lemmas.Computing.{reading_references}

-- `unfolding block_structure` lets `refl` compute the block structure of a text
unfoldable pub block_structure : Unit {0}
unfolding skip front_of run_length after_run trim_end_by after_word is_at_word holds_word past marks size is_thematic_break without_closing atx_heading underline fence_of opening_fence is_closing_fence bullet_marker marker_after ordered_marker item_marker after_gap tag_name after_quoted after_unquoted after_value after_specification after_attribute after_tag_end after_attributes open_tag closing_tag block_names common_block_names is_raw_text_start is_declaration_start is_block_tag_start is_any_tag_start html_start is_html_end up_to_closing label bare_run destination has_blank_line title_in title after_line titled untitled link_definition definitions_within definitions_of start_of_content start_of interrupts_paragraph underline_of continuation_if_lazy after_quote_marker continuation_in_quote content_offset content_column first_content continuation_in_item info_of leaves_paragraph_open next_items put_item put_leaves is_separated is_loose line_owners table_of leaves_open_after items_leave_open ends_blank_after items_end_blank blocks_of_parts blocks_of_items leaf_count item_leaf_count owners_after item_owners_after depths_of item_depths_of definitions_in item_definitions_in rest_of next_line text_run line_feeds definition_leaves leaves_of_run fenced html_to_end html_to_blank html_lines indented inside quote_parts item_parts fence_parts html_parts code_parts text_parts parts_by_start parts_by_cases parts_within parts_of blocks_of owners_of reference_table first_too_deep reading_references
block_structure = tt
