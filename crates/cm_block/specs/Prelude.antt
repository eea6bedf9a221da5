-- Names of the crates below that the contracts of this crate use often. It defines nothing.
pub use Rattle.std.specs.Option.{option_map}
pub use Rattle.cm_scan.specs.blocks.Blocks.{add_text, closes_fence, content_leaf, definition_leaves, line_count, line_feeds, next_line, rest_of}
pub use Rattle.cm_scan.specs.blocks.HtmlBlocks.{ends_at_blank_line, html_start, is_at_letter, is_html_end}
pub use Rattle.cm_scan.specs.blocks.HtmlKinds.{kind_of}
pub use Rattle.cm_scan.specs.laws.PartLaws.{goes_inward}
pub use Rattle.cm_scan.specs.blocks.LineForms.{atx_heading, is_thematic_break, item_marker, opening_fence}
pub use Rattle.cm_scan.specs.blocks.Lines.{as_lazy, content_of, is_blank, with_ending}
pub use Rattle.cm_scan.specs.inlines.Links.{definitions_of, link_definition}
pub use Rattle.cm_scan.specs.blocks.Parts.{as_space, code, definition, html, info_of, leaf_block}
pub use Rattle.cm_scan.specs.blocks.Starts.{BreakLine, HtmlStart, ItemStart, QuoteMarker, after_marker, after_quote_marker, can_interrupt, content_column, content_offset, first_content, interrupts_paragraph, may_be_lazy, or_text, continuation_if_lazy, continuation_in_item, continuation_in_quote, start_of, start_of_content, starts_at_one, underline_of}
pub use Rattle.cm_scan.specs.Words.{given, is_blank_text, is_empty, run_length, trim_end, ◌<|>◌}
pub use Rattle.cm_text.specs.Answers.{answer_after}
pub use Rattle.cm_text.specs.Indentation.{indent_of, strip_columns}
pub use Rattle.cm_text.specs.LineText.{is_line}
pub use Rattle.cm_text.specs.Lines.{LineView, plain_lines_of, seen_line}
pub use Rattle.cm_text.specs.Views.{seen_view}
pub use Rattle.cm_tree.specs.Followed.{is_line_space}
pub use Rattle.cm_tree.specs.RawBlocks.{ArePlaced, Grows, IsItem, IsPlaced, IsRange, Raw, block_in, blocks_in, item_in, raw_inlines}
