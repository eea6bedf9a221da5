-- Computing the definitions of inlines at literals.
use Rattle.cm_scan.specs.Words.{skip, front_of, run_length, after_run, after_word}
use Rattle.cm_scan.specs.spans.Tags.{after_gap, tag_name, after_quoted, after_unquoted, after_value, after_specification, after_attribute, after_tag_end, after_attributes, open_tag, closing_tag}
use Rattle.cm_scan.specs.inlines.Links.{up_to_closing, label, bare_run, destination, has_blank_line, title_in, title}
use Rattle.cm_scan.specs.spans.RawHtml.{beyond_word, from_to, short_end, after_comment, comment, after_declaration, declaration, html_tag, raw_html}
use Rattle.cm_scan.specs.spans.Autolinks.{in_angles, is_scheme, is_absolute, ends_with, is_host_label, is_address, as_autolink, autolink, followed_autolink}
use Rattle.cm_scan.specs.spans.CodeSpans.{up_to_run, but_last, stripped, code_span}
use Rattle.cm_scan.specs.spans.Angles.{before, at_angle}
use Rattle.cm_scan.specs.inlines.Delimiters.{neighbour, delimiters_match}
use Rattle.cm_scan.specs.inlines.Pairing.{settled_after, paired, nearest_opener, pair_leftmost, pairs_within, pair_all}
use Rattle.cm_scan.specs.inlines.Atoms.{backtick_atom, angle_atom, backslash_atom, reference_atom, break_atom, run_between, run_atom, tilde_atom, bang_atom, markup_atom, atom_at}
use Rattle.cm_scan.specs.inlines.Brackets.{after_destination, inline_end, reference_end, end_at, last_opener, holds_link, source_up_to, closed_by_bracket, close_bracket}
use Rattle.cm_scan.specs.inlines.Inlines.{add_atom, item_step, items_after, items_of, inlines_of}
use Rattle.cm_text.specs.Addresses.{address_scheme}
use Rattle.cm_text.proofs.lemmas.Computing.{label_folding, character_kinds, reading_references}

-- `unfolding inline_structure` lets `refl` compute the inlines of a source
unfoldable pub inline_structure : Unit {0}
unfolding skip front_of run_length after_run after_word after_gap tag_name after_quoted after_unquoted after_value after_specification after_attribute after_tag_end after_attributes open_tag closing_tag up_to_closing label bare_run destination has_blank_line title_in title beyond_word from_to short_end after_comment comment after_declaration declaration html_tag raw_html in_angles is_scheme is_absolute ends_with is_host_label is_address as_autolink autolink followed_autolink address_scheme up_to_run but_last stripped code_span before at_angle neighbour delimiters_match settled_after paired nearest_opener pair_leftmost pairs_within pair_all backtick_atom angle_atom backslash_atom reference_atom break_atom run_between run_atom tilde_atom bang_atom markup_atom atom_at after_destination inline_end reference_end end_at last_opener holds_link source_up_to closed_by_bracket close_bracket add_atom item_step items_after items_of inlines_of label_folding character_kinds reading_references
inline_structure = tt
