use Rattle.std.proofs.Common.{◌≡◌, ℕ, List, [], ◌∷◌, None, codes, refl, ap, ◌∙◌}
use Rattle.std.specs.Prelude.{nat_lt}
use Rattle.cm_text.specs.Rules.{Rules, profile}
use Rattle.cm_tree.specs.Depth.{depth_step, inlines_depth}
use Rattle.cm_tree.specs.declared.tree.Inline.{Inline}
use Rattle.cm_tree.specs.declared.tree.Inline.TheVariants.{Text, Code, Emph, Strong, Strike, Link, Image}
use Rattle.cm_tree.specs.declared.tree.Inline.TheViews.{outs-Text, outs-Code, outs-Emph, outs-Strong, outs-Strike, outs-Link, outs-Image}
use Rattle.cm_tree.specs.declared.tree.Inline.TheFolds.{fold_out-Inline}
use Rattle.cm_scan.specs.inlines.Inlines.{inlines_of, depth_of_leaf}
use Rattle.cm_scan.specs.laws.InlineExamples.{struck, Nests}
use Rattle.cm_scan.proofs.lemmas.InlineComputing.{inline_structure}
use Rattle.cm_scan.proofs.inline_laws.inline_examples.Goals as goal

pub returns-clause-code_span : goal.returns-clause-code_span
unfolding inline_structure
returns-clause-code_span c = record { simple = refl; longer_run_inside = refl; spaces_stripped = refl; one_space_at_each_end = refl; space_at_one_end = refl; only_spaces = refl; line_endings = refl; no_escapes = refl; before_emphasis = refl; before_a_link = refl; before_a_tag = refl; after_a_tag = refl; after_an_autolink = refl; runs_that_do_not_match = refl; no_end = refl; shorter_run_first = refl; shorter_run_between_spaces = refl; two_and_one = refl }

pub returns-clause-opens_emphasis : goal.returns-clause-opens_emphasis
unfolding inline_structure
returns-clause-opens_emphasis c = record { star = refl; star_before_a_space = refl; star_between_a_letter_and_punctuation = refl; star_before_a_no_break_space = refl; star_before_a_symbol = refl; star_before_a_pound_sign = refl; star_before_a_euro_sign = refl; star_inside_a_word = refl; star_between_digits = refl; underscore = refl; underscore_before_a_space = refl; underscore_between_a_letter_and_punctuation = refl; underscore_inside_a_word = refl; underscore_between_digits = refl; underscore_between_cyrillic_letters = refl; underscore_before_a_quotation_mark = refl; underscore_after_punctuation = refl }

pub returns-clause-closes_emphasis : goal.returns-clause-closes_emphasis
unfolding inline_structure
returns-clause-closes_emphasis c = record { other_character = refl; star_after_a_space = refl; star_after_a_line_ending = refl; star_after_punctuation = refl; star_in_emphasis = refl; star_inside_a_word = refl; underscore_after_a_space = refl; underscore_after_punctuation = refl; underscore_in_emphasis = refl; underscore_inside_a_word = refl; underscores_inside_a_word = refl; underscore_before_a_full_stop = refl }

pub returns-clause-opens_strong : goal.returns-clause-opens_strong
unfolding inline_structure
returns-clause-opens_strong c = record { stars = refl; stars_before_a_space = refl; stars_between_a_letter_and_punctuation = refl; stars_inside_a_word = refl; underscores = refl; underscores_before_a_space = refl; underscores_before_a_line_ending = refl; underscores_between_a_letter_and_punctuation = refl; underscores_inside_a_word = refl; underscores_in_strong = refl; underscores_after_punctuation = refl }

pub returns-clause-closes_strong : goal.returns-clause-closes_strong
unfolding inline_structure
returns-clause-closes_strong c = record { stars_after_a_space = refl; stars_after_punctuation = refl; stars_in_emphasis = refl; emphasis_in_quotation_marks = refl; stars_inside_a_word = refl; underscores_after_a_space = refl; underscores_after_punctuation = refl; underscores_in_emphasis = refl; underscores_inside_a_word = refl; underscores_inside_words = refl; underscores_before_a_full_stop = refl }

pub returns-clause-inside_emphasis : goal.returns-clause-inside_emphasis
unfolding inline_structure
returns-clause-inside_emphasis c = record { link = refl; line_ending = refl; strong = refl; emphasis = refl; emphasis_at_the_front = refl; emphasis_at_the_end = refl; strong_between_spaces = refl; strong_inside_a_word = refl; sum_of_three = refl; strong_at_the_front = refl; strong_at_the_end = refl; strong_at_the_end_of_a_word = refl; both_of_three = refl; six_and_nine = refl; three_deep = refl; emphasis_in_a_link = refl; nothing_inside = refl; no_strong_of_nothing = refl; link_in_strong = refl; emphasis_in_strong = refl; strong_in_strong = refl; emphasis_at_the_front_of_strong = refl; emphasis_at_the_end_of_strong = refl; whole_lengths_count = refl; strong_in_emphasis_of_one_run = refl }

pub returns-clause-left_over : goal.returns-clause-left_over
unfolding inline_structure
returns-clause-left_over c = record { three_stars = refl; escaped_star = refl; underscore_inside = refl; escaped_star_in_strong = refl; one_star_before = refl; one_star_after = refl; star_before_strong = refl; three_stars_before = refl; star_after_strong = refl; three_stars_after = refl; three_underscores = refl; escaped_underscore = refl; star_inside = refl; one_underscore_before = refl; underscore_after_strong = refl }

pub returns-clause-ambiguity : goal.returns-clause-ambiguity
unfolding inline_structure
returns-clause-ambiguity c = record { strong_and_no_nested_emphasis = refl; two_kinds = refl; underscores_strong = refl; four_and_four = refl; six_and_six = refl; three_and_three = refl; five_and_five = refl; three_underscores_each = refl; first_that_ends = refl; opener_inside_is_text = refl; strong_that_ends_first = refl; later_opener = refl; later_opener_of_emphasis = refl; nearest_opener = refl; link_before_emphasis = refl; link_before_underscores = refl; tag_before_emphasis = refl; tag_before_strong = refl; code_before_emphasis = refl; autolink_before_strong = refl; underscore_inside_a_word = refl }

pub returns-clause-inline_link : goal.returns-clause-inline_link
unfolding inline_structure
returns-clause-inline_link c = record { with_a_title = refl; without_a_title = refl; without_a_text = refl; without_a_destination = refl; empty_destination = refl; nothing_at_all = refl; space_in_the_destination = refl; space_in_angles = refl; line_ending_in_the_destination = refl; line_ending_in_angles = refl; parenthesis_in_angles = refl; escaped_angle = refl; angles_that_do_not_end = refl; escaped_parentheses = refl; balanced_parentheses = refl; unbalanced_parentheses = refl; backslash_that_escapes_nothing = refl; reference_in_the_destination = refl; title_as_destination = refl; title_with_an_escape = refl; no_break_space_is_no_gap = refl; quotation_marks_in_a_title = refl; other_quotation_marks = refl; gaps = refl; space_before_the_parenthesis = refl; balanced_brackets = refl; bracket_too_many = refl; bracket_that_is_open = refl; escaped_bracket = refl; inlines_inside = refl; link_in_a_link = refl; link_deep_in_a_link = refl; autolink_in_a_link = refl; emphasis_across_the_end = refl; star_in_the_destination = refl; emphasis_across_brackets = refl; tag_before_a_link = refl; code_before_a_link = refl; autolink_before_a_link = refl; end_that_cuts_a_code_span = refl; space_in_angles_and_a_title = refl; star_before_a_link = refl }

pub returns-clause-reference_link : goal.returns-clause-reference_link
unfolding inline_structure
returns-clause-reference_link c = record { full = refl; brackets_inside = refl; link_inside = refl; reference_inside = refl; emphasis_across_the_end = refl; folded_label = refl; sharp_s = refl; line_ending_in_a_label = refl; space_between = refl; first_of_two = refl; compared_as_written = refl; bracket_in_a_label = refl; escaped_bracket_in_a_label = refl; label_without_a_character = refl; collapsed = refl; collapsed_with_emphasis = refl; collapsed_in_capitals = refl; shortcut = refl; shortcut_in_brackets = refl; shortcut_after_open_brackets = refl; shortcut_before_text = refl; escaped_opener = refl; shortcut_with_a_star = refl; full_before_shortcut = refl; inline_before_reference = refl; no_inline_link = refl; label_that_is_not_defined = refl; two_full = refl; no_shortcut_before_a_label = refl; other_label_not_defined = refl }

pub returns-clause-image : goal.returns-clause-image
unfolding inline_structure
returns-clause-image c = record { with_a_title = refl; image_inside = refl; link_inside = refl; emphasis_inside = refl; in_a_link = refl; links_in_an_image = refl; link_in_an_image_in_a_link = refl; beyond_text = refl; destination_in_angles = refl; without_a_text = refl; full_reference = refl; collapsed_reference = refl; shortcut_reference = refl; double_brackets = refl; escaped_bracket = refl; escaped_exclamation_mark = refl }

pub returns-clause-autolink : goal.returns-clause-autolink
unfolding inline_structure
returns-clause-autolink c = record { http = refl; query = refl; capitals = refl; made_up_scheme = refl; space_inside = refl; no_escapes = refl; address = refl; escape_in_an_address = refl; nothing_inside = refl; scheme_of_one_letter = refl; no_scheme = refl; bare = refl; address_and_declaration = refl; short_address = refl; quotation_mark_and_umlaut = refl }

pub returns-clause-raw_html : goal.returns-clause-raw_html
unfolding inline_structure
returns-clause-raw_html c = record { open_tags = refl; empty_elements = refl; attributes = refl; custom_names = refl; names_that_are_none = refl; attribute_that_is_none = refl; value_that_does_not_end = refl; space_in_front = refl; no_gap_between_attributes = refl; closing_tags = refl; closing_tag_with_attribute = refl; comment = refl; short_comments = refl; instruction = refl; declaration = refl; character_data = refl; reference_inside = refl; backslash_inside = refl; quotation_mark_escaped = refl; after_a_line_ending = refl; letter_after_a_value = refl; shortest_comment = refl }

pub returns-clause-line_break : goal.returns-clause-line_break
unfolding inline_structure
returns-clause-line_break c = record { two_spaces = refl; backslash = refl; more_spaces = refl; in_emphasis = refl; backslash_in_emphasis = refl; none_in_a_code_span = refl; none_in_a_tag = refl; backslash_at_the_end = refl; soft = refl; one_space = refl; tab_stays = refl; spaces_before_a_backslash = refl; spaces_and_then_a_backslash = refl }

pub returns-clause-text : goal.returns-clause-text
unfolding inline_structure
returns-clause-text c = record { plain = refl; beyond_ascii = refl; spaces_stay = refl; escapes = refl; escaped_backslash = refl; references = refl; decimal = refl; hexadecimal = refl; no_references = refl; reference_is_no_markup = refl; line_feed_by_reference = refl; bracket_by_reference = refl; too_many_digits_and_no_such_name = refl; escaped_stars = refl }

pub returns-clause-strike : goal.returns-clause-strike
unfolding inline_structure
returns-clause-strike c = record { on = refl; off = refl; runs_of_two_alone = refl; runs_of_two_alone_off = refl; in_the_order_of_closers = refl; in_the_order_of_closers_off = refl; inside_a_word = refl; inside_a_word_off = refl; emphasis_inside = refl }

pub returns-clause-older_rules : goal.returns-clause-older_rules
unfolding inline_structure
returns-clause-older_rules c = record { pound_sign = refl; dollar_sign = refl; short_comment = refl; comment_of_a_hyphen = refl; two_hyphens = refl; hyphen_at_the_end = refl; comment = refl; by_the_profile = refl }

-- the depth of what a source is read as
nests : (rules : Rules) (source : List ℕ) (content : List Inline) (depth : ℕ) → inlines_of rules (λ folded. None) source ≡ content → inlines_depth content ≡ depth → Nests rules source depth
unfolding depth_of_leaf
nests rules source content depth e d = ap inlines_depth e ∙ d

strong_in_emphasis : Nests profile (codes "***a***") 2
unfolding inline_structure
strong_in_emphasis = nests profile (codes "***a***") (Emph (Strong (Text (codes "a") ∷ []) ∷ []) ∷ []) 2 refl (simp (fold_out-Inline ℕ depth_step, outs-Emph, outs-Strong, outs-Text))

pub returns-clause-nesting : goal.returns-clause-nesting
unfolding inline_structure
returns-clause-nesting c = record {
  text = nests profile (codes "a") (Text (codes "a") ∷ []) 0 refl (simp (fold_out-Inline ℕ depth_step, outs-Text));
  two_side_by_side = nests profile (codes "*a* **b**") (Emph (Text (codes "a") ∷ []) ∷ Text (codes " ") ∷ Strong (Text (codes "b") ∷ []) ∷ []) 1 refl
      (simp (fold_out-Inline ℕ depth_step, outs-Emph, outs-Strong, outs-Text));
  strong_in_emphasis = strong_in_emphasis;
  code_and_autolink = nests profile (codes "`a` <bc:d>") (Code (codes "a") ∷ Text (codes " ") ∷ Link (codes "bc:d") [] (Text (codes "bc:d") ∷ []) ∷ []) 1 refl
      (simp (fold_out-Inline ℕ depth_step, outs-Code, outs-Link, outs-Text));
  image_in_a_link = nests profile (codes "*[a ![b](c)](d)*") (Emph (Link (codes "d") [] (Text (codes "a ") ∷ Image (codes "c") [] (Text (codes "b") ∷ []) ∷ []) ∷ []) ∷ []) 3 refl
      (simp (fold_out-Inline ℕ depth_step, outs-Emph, outs-Link, outs-Image, outs-Text));
  strike_in_emphasis = nests struck (codes "*~~a~~*") (Emph (Strike (Text (codes "a") ∷ []) ∷ []) ∷ []) 2 refl (simp (fold_out-Inline ℕ depth_step, outs-Emph, outs-Strike, outs-Text));
  no_strike = nests profile (codes "*~~a~~*") (Emph (Text (codes "~~a~~") ∷ []) ∷ []) 1 refl (simp (fold_out-Inline ℕ depth_step, outs-Emph, outs-Text));
  at_the_limit = ap (λ depth. nat_lt 2 depth) strong_in_emphasis;
  past_the_limit = ap (λ depth. nat_lt 1 depth) strong_in_emphasis;
}
