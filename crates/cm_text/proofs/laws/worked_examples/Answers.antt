use Rattle.std.proofs.Common.{refl}
use Rattle.std.specs.Str.{is_utf8, chars}
use Rattle.std.specs.Str.Lossy.{utf8_valid_len, utf8_error_len}
use Rattle.cm_text.proofs.lemmas.Computing.{label_folding, character_kinds, reading_references}
use lib.Utf8.{encode}
use Rattle.cm_text.proofs.laws.worked_examples.Goals as goal

pub returns-clause-lines : goal.returns-clause-lines
returns-clause-lines c = record { no_text = refl; no_further_line = refl; unended = refl; line_feed = refl; carriage_return_line_feed = refl; carriage_return = refl; ended = refl; ended_by_a_carriage_return = refl; none_ended = refl; empty_lines = refl; nul = refl }

pub returns-clause-faults : goal.returns-clause-faults
unfolding utf8_valid_len utf8_error_len is_utf8 chars encode
returns-clause-faults c = record { not_utf8 = refl; cut_short = refl; cut_short_at_the_end = refl; overlong = refl; surrogate = refl; at_the_limit = refl; past_the_limit = refl; cut_by_the_limit = refl; before_the_limit = refl }

pub returns-clause-indentation : goal.returns-clause-indentation
returns-clause-indentation c = record { nothing = refl; spaces = refl; tab = refl; tab_after_spaces = refl; tab_at_column_three = refl; blank = refl }

pub returns-clause-labels : goal.returns-clause-labels
unfolding label_folding
returns-clause-labels c = record { lower = refl; upper = refl; sharp = refl; ends_and_inside = refl; only_spaces = refl; other_space = refl }

pub returns-clause-characters : goal.returns-clause-characters
unfolding character_kinds
returns-clause-characters c = record { ascii_punctuation = refl; punctuation = refl; spaces = refl; pound_sign = refl; older_pound_sign = refl; older_euro_sign = refl; older_quotation_mark = refl; older_dollar_sign = refl; dash = refl; letter = refl; no_break_space = refl; em_space = refl; zero_width_space = refl; next_line = refl }

pub returns-clause-strip : goal.returns-clause-strip
returns-clause-strip c = record { indented_code = refl; one_column_of_a_tab = refl; two_columns_of_a_tab = refl; a_tab_and_a_column = refl; tab_at_column_three = refl; less_indentation = refl; nothing = refl; blank = refl; lazy = refl }

pub returns-clause-references : goal.returns-clause-references
unfolding reading_references
returns-clause-references c = record { nul = refl; eight_digits = refl; nine_digits = refl; seven_digits = refl; no_digits = refl; too_great = refl; greatest = refl; small_x = refl; great_x = refl; surrogate = refl; seven_hexadecimal_digits = refl; copyright = refl; two_characters = refl; no_name = refl; no_semicolon = refl; greek = refl; final_sigma = refl; no_small_alpha = refl; case_counts = refl; first_alone = refl; no_ampersand = refl; number_of_names = refl; within_a_text = refl }

pub returns-clause-unescape : goal.returns-clause-unescape
unfolding reading_references
returns-clause-unescape c = record { plain = refl; letter = refl; last = refl; in_order = refl; references = refl; backslash_given = refl; beyond_ascii = refl; greek = refl }

pub returns-clause-limits : goal.returns-clause-limits
returns-clause-limits c = record { greatest = refl; too_many_blocks = refl; too_many_inlines = refl }
