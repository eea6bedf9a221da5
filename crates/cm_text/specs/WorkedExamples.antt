-- Worked examples by computation: of lines, faults, indentation, labels, characters, references, escapes and
-- limits.
use Rattle.std.specs.Prelude.{◌≡◌, ◌^◌, true, false, [], ◌∷◌, Some, None, length, codes}
use Rattle.std.specs.List.{filter, range_with_len}
use Rattle.cm_text.specs.declared.fault.TextFault.TheVariants.{NotUtf8, TooLong}
use Rattle.cm_text.specs.Lines.{text_of, lines_of, plain_line, ended_lines_of}
use Rattle.cm_text.specs.Faults.{settled_fault, text_fault}
use Rattle.cm_text.specs.Rules.{profile, older_rules}
use Rattle.cm_text.specs.Limits.{limits_for}
use Rattle.cm_text.specs.Characters.{is_ascii_punct, is_punct_by, is_space}
use Rattle.cm_text.specs.Indentation.{indent_from, strip_from, strip_columns}
use Rattle.cm_text.specs.NamedReferences.{names}
use Rattle.cm_text.specs.References.{reference, reference_at}
use Rattle.cm_text.specs.Unescaping.{unescape}
use Rattle.cm_text.specs.Labels.{fold_label}

pub record LineExamples : Type 0 where
  pub no_text : lines_of [] ≡ []
  pub no_further_line : lines_of (codes "a\n") ≡ codes "a" ∷ []
  pub unended : lines_of (codes "a") ≡ codes "a" ∷ []
  pub line_feed : lines_of (codes "a\nb\n") ≡ codes "a" ∷ codes "b" ∷ []
  pub carriage_return_line_feed : lines_of (codes "a\r\nb") ≡ codes "a" ∷ codes "b" ∷ []
  pub carriage_return : lines_of (codes "a\rb\r") ≡ codes "a" ∷ codes "b" ∷ []
  pub ended : ended_lines_of (codes "a\nb") ≡ plain_line (codes "a") ∷ []
  pub ended_by_a_carriage_return : ended_lines_of (codes "a\r") ≡ plain_line (codes "a") ∷ []
  pub none_ended : ended_lines_of (codes "a") ≡ []
  pub empty_lines : lines_of (codes "\n\r\r\n\n\r") ≡ [] ∷ [] ∷ [] ∷ [] ∷ [] ∷ []
  pub nul : text_of (97 ∷ 0 ∷ []) ≡ 97 ∷ 0xEF ∷ 0xBF ∷ 0xBD ∷ []

pub record FaultExamples : Type 0 where
  pub not_utf8 : settled_fault (2 ^ 28) (0x61 ∷ 0x80 ∷ []) ≡ Some (NotUtf8 1)
  pub cut_short : settled_fault (2 ^ 28) (0x61 ∷ 0xC3 ∷ []) ≡ None
  pub cut_short_at_the_end : text_fault (2 ^ 28) (0x61 ∷ 0xC3 ∷ []) ≡ Some (NotUtf8 1)
  pub overlong : settled_fault (2 ^ 28) (0xC0 ∷ 0x80 ∷ []) ≡ Some (NotUtf8 0)
  pub surrogate : settled_fault (2 ^ 28) (0xED ∷ 0xA0 ∷ []) ≡ Some (NotUtf8 0)
  pub at_the_limit : text_fault 3 (codes "abc") ≡ None
  pub past_the_limit : settled_fault 3 (codes "abcd") ≡ Some (TooLong 3)
  pub cut_by_the_limit : settled_fault 3 (0x61 ∷ 0xE2 ∷ 0x82 ∷ 0xAC ∷ []) ≡ Some (TooLong 3)
  pub before_the_limit : settled_fault 3 (0x61 ∷ 0xE2 ∷ 0x41 ∷ 0x41 ∷ []) ≡ Some (NotUtf8 1)

pub record IndentationExamples : Type 0 where
  pub nothing : indent_from 0 (codes "a") ≡ 0
  pub spaces : indent_from 0 (codes "   a b") ≡ 3
  pub tab : indent_from 0 (codes "\ta") ≡ 4
  pub tab_after_spaces : indent_from 0 (codes "  \ta") ≡ 4
  pub tab_at_column_three : indent_from 3 (codes "\ta") ≡ 1
  pub blank : indent_from 0 (codes " \t ") ≡ 5

pub record LabelExamples : Type 0 where
  pub lower : fold_label (codes "foo") ≡ codes "foo"
  pub upper : fold_label (codes "SS") ≡ codes "ss"
  pub sharp : fold_label (0xE1 ∷ 0xBA ∷ 0x9E ∷ []) ≡ codes "ss"
  pub ends_and_inside : fold_label (codes " A\t\nb ") ≡ codes "a b"
  pub only_spaces : fold_label (codes "   ") ≡ []
  pub other_space : fold_label (0xC2 ∷ 0xA0 ∷ 97 ∷ []) ≡ 0xC2 ∷ 0xA0 ∷ 97 ∷ []

pub record CharacterExamples : Type 0 where
  pub ascii_punctuation : filter is_ascii_punct (range_with_len 0 128) ≡ codes "!\"#$%&'()*+,-./:;<=>?@[\\]^_`{|}~"
  pub punctuation : filter (is_punct_by profile) (range_with_len 0 128) ≡ codes "!\"#$%&'()*+,-./:;<=>?@[\\]^_`{|}~"
  pub spaces : filter is_space (range_with_len 0 128) ≡ 9 ∷ 10 ∷ 12 ∷ 13 ∷ 32 ∷ []
  pub pound_sign : is_punct_by profile 0xA3 ≡ true
  pub older_pound_sign : is_punct_by older_rules 0xA3 ≡ false
  pub older_euro_sign : is_punct_by older_rules 0x20AC ≡ false
  pub older_quotation_mark : is_punct_by older_rules 0xAB ≡ true
  pub older_dollar_sign : is_punct_by older_rules 0x24 ≡ true
  pub dash : is_punct_by profile 0x2014 ≡ true
  pub letter : is_punct_by profile 0xE4 ≡ false
  pub no_break_space : is_space 0xA0 ≡ true
  pub em_space : is_space 0x2003 ≡ true
  pub zero_width_space : is_space 0x200B ≡ false
  pub next_line : is_space 0x85 ≡ false

pub record StripExamples : Type 0 where
  pub indented_code : strip_from 4 0 (codes "\tfoo\tbaz") ≡ (4, codes "foo\tbaz")
  pub one_column_of_a_tab : strip_from 1 1 (codes "\t\tfoo") ≡ (2, codes "  \tfoo")
  pub two_columns_of_a_tab : strip_from 2 1 (codes "\t\tfoo") ≡ (3, codes " \tfoo")
  pub a_tab_and_a_column : strip_from 4 1 (codes "\t\tfoo") ≡ (5, codes "   foo")
  pub tab_at_column_three : strip_from 1 3 (codes "\tfoo") ≡ (4, codes "foo")
  pub less_indentation : strip_from 4 0 (codes "  foo") ≡ (2, codes "foo")
  pub nothing : strip_from 0 0 (codes "\tfoo") ≡ (0, codes "\tfoo")
  pub blank : strip_from 2 0 (codes " \t ") ≡ (2, codes "   ")
  pub lazy : strip_columns 1 (record { column = 0; text = codes " a"; lazy = true }) ≡ record { column = 1; text = codes "a"; lazy = true }

pub record ReferenceExamples : Type 0 where
  pub nul : reference (codes "&#0;") ≡ Some (0xFFFD ∷ [], 4)
  pub eight_digits : reference (codes "&#12345678;") ≡ None
  pub nine_digits : reference (codes "&#987654321;") ≡ None
  pub seven_digits : reference (codes "&#0000065;") ≡ Some (65 ∷ [], 10)
  pub no_digits : reference (codes "&#;") ≡ None
  pub too_great : reference (codes "&#1114112;") ≡ Some (0xFFFD ∷ [], 10)
  pub greatest : reference (codes "&#x10FFFF;") ≡ Some (0x10FFFF ∷ [], 10)
  pub small_x : reference (codes "&#x1F600;") ≡ Some (0x1F600 ∷ [], 9)
  pub great_x : reference (codes "&#Xd;") ≡ Some (13 ∷ [], 5)
  pub surrogate : reference (codes "&#xD800;") ≡ Some (0xFFFD ∷ [], 8)
  pub seven_hexadecimal_digits : reference (codes "&#x0000041;") ≡ None
  pub copyright : reference (codes "&copy; x") ≡ Some (0xA9 ∷ [], 6)
  pub two_characters : reference (codes "&ngE;") ≡ Some (0x2267 ∷ 0x338 ∷ [], 5)
  pub no_name : reference (codes "&nosuch;") ≡ None
  pub no_semicolon : reference (codes "&amp &") ≡ None
  pub greek : reference (codes "&Alpha;") ≡ Some (0x391 ∷ [], 7)
  pub final_sigma : reference (codes "&sigmaf;") ≡ Some (0x3C2 ∷ [], 8)
  pub no_small_alpha : reference (codes "&alpha") ≡ None
  pub case_counts : reference (codes "&AMP;") ≡ None
  pub first_alone : reference (codes "&amp;amp;") ≡ Some (38 ∷ [], 5)
  pub no_ampersand : reference (codes "amp;") ≡ None
  pub number_of_names : length names ≡ 177
  pub within_a_text : reference_at (codes "a &lt; b") 2 ≡ Some (60 ∷ [], 6)

pub record UnescapeExamples : Type 0 where
  pub plain : unescape (codes "foo") ≡ codes "foo"
  pub letter : unescape (codes "\\a \\& \\\\") ≡ codes "\\a & \\"
  pub last : unescape (codes "a\\") ≡ codes "a\\"
  pub in_order : unescape (codes "\\&amp; &amp;amp; &amp\\;") ≡ codes "&amp; &amp; &amp;"
  pub references : unescape (codes "&#65; &nosuch; &quot;") ≡ codes "A &nosuch; \""
  pub backslash_given : unescape (codes "&#92;*") ≡ codes "\\*"
  pub beyond_ascii : unescape (codes "&copy;") ≡ 0xC2 ∷ 0xA9 ∷ []
  pub greek : unescape (codes "&Alpha;&sigmaf;&omega; &alpha") ≡ 0xCE ∷ 0x91 ∷ 0xCF ∷ 0x82 ∷ 0xCF ∷ 0x89 ∷ codes " &alpha"

pub record LimitExamples : Type 0 where
  pub greatest : limits_for 1 500 500 ≡ Some (record { bytes = 1; blocks = 500; inlines = 500; rules = profile })
  pub too_many_blocks : limits_for 1 501 500 ≡ None
  pub too_many_inlines : limits_for 1 500 501 ≡ None
