-- Worked examples: the inlines of sources, for the most part those of the standard (CommonMark 0.31.2, chapters 2 and 6).
use Rattle.std.specs.Prelude.{◌≡◌, ℕ, Bool, true, false, None, List, [], ◌∷◌, ◌++◌, codes}
use Rattle.cm_text.specs.Rules.{Rules, profile, older_rules}
use Rattle.cm_tree.specs.Definitions.{Target, first_under}
use Rattle.cm_tree.specs.declared.tree.Inline.{Inline}
use Rattle.cm_tree.specs.declared.tree.Inline.TheVariants.{Text, Code, Html, Soft, Hard, Emph, Strong, Strike, Link, Image}
use Rattle.cm_scan.specs.inlines.Inlines.{inlines_of, depth_of_leaf, nests_past}

-- the profile with strikethrough
abbrev pub struck : Rules
struck = record { older = false; strike = true; raw_html = true; any_address = true }

-- By these rules the source has these inlines, in a document with these definitions, a label and its target each.
abbrev pub ReadsBy : Rules → List (List ℕ × Target) → List ℕ → List Inline → Type 0
ReadsBy rules definitions source inlines = inlines_of rules (λ folded. first_under folded definitions) source ≡ inlines

abbrev pub ReadsUnder : List (List ℕ × Target) → List ℕ → List Inline → Type 0
ReadsUnder = ReadsBy profile

abbrev pub Reads : List ℕ → List Inline → Type 0
Reads = ReadsUnder []

-- 6.1 Code spans
pub record CodeSpanExamples : Type 0 where
  pub simple : Reads (codes "`foo`") (Code (codes "foo") ∷ [])
  pub longer_run_inside : Reads (codes "`` foo ` bar ``") (Code (codes "foo ` bar") ∷ [])
  pub spaces_stripped : Reads (codes "` `` `") (Code (codes "``") ∷ [])
  pub one_space_at_each_end : Reads (codes "`  ``  `") (Code (codes " `` ") ∷ [])
  pub space_at_one_end : Reads (codes "` a`") (Code (codes " a") ∷ [])
  pub only_spaces : Reads (codes "`  `") (Code (codes "  ") ∷ [])
  pub line_endings : Reads (codes "``\nfoo\nbar  \nbaz\n``") (Code (codes "foo bar   baz") ∷ [])
  pub no_escapes : Reads (codes "`foo\\`bar`") (Code (codes "foo\\") ∷ Text (codes "bar`") ∷ [])
  pub before_emphasis : Reads (codes "*foo`*`") (Text (codes "*foo") ∷ Code (codes "*") ∷ [])
  pub before_a_link : Reads (codes "[not a `link](/foo`)") (Text (codes "[not a ") ∷ Code (codes "link](/foo") ∷ Text (codes ")") ∷ [])
  pub before_a_tag : Reads (codes "`<a href=\"`\">`") (Code (codes "<a href=\"") ∷ Text (codes "\">`") ∷ [])
  pub after_a_tag : Reads (codes "<a href=\"`\">`") (Html (codes "<a href=\"`\">") ∷ Text (codes "`") ∷ [])
  pub after_an_autolink : Reads (codes "<https://foo.bar.`baz>`") (Link (codes "https://foo.bar.`baz") [] (Text (codes "https://foo.bar.`baz") ∷ []) ∷ Text (codes "`") ∷ [])
  pub runs_that_do_not_match : Reads (codes "```foo``") (Text (codes "```foo``") ∷ [])
  pub no_end : Reads (codes "`foo") (Text (codes "`foo") ∷ [])
  pub shorter_run_first : Reads (codes "`foo``bar``") (Text (codes "`foo") ∷ Code (codes "bar") ∷ [])
  pub shorter_run_between_spaces : Reads (codes "`` a ` b ``") (Code (codes "a ` b") ∷ [])
  pub two_and_one : Reads (codes "``a`") (Text (codes "``a`") ∷ [])

-- rules 1 and 2: what may open emphasis
pub record OpensEmphasisExamples : Type 0 where
  pub star : Reads (codes "*foo bar*") (Emph (Text (codes "foo bar") ∷ []) ∷ [])
  pub star_before_a_space : Reads (codes "a * foo bar*") (Text (codes "a * foo bar*") ∷ [])
  pub star_between_a_letter_and_punctuation : Reads (codes "a*\"foo\"*") (Text (codes "a*\"foo\"*") ∷ [])
  pub star_before_a_no_break_space : Reads (codes "*" ++ (0xC2 ∷ 0xA0 ∷ []) ++ codes "a" ++ (0xC2 ∷ 0xA0 ∷ []) ++ codes "*") (Text (codes "*" ++ (0xC2 ∷ 0xA0 ∷ []) ++ codes "a" ++ (0xC2 ∷ 0xA0 ∷ []) ++ codes "*") ∷ [])
  pub star_before_a_symbol : Reads (codes "*$*alpha.") (Text (codes "*$*alpha.") ∷ [])
  pub star_before_a_pound_sign : Reads (codes "*" ++ (0xC2 ∷ 0xA3 ∷ []) ++ codes "*bravo.") (Text (codes "*" ++ (0xC2 ∷ 0xA3 ∷ []) ++ codes "*bravo.") ∷ [])
  pub star_before_a_euro_sign : Reads (codes "*" ++ (0xE2 ∷ 0x82 ∷ 0xAC ∷ []) ++ codes "*charlie.") (Text (codes "*" ++ (0xE2 ∷ 0x82 ∷ 0xAC ∷ []) ++ codes "*charlie.") ∷ [])
  pub star_inside_a_word : Reads (codes "foo*bar*") (Text (codes "foo") ∷ Emph (Text (codes "bar") ∷ []) ∷ [])
  pub star_between_digits : Reads (codes "5*6*78") (Text (codes "5") ∷ Emph (Text (codes "6") ∷ []) ∷ Text (codes "78") ∷ [])
  pub underscore : Reads (codes "_foo bar_") (Emph (Text (codes "foo bar") ∷ []) ∷ [])
  pub underscore_before_a_space : Reads (codes "_ foo bar_") (Text (codes "_ foo bar_") ∷ [])
  pub underscore_between_a_letter_and_punctuation : Reads (codes "a_\"foo\"_") (Text (codes "a_\"foo\"_") ∷ [])
  pub underscore_inside_a_word : Reads (codes "foo_bar_") (Text (codes "foo_bar_") ∷ [])
  pub underscore_between_digits : Reads (codes "5_6_78") (Text (codes "5_6_78") ∷ [])
  pub underscore_between_cyrillic_letters : Reads ((0xD0 ∷ 0xBF ∷ 0xD1 ∷ 0x80 ∷ 0xD0 ∷ 0xB8 ∷ 0xD1 ∷ 0x81 ∷ 0xD1 ∷ 0x82 ∷ 0xD0 ∷ 0xB0 ∷ 0xD0 ∷ 0xBD ∷ 0xD1 ∷ 0x8F ∷ 0xD0 ∷ 0xBC ∷ []) ++ codes "_" ++ (0xD1 ∷ 0x81 ∷ 0xD1 ∷ 0x82 ∷ 0xD1 ∷ 0x80 ∷ 0xD0 ∷ 0xB5 ∷ 0xD0 ∷ 0xBC ∷ 0xD1 ∷ 0x8F ∷ 0xD1 ∷ 0x82 ∷ 0xD1 ∷ 0x81 ∷ 0xD1 ∷ 0x8F ∷ []) ++ codes "_") (Text ((0xD0 ∷ 0xBF ∷ 0xD1 ∷ 0x80 ∷ 0xD0 ∷ 0xB8 ∷ 0xD1 ∷ 0x81 ∷ 0xD1 ∷ 0x82 ∷ 0xD0 ∷ 0xB0 ∷ 0xD0 ∷ 0xBD ∷ 0xD1 ∷ 0x8F ∷ 0xD0 ∷ 0xBC ∷ []) ++ codes "_" ++ (0xD1 ∷ 0x81 ∷ 0xD1 ∷ 0x82 ∷ 0xD1 ∷ 0x80 ∷ 0xD0 ∷ 0xB5 ∷ 0xD0 ∷ 0xBC ∷ 0xD1 ∷ 0x8F ∷ 0xD1 ∷ 0x82 ∷ 0xD1 ∷ 0x81 ∷ 0xD1 ∷ 0x8F ∷ []) ++ codes "_") ∷ [])
  pub underscore_before_a_quotation_mark : Reads (codes "aa_\"bb\"_cc") (Text (codes "aa_\"bb\"_cc") ∷ [])
  pub underscore_after_punctuation : Reads (codes "foo-_(bar)_") (Text (codes "foo-") ∷ Emph (Text (codes "(bar)") ∷ []) ∷ [])

-- rules 3 and 4: what may close emphasis
pub record ClosesEmphasisExamples : Type 0 where
  pub other_character : Reads (codes "_foo*") (Text (codes "_foo*") ∷ [])
  pub star_after_a_space : Reads (codes "*foo bar *") (Text (codes "*foo bar *") ∷ [])
  pub star_after_a_line_ending : Reads (codes "*foo bar\n*") (Text (codes "*foo bar") ∷ Soft ∷ Text (codes "*") ∷ [])
  pub star_after_punctuation : Reads (codes "*(*foo)") (Text (codes "*(*foo)") ∷ [])
  pub star_in_emphasis : Reads (codes "*(*foo*)*") (Emph (Text (codes "(") ∷ Emph (Text (codes "foo") ∷ []) ∷ Text (codes ")") ∷ []) ∷ [])
  pub star_inside_a_word : Reads (codes "*foo*bar") (Emph (Text (codes "foo") ∷ []) ∷ Text (codes "bar") ∷ [])
  pub underscore_after_a_space : Reads (codes "_foo bar _") (Text (codes "_foo bar _") ∷ [])
  pub underscore_after_punctuation : Reads (codes "_(_foo)") (Text (codes "_(_foo)") ∷ [])
  pub underscore_in_emphasis : Reads (codes "_(_foo_)_") (Emph (Text (codes "(") ∷ Emph (Text (codes "foo") ∷ []) ∷ Text (codes ")") ∷ []) ∷ [])
  pub underscore_inside_a_word : Reads (codes "_foo_bar") (Text (codes "_foo_bar") ∷ [])
  pub underscores_inside_a_word : Reads (codes "_foo_bar_baz_") (Emph (Text (codes "foo_bar_baz") ∷ []) ∷ [])
  pub underscore_before_a_full_stop : Reads (codes "_(bar)_.") (Emph (Text (codes "(bar)") ∷ []) ∷ Text (codes ".") ∷ [])

-- rules 5 and 6: what may open strong emphasis
pub record OpensStrongExamples : Type 0 where
  pub stars : Reads (codes "**foo bar**") (Strong (Text (codes "foo bar") ∷ []) ∷ [])
  pub stars_before_a_space : Reads (codes "** foo bar**") (Text (codes "** foo bar**") ∷ [])
  pub stars_between_a_letter_and_punctuation : Reads (codes "a**\"foo\"**") (Text (codes "a**\"foo\"**") ∷ [])
  pub stars_inside_a_word : Reads (codes "foo**bar**") (Text (codes "foo") ∷ Strong (Text (codes "bar") ∷ []) ∷ [])
  pub underscores : Reads (codes "__foo bar__") (Strong (Text (codes "foo bar") ∷ []) ∷ [])
  pub underscores_before_a_space : Reads (codes "__ foo bar__") (Text (codes "__ foo bar__") ∷ [])
  pub underscores_before_a_line_ending : Reads (codes "__\nfoo bar__") (Text (codes "__") ∷ Soft ∷ Text (codes "foo bar__") ∷ [])
  pub underscores_between_a_letter_and_punctuation : Reads (codes "a__\"foo\"__") (Text (codes "a__\"foo\"__") ∷ [])
  pub underscores_inside_a_word : Reads (codes "foo__bar__") (Text (codes "foo__bar__") ∷ [])
  pub underscores_in_strong : Reads (codes "__foo, __bar__, baz__") (Strong (Text (codes "foo, ") ∷ Strong (Text (codes "bar") ∷ []) ∷ Text (codes ", baz") ∷ []) ∷ [])
  pub underscores_after_punctuation : Reads (codes "foo-__(bar)__") (Text (codes "foo-") ∷ Strong (Text (codes "(bar)") ∷ []) ∷ [])

-- rules 7 and 8: what may close strong emphasis
pub record ClosesStrongExamples : Type 0 where
  pub stars_after_a_space : Reads (codes "**foo bar **") (Text (codes "**foo bar **") ∷ [])
  pub stars_after_punctuation : Reads (codes "**(**foo)") (Text (codes "**(**foo)") ∷ [])
  pub stars_in_emphasis : Reads (codes "*(**foo**)*") (Emph (Text (codes "(") ∷ Strong (Text (codes "foo") ∷ []) ∷ Text (codes ")") ∷ []) ∷ [])
  pub emphasis_in_quotation_marks : Reads (codes "**foo \"*bar*\" foo**") (Strong (Text (codes "foo \"") ∷ Emph (Text (codes "bar") ∷ []) ∷ Text (codes "\" foo") ∷ []) ∷ [])
  pub stars_inside_a_word : Reads (codes "**foo**bar") (Strong (Text (codes "foo") ∷ []) ∷ Text (codes "bar") ∷ [])
  pub underscores_after_a_space : Reads (codes "__foo bar __") (Text (codes "__foo bar __") ∷ [])
  pub underscores_after_punctuation : Reads (codes "__(__foo)") (Text (codes "__(__foo)") ∷ [])
  pub underscores_in_emphasis : Reads (codes "_(__foo__)_") (Emph (Text (codes "(") ∷ Strong (Text (codes "foo") ∷ []) ∷ Text (codes ")") ∷ []) ∷ [])
  pub underscores_inside_a_word : Reads (codes "__foo__bar") (Text (codes "__foo__bar") ∷ [])
  pub underscores_inside_words : Reads (codes "__foo__bar__baz__") (Strong (Text (codes "foo__bar__baz") ∷ []) ∷ [])
  pub underscores_before_a_full_stop : Reads (codes "__(bar)__.") (Strong (Text (codes "(bar)") ∷ []) ∷ Text (codes ".") ∷ [])

-- rules 9 and 10: what is inside, and the rule of three
pub record InsideEmphasisExamples : Type 0 where
  pub link : Reads (codes "*foo [bar](/url)*") (Emph (Text (codes "foo ") ∷ Link (codes "/url") [] (Text (codes "bar") ∷ []) ∷ []) ∷ [])
  pub line_ending : Reads (codes "*foo\nbar*") (Emph (Text (codes "foo") ∷ Soft ∷ Text (codes "bar") ∷ []) ∷ [])
  pub strong : Reads (codes "_foo __bar__ baz_") (Emph (Text (codes "foo ") ∷ Strong (Text (codes "bar") ∷ []) ∷ Text (codes " baz") ∷ []) ∷ [])
  pub emphasis : Reads (codes "_foo _bar_ baz_") (Emph (Text (codes "foo ") ∷ Emph (Text (codes "bar") ∷ []) ∷ Text (codes " baz") ∷ []) ∷ [])
  pub emphasis_at_the_front : Reads (codes "__foo_ bar_") (Emph (Emph (Text (codes "foo") ∷ []) ∷ Text (codes " bar") ∷ []) ∷ [])
  pub emphasis_at_the_end : Reads (codes "*foo *bar**") (Emph (Text (codes "foo ") ∷ Emph (Text (codes "bar") ∷ []) ∷ []) ∷ [])
  pub strong_between_spaces : Reads (codes "*foo **bar** baz*") (Emph (Text (codes "foo ") ∷ Strong (Text (codes "bar") ∷ []) ∷ Text (codes " baz") ∷ []) ∷ [])
  pub strong_inside_a_word : Reads (codes "*foo**bar**baz*") (Emph (Text (codes "foo") ∷ Strong (Text (codes "bar") ∷ []) ∷ Text (codes "baz") ∷ []) ∷ [])
  pub sum_of_three : Reads (codes "*foo**bar*") (Emph (Text (codes "foo**bar") ∷ []) ∷ [])
  pub strong_at_the_front : Reads (codes "***foo** bar*") (Emph (Strong (Text (codes "foo") ∷ []) ∷ Text (codes " bar") ∷ []) ∷ [])
  pub strong_at_the_end : Reads (codes "*foo **bar***") (Emph (Text (codes "foo ") ∷ Strong (Text (codes "bar") ∷ []) ∷ []) ∷ [])
  pub strong_at_the_end_of_a_word : Reads (codes "*foo**bar***") (Emph (Text (codes "foo") ∷ Strong (Text (codes "bar") ∷ []) ∷ []) ∷ [])
  pub both_of_three : Reads (codes "foo***bar***baz") (Text (codes "foo") ∷ Emph (Strong (Text (codes "bar") ∷ []) ∷ []) ∷ Text (codes "baz") ∷ [])
  pub six_and_nine : Reads (codes "foo******bar*********baz") (Text (codes "foo") ∷ Strong (Strong (Strong (Text (codes "bar") ∷ []) ∷ []) ∷ []) ∷ Text (codes "***baz") ∷ [])
  pub three_deep : Reads (codes "*foo **bar *baz* bim** bop*") (Emph (Text (codes "foo ") ∷ Strong (Text (codes "bar ") ∷ Emph (Text (codes "baz") ∷ []) ∷ Text (codes " bim") ∷ []) ∷ Text (codes " bop") ∷ []) ∷ [])
  pub emphasis_in_a_link : Reads (codes "*foo [*bar*](/url)*") (Emph (Text (codes "foo ") ∷ Link (codes "/url") [] (Emph (Text (codes "bar") ∷ []) ∷ []) ∷ []) ∷ [])
  pub nothing_inside : Reads (codes "** is not an empty emphasis") (Text (codes "** is not an empty emphasis") ∷ [])
  pub no_strong_of_nothing : Reads (codes "**** is not an empty strong emphasis") (Text (codes "**** is not an empty strong emphasis") ∷ [])
  pub link_in_strong : Reads (codes "**foo [bar](/url)**") (Strong (Text (codes "foo ") ∷ Link (codes "/url") [] (Text (codes "bar") ∷ []) ∷ []) ∷ [])
  pub emphasis_in_strong : Reads (codes "__foo _bar_ baz__") (Strong (Text (codes "foo ") ∷ Emph (Text (codes "bar") ∷ []) ∷ Text (codes " baz") ∷ []) ∷ [])
  pub strong_in_strong : Reads (codes "____foo__ bar__") (Strong (Strong (Text (codes "foo") ∷ []) ∷ Text (codes " bar") ∷ []) ∷ [])
  pub emphasis_at_the_front_of_strong : Reads (codes "***foo* bar**") (Strong (Emph (Text (codes "foo") ∷ []) ∷ Text (codes " bar") ∷ []) ∷ [])
  pub emphasis_at_the_end_of_strong : Reads (codes "**foo *bar***") (Strong (Text (codes "foo ") ∷ Emph (Text (codes "bar") ∷ []) ∷ []) ∷ [])
  pub whole_lengths_count : Reads (codes "a****b***c") (Text (codes "a*") ∷ Emph (Strong (Text (codes "b") ∷ []) ∷ []) ∷ Text (codes "c") ∷ [])
  pub strong_in_emphasis_of_one_run : Reads (codes "***a***") (Emph (Strong (Text (codes "a") ∷ []) ∷ []) ∷ [])

-- rules 11 and 12: characters that are left over
pub record LeftOverExamples : Type 0 where
  pub three_stars : Reads (codes "foo ***") (Text (codes "foo ***") ∷ [])
  pub escaped_star : Reads (codes "foo *\\**") (Text (codes "foo ") ∷ Emph (Text (codes "*") ∷ []) ∷ [])
  pub underscore_inside : Reads (codes "foo *_*") (Text (codes "foo ") ∷ Emph (Text (codes "_") ∷ []) ∷ [])
  pub escaped_star_in_strong : Reads (codes "foo **\\***") (Text (codes "foo ") ∷ Strong (Text (codes "*") ∷ []) ∷ [])
  pub one_star_before : Reads (codes "**foo*") (Text (codes "*") ∷ Emph (Text (codes "foo") ∷ []) ∷ [])
  pub one_star_after : Reads (codes "*foo**") (Emph (Text (codes "foo") ∷ []) ∷ Text (codes "*") ∷ [])
  pub star_before_strong : Reads (codes "***foo**") (Text (codes "*") ∷ Strong (Text (codes "foo") ∷ []) ∷ [])
  pub three_stars_before : Reads (codes "****foo*") (Text (codes "***") ∷ Emph (Text (codes "foo") ∷ []) ∷ [])
  pub star_after_strong : Reads (codes "**foo***") (Strong (Text (codes "foo") ∷ []) ∷ Text (codes "*") ∷ [])
  pub three_stars_after : Reads (codes "*foo****") (Emph (Text (codes "foo") ∷ []) ∷ Text (codes "***") ∷ [])
  pub three_underscores : Reads (codes "foo ___") (Text (codes "foo ___") ∷ [])
  pub escaped_underscore : Reads (codes "foo _\\__") (Text (codes "foo ") ∷ Emph (Text (codes "_") ∷ []) ∷ [])
  pub star_inside : Reads (codes "foo _*_") (Text (codes "foo ") ∷ Emph (Text (codes "*") ∷ []) ∷ [])
  pub one_underscore_before : Reads (codes "__foo_") (Text (codes "_") ∷ Emph (Text (codes "foo") ∷ []) ∷ [])
  pub underscore_after_strong : Reads (codes "__foo___") (Strong (Text (codes "foo") ∷ []) ∷ Text (codes "_") ∷ [])

-- rules 13 to 17: where there is more than one reading
pub record AmbiguityExamples : Type 0 where
  pub strong_and_no_nested_emphasis : Reads (codes "**foo**") (Strong (Text (codes "foo") ∷ []) ∷ [])
  pub two_kinds : Reads (codes "*_foo_*") (Emph (Emph (Text (codes "foo") ∷ []) ∷ []) ∷ [])
  pub underscores_strong : Reads (codes "__foo__") (Strong (Text (codes "foo") ∷ []) ∷ [])
  pub four_and_four : Reads (codes "****foo****") (Strong (Strong (Text (codes "foo") ∷ []) ∷ []) ∷ [])
  pub six_and_six : Reads (codes "******foo******") (Strong (Strong (Strong (Text (codes "foo") ∷ []) ∷ []) ∷ []) ∷ [])
  pub three_and_three : Reads (codes "***foo***") (Emph (Strong (Text (codes "foo") ∷ []) ∷ []) ∷ [])
  pub five_and_five : Reads (codes "_____foo_____") (Emph (Strong (Strong (Text (codes "foo") ∷ []) ∷ []) ∷ []) ∷ [])
  pub three_underscores_each : Reads (codes "___foo___") (Emph (Strong (Text (codes "foo") ∷ []) ∷ []) ∷ [])
  pub first_that_ends : Reads (codes "*foo _bar* baz_") (Emph (Text (codes "foo _bar") ∷ []) ∷ Text (codes " baz_") ∷ [])
  pub opener_inside_is_text : Reads (codes "*foo __bar *baz bim__ bam*") (Emph (Text (codes "foo ") ∷ Strong (Text (codes "bar *baz bim") ∷ []) ∷ Text (codes " bam") ∷ []) ∷ [])
  pub strong_that_ends_first : Reads (codes "**foo __bar** baz__") (Strong (Text (codes "foo __bar") ∷ []) ∷ Text (codes " baz__") ∷ [])
  pub later_opener : Reads (codes "**foo **bar baz**") (Text (codes "**foo ") ∷ Strong (Text (codes "bar baz") ∷ []) ∷ [])
  pub later_opener_of_emphasis : Reads (codes "*foo *bar baz*") (Text (codes "*foo ") ∷ Emph (Text (codes "bar baz") ∷ []) ∷ [])
  pub nearest_opener : Reads (codes "**a*b*") (Text (codes "**a") ∷ Emph (Text (codes "b") ∷ []) ∷ [])
  pub link_before_emphasis : Reads (codes "*[bar*](/url)") (Text (codes "*") ∷ Link (codes "/url") [] (Text (codes "bar*") ∷ []) ∷ [])
  pub link_before_underscores : Reads (codes "_foo [bar_](/url)") (Text (codes "_foo ") ∷ Link (codes "/url") [] (Text (codes "bar_") ∷ []) ∷ [])
  pub tag_before_emphasis : Reads (codes "*<img src=\"foo\" title=\"*\"/>") (Text (codes "*") ∷ Html (codes "<img src=\"foo\" title=\"*\"/>") ∷ [])
  pub tag_before_strong : Reads (codes "**<a href=\"**\">") (Text (codes "**") ∷ Html (codes "<a href=\"**\">") ∷ [])
  pub code_before_emphasis : Reads (codes "*a `*`*") (Emph (Text (codes "a ") ∷ Code (codes "*") ∷ []) ∷ [])
  pub autolink_before_strong : Reads (codes "**a<https://foo.bar/?q=**>") (Text (codes "**a") ∷ Link (codes "https://foo.bar/?q=**") [] (Text (codes "https://foo.bar/?q=**") ∷ []) ∷ [])
  pub underscore_inside_a_word : Reads (codes "_a_b_") (Emph (Text (codes "a_b") ∷ []) ∷ [])

-- 6.3 Links: inline links
pub record InlineLinkExamples : Type 0 where
  pub with_a_title : Reads (codes "[link](/uri \"title\")") (Link (codes "/uri") (codes "title") (Text (codes "link") ∷ []) ∷ [])
  pub without_a_title : Reads (codes "[link](/uri)") (Link (codes "/uri") [] (Text (codes "link") ∷ []) ∷ [])
  pub without_a_text : Reads (codes "[](./target.md)") (Link (codes "./target.md") [] [] ∷ [])
  pub without_a_destination : Reads (codes "[link]()") (Link [] [] (Text (codes "link") ∷ []) ∷ [])
  pub empty_destination : Reads (codes "[link](<>)") (Link [] [] (Text (codes "link") ∷ []) ∷ [])
  pub nothing_at_all : Reads (codes "[]()") (Link [] [] [] ∷ [])
  pub space_in_the_destination : Reads (codes "[link](/my uri)") (Text (codes "[link](/my uri)") ∷ [])
  pub space_in_angles : Reads (codes "[link](</my uri>)") (Link (codes "/my uri") [] (Text (codes "link") ∷ []) ∷ [])
  pub line_ending_in_the_destination : Reads (codes "[link](foo\nbar)") (Text (codes "[link](foo") ∷ Soft ∷ Text (codes "bar)") ∷ [])
  pub line_ending_in_angles : Reads (codes "[link](<foo\nbar>)") (Text (codes "[link](") ∷ Html (codes "<foo\nbar>") ∷ Text (codes ")") ∷ [])
  pub parenthesis_in_angles : Reads (codes "[a](<b)c>)") (Link (codes "b)c") [] (Text (codes "a") ∷ []) ∷ [])
  pub escaped_angle : Reads (codes "[link](<foo\\>)") (Text (codes "[link](<foo>)") ∷ [])
  pub angles_that_do_not_end : Reads (codes "[a](<b)c\n[a](<b)c>\n[a](<b>c)") (Text (codes "[a](<b)c") ∷ Soft ∷ Text (codes "[a](<b)c>") ∷ Soft ∷ Text (codes "[a](") ∷ Html (codes "<b>") ∷ Text (codes "c)") ∷ [])
  pub escaped_parentheses : Reads (codes "[link](\\(foo\\))") (Link (codes "(foo)") [] (Text (codes "link") ∷ []) ∷ [])
  pub balanced_parentheses : Reads (codes "[link](foo(and(bar)))") (Link (codes "foo(and(bar))") [] (Text (codes "link") ∷ []) ∷ [])
  pub unbalanced_parentheses : Reads (codes "[link](foo(and(bar))") (Text (codes "[link](foo(and(bar))") ∷ [])
  pub backslash_that_escapes_nothing : Reads (codes "[link](foo\\bar)") (Link (codes "foo\\bar") [] (Text (codes "link") ∷ []) ∷ [])
  pub reference_in_the_destination : Reads (codes "[link](foo%20b&auml;)") (Link (codes "foo%20b" ++ (0xC3 ∷ 0xA4 ∷ [])) [] (Text (codes "link") ∷ []) ∷ [])
  pub title_as_destination : Reads (codes "[link](\"title\")") (Link (codes "\"title\"") [] (Text (codes "link") ∷ []) ∷ [])
  pub title_with_an_escape : Reads (codes "[link](/url \"title \\\"&quot;\")") (Link (codes "/url") (codes "title \"\"") (Text (codes "link") ∷ []) ∷ [])
  pub no_break_space_is_no_gap : Reads (codes "[link](/url" ++ (0xC2 ∷ 0xA0 ∷ []) ++ codes "\"title\")") (Link (codes "/url" ++ (0xC2 ∷ 0xA0 ∷ []) ++ codes "\"title\"") [] (Text (codes "link") ∷ []) ∷ [])
  pub quotation_marks_in_a_title : Reads (codes "[link](/url \"title \"and\" title\")") (Text (codes "[link](/url \"title \"and\" title\")") ∷ [])
  pub other_quotation_marks : Reads (codes "[link](/url 'title \"and\" title')") (Link (codes "/url") (codes "title \"and\" title") (Text (codes "link") ∷ []) ∷ [])
  pub gaps : Reads (codes "[link](   /uri\n  \"title\"  )") (Link (codes "/uri") (codes "title") (Text (codes "link") ∷ []) ∷ [])
  pub space_before_the_parenthesis : Reads (codes "[link] (/uri)") (Text (codes "[link] (/uri)") ∷ [])
  pub balanced_brackets : Reads (codes "[link [foo [bar]]](/uri)") (Link (codes "/uri") [] (Text (codes "link [foo [bar]]") ∷ []) ∷ [])
  pub bracket_too_many : Reads (codes "[link] bar](/uri)") (Text (codes "[link] bar](/uri)") ∷ [])
  pub bracket_that_is_open : Reads (codes "[link [bar](/uri)") (Text (codes "[link ") ∷ Link (codes "/uri") [] (Text (codes "bar") ∷ []) ∷ [])
  pub escaped_bracket : Reads (codes "[link \\[bar](/uri)") (Link (codes "/uri") [] (Text (codes "link [bar") ∷ []) ∷ [])
  pub inlines_inside : Reads (codes "[link *foo **bar** `#`*](/uri)") (Link (codes "/uri") [] (Text (codes "link ") ∷ Emph (Text (codes "foo ") ∷ Strong (Text (codes "bar") ∷ []) ∷ Text (codes " ") ∷ Code (codes "#") ∷ []) ∷ []) ∷ [])
  pub link_in_a_link : Reads (codes "[foo [bar](/uri)](/uri)") (Text (codes "[foo ") ∷ Link (codes "/uri") [] (Text (codes "bar") ∷ []) ∷ Text (codes "](/uri)") ∷ [])
  pub link_deep_in_a_link : Reads (codes "[foo *[bar [baz](/uri)](/uri)*](/uri)") (Text (codes "[foo ") ∷ Emph (Text (codes "[bar ") ∷ Link (codes "/uri") [] (Text (codes "baz") ∷ []) ∷ Text (codes "](/uri)") ∷ []) ∷ Text (codes "](/uri)") ∷ [])
  pub autolink_in_a_link : Reads (codes "[a <ab:c>](d)") (Link (codes "d") [] (Text (codes "a ") ∷ Link (codes "ab:c") [] (Text (codes "ab:c") ∷ []) ∷ []) ∷ [])
  pub emphasis_across_the_end : Reads (codes "*[foo*](/uri)") (Text (codes "*") ∷ Link (codes "/uri") [] (Text (codes "foo*") ∷ []) ∷ [])
  pub star_in_the_destination : Reads (codes "[foo *bar](baz*)") (Link (codes "baz*") [] (Text (codes "foo *bar") ∷ []) ∷ [])
  pub emphasis_across_brackets : Reads (codes "*foo [bar* baz]") (Emph (Text (codes "foo [bar") ∷ []) ∷ Text (codes " baz]") ∷ [])
  pub tag_before_a_link : Reads (codes "[foo <bar attr=\"](baz)\">") (Text (codes "[foo ") ∷ Html (codes "<bar attr=\"](baz)\">") ∷ [])
  pub code_before_a_link : Reads (codes "[foo`](/uri)`") (Text (codes "[foo") ∷ Code (codes "](/uri)") ∷ [])
  pub autolink_before_a_link : Reads (codes "[foo<https://example.com/?search=](uri)>") (Text (codes "[foo") ∷ Link (codes "https://example.com/?search=](uri)") [] (Text (codes "https://example.com/?search=](uri)") ∷ []) ∷ [])
  pub end_that_cuts_a_code_span : Reads (codes "[a](b`c)`d") (Link (codes "b`c") [] (Text (codes "a") ∷ []) ∷ Text (codes "`d") ∷ [])
  pub space_in_angles_and_a_title : Reads (codes "[a](<b c> \"t\")") (Link (codes "b c") (codes "t") (Text (codes "a") ∷ []) ∷ [])
  pub star_before_a_link : Reads (codes "*a [b*](c)") (Text (codes "*a ") ∷ Link (codes "c") [] (Text (codes "b*") ∷ []) ∷ [])

-- 6.3 Links: reference links
pub record ReferenceLinkExamples : Type 0 where
  pub full : ReadsUnder ((codes "bar", (codes "/url", codes "title")) ∷ []) (codes "[foo][bar]") (Link (codes "/url") (codes "title") (Text (codes "foo") ∷ []) ∷ [])
  pub brackets_inside : ReadsUnder ((codes "ref", (codes "/uri", [])) ∷ []) (codes "[link [foo [bar]]][ref]") (Link (codes "/uri") [] (Text (codes "link [foo [bar]]") ∷ []) ∷ [])
  pub link_inside : ReadsUnder ((codes "ref", (codes "/uri", [])) ∷ []) (codes "[foo [bar](/uri)][ref]") (Text (codes "[foo ") ∷ Link (codes "/uri") [] (Text (codes "bar") ∷ []) ∷ Text (codes "]") ∷ Link (codes "/uri") [] (Text (codes "ref") ∷ []) ∷ [])
  pub reference_inside : ReadsUnder ((codes "ref", (codes "/uri", [])) ∷ []) (codes "[foo *bar [baz][ref]*][ref]") (Text (codes "[foo ") ∷ Emph (Text (codes "bar ") ∷ Link (codes "/uri") [] (Text (codes "baz") ∷ []) ∷ []) ∷ Text (codes "]") ∷ Link (codes "/uri") [] (Text (codes "ref") ∷ []) ∷ [])
  pub emphasis_across_the_end : ReadsUnder ((codes "ref", (codes "/uri", [])) ∷ []) (codes "*[foo*][ref]") (Text (codes "*") ∷ Link (codes "/uri") [] (Text (codes "foo*") ∷ []) ∷ [])
  pub folded_label : ReadsUnder ((codes "bar", (codes "/url", codes "title")) ∷ []) (codes "[foo][BaR]") (Link (codes "/url") (codes "title") (Text (codes "foo") ∷ []) ∷ [])
  pub sharp_s : ReadsUnder ((codes "SS", (codes "/url", [])) ∷ []) (codes "[" ++ (0xE1 ∷ 0xBA ∷ 0x9E ∷ []) ++ codes "]") (Link (codes "/url") [] (Text ((0xE1 ∷ 0xBA ∷ 0x9E ∷ [])) ∷ []) ∷ [])
  pub line_ending_in_a_label : ReadsUnder ((codes "Foo bar", (codes "/url", [])) ∷ []) (codes "[Foo\nbar]: x") (Link (codes "/url") [] (Text (codes "Foo") ∷ Soft ∷ Text (codes "bar") ∷ []) ∷ Text (codes ": x") ∷ [])
  pub space_between : ReadsUnder ((codes "bar", (codes "/url", codes "title")) ∷ []) (codes "[foo] [bar]") (Text (codes "[foo] ") ∷ Link (codes "/url") (codes "title") (Text (codes "bar") ∷ []) ∷ [])
  pub first_of_two : ReadsUnder ((codes "foo", (codes "/url1", [])) ∷ (codes "foo", (codes "/url2", [])) ∷ []) (codes "[foo]") (Link (codes "/url1") [] (Text (codes "foo") ∷ []) ∷ [])
  pub compared_as_written : ReadsUnder ((codes "foo!", (codes "/url", [])) ∷ []) (codes "[bar][foo\\!]") (Text (codes "[bar][foo!]") ∷ [])
  pub bracket_in_a_label : ReadsUnder ((codes "ref[", (codes "/uri", [])) ∷ []) (codes "[foo][ref[]") (Text (codes "[foo][ref[]") ∷ [])
  pub escaped_bracket_in_a_label : ReadsUnder ((codes "ref\\[", (codes "/uri", [])) ∷ []) (codes "[foo][ref\\[]") (Link (codes "/uri") [] (Text (codes "foo") ∷ []) ∷ [])
  pub label_without_a_character : ReadsUnder (([], (codes "/uri", [])) ∷ []) (codes "[]") (Text (codes "[]") ∷ [])
  pub collapsed : ReadsUnder ((codes "foo", (codes "/url", codes "title")) ∷ []) (codes "[foo][]") (Link (codes "/url") (codes "title") (Text (codes "foo") ∷ []) ∷ [])
  pub collapsed_with_emphasis : ReadsUnder ((codes "*foo* bar", (codes "/url", codes "title")) ∷ []) (codes "[*foo* bar][]") (Link (codes "/url") (codes "title") (Emph (Text (codes "foo") ∷ []) ∷ Text (codes " bar") ∷ []) ∷ [])
  pub collapsed_in_capitals : ReadsUnder ((codes "foo", (codes "/url", codes "title")) ∷ []) (codes "[Foo][]") (Link (codes "/url") (codes "title") (Text (codes "Foo") ∷ []) ∷ [])
  pub shortcut : ReadsUnder ((codes "foo", (codes "/url", codes "title")) ∷ []) (codes "[foo]") (Link (codes "/url") (codes "title") (Text (codes "foo") ∷ []) ∷ [])
  pub shortcut_in_brackets : ReadsUnder ((codes "*foo* bar", (codes "/url", codes "title")) ∷ []) (codes "[[*foo* bar]]") (Text (codes "[") ∷ Link (codes "/url") (codes "title") (Emph (Text (codes "foo") ∷ []) ∷ Text (codes " bar") ∷ []) ∷ Text (codes "]") ∷ [])
  pub shortcut_after_open_brackets : ReadsUnder ((codes "foo", (codes "/url", codes "title")) ∷ []) (codes "[[bar [foo]") (Text (codes "[[bar ") ∷ Link (codes "/url") (codes "title") (Text (codes "foo") ∷ []) ∷ [])
  pub shortcut_before_text : ReadsUnder ((codes "foo", (codes "/url", codes "title")) ∷ []) (codes "[foo] bar") (Link (codes "/url") (codes "title") (Text (codes "foo") ∷ []) ∷ Text (codes " bar") ∷ [])
  pub escaped_opener : ReadsUnder ((codes "foo", (codes "/url", codes "title")) ∷ []) (codes "\\[foo]") (Text (codes "[foo]") ∷ [])
  pub shortcut_with_a_star : ReadsUnder ((codes "foo*", (codes "/url", [])) ∷ []) (codes "*[foo*]") (Text (codes "*") ∷ Link (codes "/url") [] (Text (codes "foo*") ∷ []) ∷ [])
  pub full_before_shortcut : ReadsUnder ((codes "foo", (codes "/url1", [])) ∷ (codes "bar", (codes "/url2", [])) ∷ []) (codes "[foo][bar]") (Link (codes "/url2") [] (Text (codes "foo") ∷ []) ∷ [])
  pub inline_before_reference : ReadsUnder ((codes "foo", (codes "/url", codes "title")) ∷ []) (codes "[foo]()") (Link [] [] (Text (codes "foo") ∷ []) ∷ [])
  pub no_inline_link : ReadsUnder ((codes "foo", (codes "/url", codes "title")) ∷ []) (codes "[foo](not a link)") (Link (codes "/url") (codes "title") (Text (codes "foo") ∷ []) ∷ Text (codes "(not a link)") ∷ [])
  pub label_that_is_not_defined : ReadsUnder ((codes "baz", (codes "/url", [])) ∷ []) (codes "[foo][bar][baz]") (Text (codes "[foo]") ∷ Link (codes "/url") [] (Text (codes "bar") ∷ []) ∷ [])
  pub two_full : ReadsUnder ((codes "baz", (codes "/url1", [])) ∷ (codes "bar", (codes "/url2", [])) ∷ []) (codes "[foo][bar][baz]") (Link (codes "/url2") [] (Text (codes "foo") ∷ []) ∷ Link (codes "/url1") [] (Text (codes "baz") ∷ []) ∷ [])
  pub no_shortcut_before_a_label : ReadsUnder ((codes "baz", (codes "/url1", [])) ∷ (codes "foo", (codes "/url2", [])) ∷ []) (codes "[foo][bar][baz]") (Text (codes "[foo]") ∷ Link (codes "/url1") [] (Text (codes "bar") ∷ []) ∷ [])
  pub other_label_not_defined : ReadsUnder ((codes "foo", (codes "/u", [])) ∷ []) (codes "[foo][bar]") (Text (codes "[foo][bar]") ∷ [])

-- 6.4 Images
pub record ImageExamples : Type 0 where
  pub with_a_title : Reads (codes "![foo](/url \"title\")") (Image (codes "/url") (codes "title") (Text (codes "foo") ∷ []) ∷ [])
  pub image_inside : Reads (codes "![foo ![bar](/url)](/url2)") (Image (codes "/url2") [] (Text (codes "foo ") ∷ Image (codes "/url") [] (Text (codes "bar") ∷ []) ∷ []) ∷ [])
  pub link_inside : Reads (codes "![foo [bar](/url)](/url2)") (Image (codes "/url2") [] (Text (codes "foo ") ∷ Link (codes "/url") [] (Text (codes "bar") ∷ []) ∷ []) ∷ [])
  pub emphasis_inside : Reads (codes "![a *b*](/u)") (Image (codes "/u") [] (Text (codes "a ") ∷ Emph (Text (codes "b") ∷ []) ∷ []) ∷ [])
  pub in_a_link : Reads (codes "[![moon](moon.jpg)](/uri)") (Link (codes "/uri") [] (Image (codes "moon.jpg") [] (Text (codes "moon") ∷ []) ∷ []) ∷ [])
  pub links_in_an_image : Reads (codes "![[[foo](uri1)](uri2)](uri3)") (Image (codes "uri3") [] (Text (codes "[") ∷ Link (codes "uri1") [] (Text (codes "foo") ∷ []) ∷ Text (codes "](uri2)") ∷ []) ∷ [])
  pub link_in_an_image_in_a_link : Reads (codes "[![[a](b)](c)](d)") (Text (codes "[") ∷ Image (codes "c") [] (Link (codes "b") [] (Text (codes "a") ∷ []) ∷ []) ∷ Text (codes "](d)") ∷ [])
  pub beyond_text : Reads (codes "My ![foo bar](/path/to/train.jpg  \"title\"   )") (Text (codes "My ") ∷ Image (codes "/path/to/train.jpg") (codes "title") (Text (codes "foo bar") ∷ []) ∷ [])
  pub destination_in_angles : Reads (codes "![foo](<url>)") (Image (codes "url") [] (Text (codes "foo") ∷ []) ∷ [])
  pub without_a_text : Reads (codes "![](/url)") (Image (codes "/url") [] [] ∷ [])
  pub full_reference : ReadsUnder ((codes "bar", (codes "/url", codes "title")) ∷ []) (codes "![foo][bar]") (Image (codes "/url") (codes "title") (Text (codes "foo") ∷ []) ∷ [])
  pub collapsed_reference : ReadsUnder ((codes "foo", (codes "/url", codes "title")) ∷ []) (codes "![foo][]") (Image (codes "/url") (codes "title") (Text (codes "foo") ∷ []) ∷ [])
  pub shortcut_reference : ReadsUnder ((codes "foo", (codes "/url", codes "title")) ∷ []) (codes "![foo]") (Image (codes "/url") (codes "title") (Text (codes "foo") ∷ []) ∷ [])
  pub double_brackets : ReadsUnder ((codes "[foo]", (codes "/url", [])) ∷ []) (codes "![[foo]]") (Text (codes "![[foo]]") ∷ [])
  pub escaped_bracket : ReadsUnder ((codes "foo", (codes "/url", codes "title")) ∷ []) (codes "!\\[foo]") (Text (codes "![foo]") ∷ [])
  pub escaped_exclamation_mark : ReadsUnder ((codes "foo", (codes "/url", codes "title")) ∷ []) (codes "\\![foo]") (Text (codes "!") ∷ Link (codes "/url") (codes "title") (Text (codes "foo") ∷ []) ∷ [])

-- 6.5 Autolinks
pub record AutolinkExamples : Type 0 where
  pub http : Reads (codes "<http://foo.bar.baz>") (Link (codes "http://foo.bar.baz") [] (Text (codes "http://foo.bar.baz") ∷ []) ∷ [])
  pub query : Reads (codes "<https://foo.bar.baz/test?q=hello&id=22&boolean>") (Link (codes "https://foo.bar.baz/test?q=hello&id=22&boolean") [] (Text (codes "https://foo.bar.baz/test?q=hello&id=22&boolean") ∷ []) ∷ [])
  pub capitals : Reads (codes "<MAILTO:FOO@BAR.BAZ>") (Link (codes "MAILTO:FOO@BAR.BAZ") [] (Text (codes "MAILTO:FOO@BAR.BAZ") ∷ []) ∷ [])
  pub made_up_scheme : Reads (codes "<made-up-scheme://foo,bar>") (Link (codes "made-up-scheme://foo,bar") [] (Text (codes "made-up-scheme://foo,bar") ∷ []) ∷ [])
  pub space_inside : Reads (codes "<https://foo.bar/baz bim>") (Text (codes "<https://foo.bar/baz bim>") ∷ [])
  pub no_escapes : Reads (codes "<https://example.com/\\[\\>") (Link (codes "https://example.com/\\[\\") [] (Text (codes "https://example.com/\\[\\") ∷ []) ∷ [])
  pub address : Reads (codes "<foo+special@Bar.baz-bar0.com>") (Link (codes "mailto:foo+special@Bar.baz-bar0.com") [] (Text (codes "foo+special@Bar.baz-bar0.com") ∷ []) ∷ [])
  pub escape_in_an_address : Reads (codes "<foo\\+@bar.example.com>") (Text (codes "<foo+@bar.example.com>") ∷ [])
  pub nothing_inside : Reads (codes "<>") (Text (codes "<>") ∷ [])
  pub scheme_of_one_letter : Reads (codes "<m:abc>") (Text (codes "<m:abc>") ∷ [])
  pub no_scheme : Reads (codes "<foo.bar.baz>") (Text (codes "<foo.bar.baz>") ∷ [])
  pub bare : Reads (codes "https://example.com") (Text (codes "https://example.com") ∷ [])
  pub address_and_declaration : Reads (codes "<!a@b>") (Link (codes "mailto:!a@b") [] (Text (codes "!a@b") ∷ []) ∷ [])
  pub short_address : Reads (codes "<a@b.c>") (Link (codes "mailto:a@b.c") [] (Text (codes "a@b.c") ∷ []) ∷ [])
  pub quotation_mark_and_umlaut : Reads (codes "<https://e.x/?a=1&b=\"" ++ (0xC3 ∷ 0xA4 ∷ []) ++ codes ">") (Link (codes "https://e.x/?a=1&b=\"" ++ (0xC3 ∷ 0xA4 ∷ [])) [] (Text (codes "https://e.x/?a=1&b=\"" ++ (0xC3 ∷ 0xA4 ∷ [])) ∷ []) ∷ [])

-- 6.6 Raw HTML
pub record RawHtmlExamples : Type 0 where
  pub open_tags : Reads (codes "<a><bab><c2c>") (Html (codes "<a>") ∷ Html (codes "<bab>") ∷ Html (codes "<c2c>") ∷ [])
  pub empty_elements : Reads (codes "<a/><b2/>") (Html (codes "<a/>") ∷ Html (codes "<b2/>") ∷ [])
  pub attributes : Reads (codes "<a foo=\"bar\" bam = 'baz <em>\"</em>'\n_boolean zoop:33=zoop:33 />") (Html (codes "<a foo=\"bar\" bam = 'baz <em>\"</em>'\n_boolean zoop:33=zoop:33 />") ∷ [])
  pub custom_names : Reads (codes "Foo <responsive-image src=\"foo.jpg\" />") (Text (codes "Foo ") ∷ Html (codes "<responsive-image src=\"foo.jpg\" />") ∷ [])
  pub names_that_are_none : Reads (codes "<33> <__>") (Text (codes "<33> <__>") ∷ [])
  pub attribute_that_is_none : Reads (codes "<a h*#ref=\"hi\">") (Text (codes "<a h*#ref=\"hi\">") ∷ [])
  pub value_that_does_not_end : Reads (codes "<a href=\"hi'> <a href=hi'>") (Text (codes "<a href=\"hi'> <a href=hi'>") ∷ [])
  pub space_in_front : Reads (codes "< a><foo><bar/ >") (Text (codes "< a>") ∷ Html (codes "<foo>") ∷ Text (codes "<bar/ >") ∷ [])
  pub no_gap_between_attributes : Reads (codes "<a href='bar'title=title>") (Text (codes "<a href='bar'title=title>") ∷ [])
  pub closing_tags : Reads (codes "</a></foo >") (Html (codes "</a>") ∷ Html (codes "</foo >") ∷ [])
  pub closing_tag_with_attribute : Reads (codes "</a href=\"foo\">") (Text (codes "</a href=\"foo\">") ∷ [])
  pub comment : Reads (codes "foo <!-- this is a --\ncomment - with hyphens -->") (Text (codes "foo ") ∷ Html (codes "<!-- this is a --\ncomment - with hyphens -->") ∷ [])
  pub short_comments : Reads (codes "foo <!--> foo -->\nfoo <!---> foo -->") (Text (codes "foo ") ∷ Html (codes "<!-->") ∷ Text (codes " foo -->") ∷ Soft ∷ Text (codes "foo ") ∷ Html (codes "<!--->") ∷ Text (codes " foo -->") ∷ [])
  pub instruction : Reads (codes "foo <?php echo $a; ?>") (Text (codes "foo ") ∷ Html (codes "<?php echo $a; ?>") ∷ [])
  pub declaration : Reads (codes "foo <!ELEMENT br EMPTY>") (Text (codes "foo ") ∷ Html (codes "<!ELEMENT br EMPTY>") ∷ [])
  pub character_data : Reads (codes "foo <![CDATA[>&<]]>") (Text (codes "foo ") ∷ Html (codes "<![CDATA[>&<]]>") ∷ [])
  pub reference_inside : Reads (codes "foo <a href=\"&ouml;\">") (Text (codes "foo ") ∷ Html (codes "<a href=\"&ouml;\">") ∷ [])
  pub backslash_inside : Reads (codes "foo <a href=\"\\*\">") (Text (codes "foo ") ∷ Html (codes "<a href=\"\\*\">") ∷ [])
  pub quotation_mark_escaped : Reads (codes "<a href=\"\\\"\">") (Text (codes "<a href=\"\"\">") ∷ [])
  pub after_a_line_ending : Reads (codes "a\n<x>") (Text (codes "a") ∷ Soft ∷ Html (codes "<x>") ∷ [])
  pub letter_after_a_value : Reads (codes "<a href=\"x\"y>") (Text (codes "<a href=\"x\"y>") ∷ [])
  pub shortest_comment : Reads (codes "x <!--> y -->") (Text (codes "x ") ∷ Html (codes "<!-->") ∷ Text (codes " y -->") ∷ [])

-- 6.7 Hard line breaks, 6.8 Soft line breaks
pub record LineBreakExamples : Type 0 where
  pub two_spaces : Reads (codes "foo  \nbaz") (Text (codes "foo") ∷ Hard ∷ Text (codes "baz") ∷ [])
  pub backslash : Reads (codes "foo\\\nbaz") (Text (codes "foo") ∷ Hard ∷ Text (codes "baz") ∷ [])
  pub more_spaces : Reads (codes "foo       \nbaz") (Text (codes "foo") ∷ Hard ∷ Text (codes "baz") ∷ [])
  pub in_emphasis : Reads (codes "*foo  \nbar*") (Emph (Text (codes "foo") ∷ Hard ∷ Text (codes "bar") ∷ []) ∷ [])
  pub backslash_in_emphasis : Reads (codes "*foo\\\nbar*") (Emph (Text (codes "foo") ∷ Hard ∷ Text (codes "bar") ∷ []) ∷ [])
  pub none_in_a_code_span : Reads (codes "`code  \nspan`") (Code (codes "code   span") ∷ [])
  pub none_in_a_tag : Reads (codes "<a href=\"foo  \nbar\">") (Html (codes "<a href=\"foo  \nbar\">") ∷ [])
  pub backslash_at_the_end : Reads (codes "foo\\") (Text (codes "foo\\") ∷ [])
  pub soft : Reads (codes "foo\nbaz") (Text (codes "foo") ∷ Soft ∷ Text (codes "baz") ∷ [])
  pub one_space : Reads (codes "foo \nbaz") (Text (codes "foo") ∷ Soft ∷ Text (codes "baz") ∷ [])
  pub tab_stays : Reads (codes "foo\t\nbaz") (Text (codes "foo\t") ∷ Soft ∷ Text (codes "baz") ∷ [])
  pub spaces_before_a_backslash : Reads (codes "foo  \\\nbaz") (Text (codes "foo  ") ∷ Hard ∷ Text (codes "baz") ∷ [])
  pub spaces_and_then_a_backslash : Reads (codes "foo  \nbar\\\nbaz") (Text (codes "foo") ∷ Hard ∷ Text (codes "bar") ∷ Hard ∷ Text (codes "baz") ∷ [])

-- 2.4 Backslash escapes, 2.5 References, 6.9 Textual content
pub record TextExamples : Type 0 where
  pub plain : Reads (codes "hello $.;'there") (Text (codes "hello $.;'there") ∷ [])
  pub beyond_ascii : Reads (codes "Foo " ++ (0xCF ∷ 0x87 ∷ 0xCF ∷ 0x81 ∷ 0xE1 ∷ 0xBF ∷ 0x86 ∷ 0xCE ∷ 0xBD ∷ [])) (Text (codes "Foo " ++ (0xCF ∷ 0x87 ∷ 0xCF ∷ 0x81 ∷ 0xE1 ∷ 0xBF ∷ 0x86 ∷ 0xCE ∷ 0xBD ∷ [])) ∷ [])
  pub spaces_stay : Reads (codes "Multiple     spaces") (Text (codes "Multiple     spaces") ∷ [])
  pub escapes : Reads (codes "\\*a\\* \\" ++ (0xE2 ∷ 0x86 ∷ 0x92 ∷ []) ++ codes "\\A\\a\\ \\3") (Text (codes "*a* \\" ++ (0xE2 ∷ 0x86 ∷ 0x92 ∷ []) ++ codes "\\A\\a\\ \\3") ∷ [])
  pub escaped_backslash : Reads (codes "\\\\*emphasis*") (Text (codes "\\") ∷ Emph (Text (codes "emphasis") ∷ []) ∷ [])
  pub references : Reads (codes "&nbsp; &amp; &copy; &AElig; &Dcaron; &frac34; &HilbertSpace; &DifferentialD; &ClockwiseContourIntegral; &ngE;") (Text ((0xC2 ∷ 0xA0 ∷ []) ++ codes " & " ++ (0xC2 ∷ 0xA9 ∷ []) ++ codes " " ++ (0xC3 ∷ 0x86 ∷ []) ++ codes " " ++ (0xC4 ∷ 0x8E ∷ []) ++ codes " " ++ (0xC2 ∷ 0xBE ∷ []) ++ codes " " ++ (0xE2 ∷ 0x84 ∷ 0x8B ∷ []) ++ codes " " ++ (0xE2 ∷ 0x85 ∷ 0x86 ∷ []) ++ codes " " ++ (0xE2 ∷ 0x88 ∷ 0xB2 ∷ []) ++ codes " " ++ (0xE2 ∷ 0x89 ∷ 0xA7 ∷ 0xCC ∷ 0xB8 ∷ [])) ∷ [])
  pub decimal : Reads (codes "&#35; &#1234; &#992; &#0;") (Text (codes "# " ++ (0xD3 ∷ 0x92 ∷ []) ++ codes " " ++ (0xCF ∷ 0xA0 ∷ []) ++ codes " " ++ (0xEF ∷ 0xBF ∷ 0xBD ∷ [])) ∷ [])
  pub hexadecimal : Reads (codes "&#X22; &#XD06; &#xcab;") (Text (codes "\" " ++ (0xE0 ∷ 0xB4 ∷ 0x86 ∷ []) ++ codes " " ++ (0xE0 ∷ 0xB2 ∷ 0xAB ∷ [])) ∷ [])
  pub no_references : Reads (codes "&nbsp &x; &#; &#x; &#87654321; &#abcdef0; &ThisIsNotDefined; &hi?;") (Text (codes "&nbsp &x; &#; &#x; &#87654321; &#abcdef0; &ThisIsNotDefined; &hi?;") ∷ [])
  pub reference_is_no_markup : Reads (codes "&#42;foo&#42; *foo*") (Text (codes "*foo* ") ∷ Emph (Text (codes "foo") ∷ []) ∷ [])
  pub line_feed_by_reference : Reads (codes "foo&#10;&#10;bar") (Text (codes "foo\n\nbar") ∷ [])
  pub bracket_by_reference : Reads (codes "[a](url &quot;tit&quot;)") (Text (codes "[a](url \"tit\")") ∷ [])
  pub too_many_digits_and_no_such_name : Reads (codes "&#0; &#987654321; &copy; &nosuch;") (Text ((0xEF ∷ 0xBF ∷ 0xBD ∷ []) ++ codes " &#987654321; " ++ (0xC2 ∷ 0xA9 ∷ []) ++ codes " &nosuch;") ∷ [])
  pub escaped_stars : Reads (codes "\\*a\\*") (Text (codes "*a*") ∷ [])

-- strikethrough, this project's own extension
pub record StrikeExamples : Type 0 where
  pub on : ReadsBy struck [] (codes "~~a~~") (Strike (Text (codes "a") ∷ []) ∷ [])
  pub off : Reads (codes "~~a~~") (Text (codes "~~a~~") ∷ [])
  pub runs_of_two_alone : ReadsBy struck [] (codes "~a~ ~~~b~~~ ~~c~~") (Text (codes "~a~ ~~~b~~~ ") ∷ Strike (Text (codes "c") ∷ []) ∷ [])
  pub runs_of_two_alone_off : Reads (codes "~a~ ~~~b~~~ ~~c~~") (Text (codes "~a~ ~~~b~~~ ~~c~~") ∷ [])
  pub in_the_order_of_closers : ReadsBy struck [] (codes "*a ~~b* c~~") (Emph (Text (codes "a ~~b") ∷ []) ∷ Text (codes " c~~") ∷ [])
  pub in_the_order_of_closers_off : Reads (codes "*a ~~b* c~~") (Emph (Text (codes "a ~~b") ∷ []) ∷ Text (codes " c~~") ∷ [])
  pub inside_a_word : ReadsBy struck [] (codes "a~~b~~c~~d") (Text (codes "a") ∷ Strike (Text (codes "b") ∷ []) ∷ Text (codes "c~~d") ∷ [])
  pub inside_a_word_off : Reads (codes "a~~b~~c~~d") (Text (codes "a~~b~~c~~d") ∷ [])
  pub emphasis_inside : ReadsBy struck [] (codes "~~a *b*~~") (Strike (Text (codes "a ") ∷ Emph (Text (codes "b") ∷ []) ∷ []) ∷ [])

-- the older rules
pub record OlderRulesExamples : Type 0 where
  pub pound_sign : ReadsBy older_rules [] (codes "*" ++ (0xC2 ∷ 0xA3 ∷ []) ++ codes "*bravo.") (Emph (Text ((0xC2 ∷ 0xA3 ∷ [])) ∷ []) ∷ Text (codes "bravo.") ∷ [])
  pub dollar_sign : ReadsBy older_rules [] (codes "*$*alpha.") (Text (codes "*$*alpha.") ∷ [])
  pub short_comment : ReadsBy older_rules [] (codes "x <!--> y -->") (Text (codes "x <!--> y -->") ∷ [])
  pub comment_of_a_hyphen : ReadsBy older_rules [] (codes "x <!---> y -->") (Text (codes "x <!---> y -->") ∷ [])
  pub two_hyphens : ReadsBy older_rules [] (codes "x <!-- a--b -->") (Text (codes "x <!-- a--b -->") ∷ [])
  pub hyphen_at_the_end : ReadsBy older_rules [] (codes "x <!-- a --->") (Text (codes "x <!-- a --->") ∷ [])
  pub comment : ReadsBy older_rules [] (codes "x <!-- a-b -->") (Text (codes "x ") ∷ Html (codes "<!-- a-b -->") ∷ [])
  pub by_the_profile : Reads (codes "x <!-- a--b -->") (Text (codes "x ") ∷ Html (codes "<!-- a--b -->") ∷ [])

-- how deep inlines nest, and whether it is past a limit
abbrev pub Nests : Rules → List ℕ → ℕ → Type 0
Nests rules source depth = depth_of_leaf rules (λ folded. None) source ≡ depth

abbrev pub NestsPast : ℕ → List ℕ → Bool → Type 0
NestsPast limit source past = nests_past profile (λ folded. None) limit source ≡ past

pub record NestingExamples : Type 0 where
  pub text : Nests profile (codes "a") 0
  pub two_side_by_side : Nests profile (codes "*a* **b**") 1
  pub strong_in_emphasis : Nests profile (codes "***a***") 2
  pub code_and_autolink : Nests profile (codes "`a` <bc:d>") 1
  pub image_in_a_link : Nests profile (codes "*[a ![b](c)](d)*") 3
  pub strike_in_emphasis : Nests struck (codes "*~~a~~*") 2
  pub no_strike : Nests profile (codes "*~~a~~*") 1
  pub at_the_limit : NestsPast 2 (codes "***a***") false
  pub past_the_limit : NestsPast 1 (codes "***a***") true
