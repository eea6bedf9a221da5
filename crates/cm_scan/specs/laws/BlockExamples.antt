-- Worked examples: the blocks of texts, and the owners of their lines.
use Rattle.std.specs.Prelude.{◌≡◌, ℕ, true, false, List, [], ◌∷◌, codes, Some, None, replicate, ◌++◌}
use Rattle.std.specs.List.{flat_map}
use Rattle.cm_text.specs.Rules.{Rules, profile, older_rules}
use Rattle.cm_text.specs.Lines.{plain_lines_of}
use Rattle.cm_tree.specs.declared.tree.Inline.TheVariants.{Text}
use Rattle.cm_tree.specs.declared.tree.Block.{Block}
use Rattle.cm_tree.specs.declared.tree.Block.TheVariants.{Paragraph, Heading, Code, Html, Break, Definition, Quote, List as ListBlock}
use Rattle.cm_tree.specs.declared.tree.ListKind.TheVariants.{Dash, Star, Dot, Paren}
use Rattle.cm_tree.specs.declared.tree.Owner.{Owner}
use Rattle.cm_tree.specs.declared.tree.Owner.TheVariants.{Leaf, Marker, Blank}
use Rattle.cm_scan.specs.blocks.Blocks.{blocks_of, owners_of, first_too_deep}

-- a paragraph with this source
abbrev pub text_paragraph : List ℕ → Block
text_paragraph text = Paragraph (Text text ∷ [])

-- By these rules the text has these blocks, and its lines these owners.
pub record ReadsBy (rules : Rules) (text : List ℕ) (blocks : List Block) (owners : List Owner) : Type 0 where
  pub tree : blocks_of rules (plain_lines_of text) ≡ blocks
  pub lines : owners_of rules (plain_lines_of text) ≡ owners

abbrev pub Reads : List ℕ → List Block → List Owner → Type 0
Reads = ReadsBy profile

pub record LeafExamples : Type 0 where
  pub no_lines : Reads [] ([]) ([])
  pub atx_headings : Reads (codes "# a #\n##\n") (Heading 1 (Text (codes "a") ∷ []) ∷ Heading 2 [] ∷ []) (Leaf 1 ∷ Leaf 2 ∷ [])
  pub underline_and_break : Reads (codes "a\nb\n===\n---\n") (Heading 1 (Text (codes "a\nb") ∷ []) ∷ Break ∷ []) (Leaf 1 ∷ Leaf 1 ∷ Leaf 1 ∷ Leaf 2 ∷ [])
  pub indented_code : Reads (codes "    a\n\n    b\n\nc\n") (Code [] (codes "a\n\nb\n") ∷ text_paragraph (codes "c") ∷ []) (Leaf 1 ∷ Leaf 1 ∷ Leaf 1 ∷ Blank ∷ Leaf 2 ∷ [])
  pub tildes : Reads (codes "~~~ x\n  ~~\n~~~~\n") (Code (codes "x") (codes "  ~~\n") ∷ []) (Leaf 1 ∷ Leaf 1 ∷ Leaf 1 ∷ [])
  pub html_up_to_a_blank_line : Reads (codes "<div>\n*a*\n\nb\n") (Html (codes "<div>\n*a*\n") ∷ text_paragraph (codes "b") ∷ []) (Leaf 1 ∷ Leaf 1 ∷ Blank ∷ Leaf 2 ∷ [])
  pub comment_over_a_blank_line : Reads (codes "<!-- a\n\nb -->c\nd\n") (Html (codes "<!-- a\n\nb -->c\n") ∷ text_paragraph (codes "d") ∷ []) (Leaf 1 ∷ Leaf 1 ∷ Leaf 1 ∷ Leaf 2 ∷ [])
  pub html_interrupts_a_paragraph : Reads (codes "a\n<div>\n") (text_paragraph (codes "a") ∷ Html (codes "<div>\n") ∷ []) (Leaf 1 ∷ Leaf 2 ∷ [])
  pub fence_with_a_column : Reads (codes " ~~~\n  x\n y\n") (Code [] (codes " x\ny\n") ∷ []) (Leaf 1 ∷ Leaf 1 ∷ Leaf 1 ∷ [])
  pub tab_inside_code : Reads (codes "\tfoo\tbaz\n") (Code [] (codes "foo\tbaz\n") ∷ []) (Leaf 1 ∷ [])
  pub fence_interrupts_a_paragraph : Reads (codes "a\n```\nb\n```\nc\n") (text_paragraph (codes "a") ∷ Code [] (codes "b\n") ∷ text_paragraph (codes "c") ∷ []) (Leaf 1 ∷ Leaf 2 ∷ Leaf 2 ∷ Leaf 2 ∷ Leaf 3 ∷ [])
  pub shorter_fence_closes_nothing : Reads (codes "````\na\n```\n") (Code [] (codes "a\n```\n") ∷ []) (Leaf 1 ∷ Leaf 1 ∷ Leaf 1 ∷ [])
  pub last_html_interrupts_nothing : Reads (codes "a\n<b>\n") (text_paragraph (codes "a\n<b>") ∷ []) (Leaf 1 ∷ Leaf 1 ∷ [])
  pub seven_number_signs : Reads (codes "####### a\n") (text_paragraph (codes "####### a") ∷ []) (Leaf 1 ∷ [])
  pub escaped_closing_sequence : Reads (codes "# a \\#\n") (Heading 1 (Text (codes "a \\#") ∷ []) ∷ []) (Leaf 1 ∷ [])
  pub gap_in_an_underline : Reads (codes "a\n= =\n") (text_paragraph (codes "a\n= =") ∷ []) (Leaf 1 ∷ Leaf 1 ∷ [])
  pub backtick_in_an_info_string : Reads (codes "``` a`b\n") (text_paragraph (codes "``` a`b") ∷ []) (Leaf 1 ∷ [])
  pub search_interrupts_a_paragraph : Reads (codes "a\n<search>\n") (text_paragraph (codes "a") ∷ Html (codes "<search>\n") ∷ []) (Leaf 1 ∷ Leaf 2 ∷ [])
  pub source_interrupts_nothing : Reads (codes "a\n<source>\n") (text_paragraph (codes "a\n<source>") ∷ []) (Leaf 1 ∷ Leaf 1 ∷ [])
  pub older_search : ReadsBy older_rules (codes "a\n<search>\n") (text_paragraph (codes "a\n<search>") ∷ []) (Leaf 1 ∷ Leaf 1 ∷ [])
  pub older_source : ReadsBy older_rules (codes "a\n<source>\n") (text_paragraph (codes "a") ∷ Html (codes "<source>\n") ∷ []) (Leaf 1 ∷ Leaf 2 ∷ [])
  pub info_string_resolved : Reads (codes "``` a&amp;b c\n") (Code (codes "a&b c") (codes "") ∷ []) (Leaf 1 ∷ [])

pub record ContainerExamples : Type 0 where
  pub lazy_line : Reads (codes "> a\nb\n") (Quote (text_paragraph (codes "a\nb") ∷ []) ∷ []) (Leaf 1 ∷ Leaf 1 ∷ [])
  pub lazy_line_is_no_underline : Reads (codes "> foo\n===\n") (Quote (text_paragraph (codes "foo\n===") ∷ []) ∷ []) (Leaf 1 ∷ Leaf 1 ∷ [])
  pub break_ends_a_quote : Reads (codes "> foo\n---\n") (Quote (text_paragraph (codes "foo") ∷ []) ∷ Break ∷ []) (Leaf 1 ∷ Leaf 2 ∷ [])
  pub bare_marker_and_blank_line : Reads (codes "-\n\n  a\n") (ListBlock Dash true ([] ∷ []) ∷ text_paragraph (codes "a") ∷ []) (Marker ∷ Blank ∷ Leaf 1 ∷ [])
  pub code_in_an_item : Reads (codes "1.     a\n") (ListBlock (Dot 1) true ((Code [] (codes "a\n") ∷ []) ∷ []) ∷ []) (Leaf 1 ∷ [])
  pub two_interrupts_nothing : Reads (codes "a\n2. b\n") (text_paragraph (codes "a\n2. b") ∷ []) (Leaf 1 ∷ Leaf 1 ∷ [])
  pub loose_list : Reads (codes "- a\n\n  b\n- c\n") (ListBlock Dash false ((text_paragraph (codes "a") ∷ text_paragraph (codes "b") ∷ []) ∷ (text_paragraph (codes "c") ∷ []) ∷ []) ∷ []) (Leaf 1 ∷ Blank ∷ Leaf 2 ∷ Leaf 3 ∷ [])
  pub list_in_a_list : Reads (codes "- - a\n") (ListBlock Dash true ((ListBlock Dash true ((text_paragraph (codes "a") ∷ []) ∷ []) ∷ []) ∷ []) ∷ []) (Leaf 1 ∷ [])
  pub tabs_in_a_quote : Reads (codes ">\t\tfoo\n") (Quote (Code [] (codes "  foo\n") ∷ []) ∷ []) (Leaf 1 ∷ [])
  pub two_delimiters : Reads (codes "1. foo\n2. bar\n3) baz\n") (ListBlock (Dot 1) true ((text_paragraph (codes "foo") ∷ []) ∷ (text_paragraph (codes "bar") ∷ []) ∷ []) ∷ ListBlock (Paren 3) true ((text_paragraph (codes "baz") ∷ []) ∷ []) ∷ []) (Leaf 1 ∷ Leaf 2 ∷ Leaf 3 ∷ [])
  pub four_columns_are_lazy : Reads (codes "- a\n - b\n  - c\n   - d\n    - e\n") (ListBlock Dash true ((text_paragraph (codes "a") ∷ []) ∷ (text_paragraph (codes "b") ∷ []) ∷ (text_paragraph (codes "c") ∷ []) ∷ (text_paragraph (codes "d\n- e") ∷ []) ∷ []) ∷ []) (Leaf 1 ∷ Leaf 2 ∷ Leaf 3 ∷ Leaf 4 ∷ Leaf 4 ∷ [])
  pub blank_line_of_a_quote : Reads (codes "* a\n  > b\n  >\n* c\n") (ListBlock Star true ((text_paragraph (codes "a") ∷ Quote (text_paragraph (codes "b") ∷ []) ∷ []) ∷ (text_paragraph (codes "c") ∷ []) ∷ []) ∷ []) (Leaf 1 ∷ Leaf 2 ∷ Marker ∷ Leaf 3 ∷ [])
  pub open_fence_in_an_item : Reads (codes "- ```\n  a\n\n- b\n") (ListBlock Dash true ((Code [] (codes "a\n\n") ∷ []) ∷ (text_paragraph (codes "b") ∷ []) ∷ []) ∷ []) (Leaf 1 ∷ Leaf 1 ∷ Leaf 1 ∷ Leaf 2 ∷ [])
  pub three_quotes : Reads (codes "> > > a\n") (Quote (Quote (Quote (text_paragraph (codes "a") ∷ []) ∷ []) ∷ []) ∷ []) (Leaf 1 ∷ [])
  pub lazy_line_inside_two_quotes : Reads (codes "> > a\nb\n") (Quote (Quote (text_paragraph (codes "a\nb") ∷ []) ∷ []) ∷ []) (Leaf 1 ∷ Leaf 1 ∷ [])
  pub ten_digits : Reads (codes "1234567890. a\n") (text_paragraph (codes "1234567890. a") ∷ []) (Leaf 1 ∷ [])

pub record DefinitionExamples : Type 0 where
  pub text_after_a_title : Reads (codes "[a]: /u \"t\" x\n") (text_paragraph (codes "[a]: /u \"t\" x") ∷ []) (Leaf 1 ∷ [])
  pub title_that_is_none : Reads (codes "[a]: /u\n\"t\" x\n") (Definition (codes "a") (codes "/u") [] ∷ text_paragraph (codes "\"t\" x") ∷ []) (Leaf 1 ∷ Leaf 2 ∷ [])
  pub definition_interrupts_nothing : Reads (codes "a\n[b]: /u\n") (text_paragraph (codes "a\n[b]: /u") ∷ []) (Leaf 1 ∷ Leaf 1 ∷ [])
  pub title_over_lines : Reads (codes "[a]:\n/u\n'x\ny'\n") (Definition (codes "a") (codes "/u") (codes "x\ny") ∷ []) (Leaf 1 ∷ Leaf 1 ∷ Leaf 1 ∷ Leaf 1 ∷ [])
  pub lazy_line_after_a_definition : Reads (codes "> [a]: /u\nb\n") (Quote (Definition (codes "a") (codes "/u") [] ∷ text_paragraph (codes "b") ∷ []) ∷ []) (Leaf 1 ∷ Leaf 2 ∷ [])
  pub underline_after_definitions : Reads (codes "[foo]: /url\n===\n[foo]\n") (Definition (codes "foo") (codes "/url") [] ∷ text_paragraph (codes "===\n[foo]") ∷ []) (Leaf 1 ∷ Leaf 2 ∷ Leaf 2 ∷ [])
  pub heading_after_a_definition : Reads (codes "[a]: /u\nb\n===\n") (Definition (codes "a") (codes "/u") [] ∷ Heading 1 (Text (codes "b") ∷ []) ∷ []) (Leaf 1 ∷ Leaf 2 ∷ Leaf 2 ∷ [])
  pub break_after_a_definition : Reads (codes "[a]: /u\n---\n") (Definition (codes "a") (codes "/u") [] ∷ Break ∷ []) (Leaf 1 ∷ Leaf 2 ∷ [])
  pub destination_in_angles : Reads (codes "[a]: <b c> (t)\n") (Definition (codes "a") (codes "b c") (codes "t") ∷ []) (Leaf 1 ∷ [])
  pub resolved : Reads (codes "[a\\]]: /u\\* \"&amp;\"\n") (Definition (codes "a\\]") (codes "/u*") (codes "&") ∷ []) (Leaf 1 ∷ [])
  pub first_of_a_list : Reads (codes "- a\n") (ListBlock Dash true ((text_paragraph (codes "a") ∷ []) ∷ []) ∷ []) (Leaf 1 ∷ [])
  pub second_item : Reads (codes "- a\n- b\n") (ListBlock Dash true ((text_paragraph (codes "a") ∷ []) ∷ (text_paragraph (codes "b") ∷ []) ∷ []) ∷ []) (Leaf 1 ∷ Leaf 2 ∷ [])
  pub blank_after_it : Reads (codes "- a\n- b\n\n") (ListBlock Dash true ((text_paragraph (codes "a") ∷ []) ∷ (text_paragraph (codes "b") ∷ []) ∷ []) ∷ []) (Leaf 1 ∷ Leaf 2 ∷ Blank ∷ [])
  pub definition_in_an_item : Reads (codes "- a\n- b\n\n  [ref]: /url\n") (ListBlock Dash false ((text_paragraph (codes "a") ∷ []) ∷ (text_paragraph (codes "b") ∷ Definition (codes "ref") (codes "/url") [] ∷ []) ∷ []) ∷ []) (Leaf 1 ∷ Leaf 2 ∷ Blank ∷ Leaf 3 ∷ [])
  pub definition_makes_it_loose : Reads (codes "- a\n- b\n\n  [ref]: /url\n- d\n") (ListBlock Dash false ((text_paragraph (codes "a") ∷ []) ∷ (text_paragraph (codes "b") ∷ Definition (codes "ref") (codes "/url") [] ∷ []) ∷ (text_paragraph (codes "d") ∷ []) ∷ []) ∷ []) (Leaf 1 ∷ Leaf 2 ∷ Blank ∷ Leaf 3 ∷ Leaf 4 ∷ [])

-- the given number of quotes, and a paragraph in the innermost
abbrev pub quotes : ℕ → List ℕ
quotes n = flat_map (λ b. b ∷ 32 ∷ []) (replicate n 62) ++ codes "a\n"

pub record DepthExamples : Type 0 where
  pub within_the_limit : first_too_deep profile 3 (plain_lines_of (codes "> > > a\n")) ≡ None
  pub past_the_limit : first_too_deep profile 2 (plain_lines_of (codes "a\n> > > b\n")) ≡ Some 2
  pub items_count : first_too_deep profile 1 (plain_lines_of (codes "- - a\n")) ≡ Some 1
  pub hundred_quotes : first_too_deep profile 100 (plain_lines_of (quotes 100)) ≡ None
  pub one_more : first_too_deep profile 100 (plain_lines_of (quotes 101)) ≡ Some 1

-- a label with a number of letters, and a destination with a number of parentheses inside one another
abbrev pub long_label : ℕ → List ℕ
long_label n = 91 ∷ replicate n 97 ++ codes "]: /u"

abbrev pub nested : ℕ → List ℕ
nested n = replicate n 40 ++ 120 ∷ replicate n 41

pub record BoundExamples : Type 0 where
  pub longest_label : blocks_of profile (plain_lines_of (long_label 999)) ≡ Definition (replicate 999 97) (codes "/u") [] ∷ []
  pub longer_label : blocks_of profile (plain_lines_of (long_label 1000)) ≡ text_paragraph (long_label 1000) ∷ []
  pub most_parentheses : blocks_of profile (plain_lines_of (codes "[a]: " ++ nested 32)) ≡ Definition (codes "a") (nested 32) [] ∷ []
  pub more_parentheses : blocks_of profile (plain_lines_of (codes "[a]: " ++ nested 33)) ≡ text_paragraph (codes "[a]: " ++ nested 33) ∷ []
