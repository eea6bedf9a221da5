-- Worked examples: trees, their spellings, and the trees that are read of these. They are the same trees,
-- unless one is refused.
use Rattle.std.specs.Prelude.{◌≡◌, ℕ, true, false, List, [], ◌∷◌, ◌++◌, Some, None, codes}
use Rattle.cm_text.specs.Lines.{plain_lines_of}
use Rattle.cm_text.specs.Rules.{Rules, profile, older_rules}
use Rattle.cm_tree.specs.declared.tree.Inline.{Inline}
use Rattle.cm_tree.specs.declared.tree.Inline.TheVariants.{Text, Code, Html, Soft, Hard, Emph, Strong, Strike, Link, Image}
use Rattle.cm_tree.specs.declared.tree.Block.{Block}
use Rattle.cm_tree.specs.declared.tree.Block.TheVariants as block
use Rattle.cm_tree.specs.declared.tree.ListKind.TheVariants.{Dash, Plus, Star, Dot, Paren}
use Rattle.cm_scan.specs.blocks.Blocks.{blocks_of}
use Rattle.cm_scan.specs.Documents.{tree_of}
use Rattle.cm_scan.specs.laws.InlineExamples.{struck}
use Rattle.cm_scan.specs.laws.RuleExamples.{safe}
use Rattle.cm_scan.specs.inlines.Inlines.{inlines_of}
use Rattle.cm_source.specs.declared.why.Why.{Why}
use Rattle.cm_source.specs.declared.why.Why.TheVariants as why
use Rattle.cm_source.specs.InlineRefusals.{paragraph_refusal, heading_refusal}
use Rattle.cm_source.specs.Inlines.{spelled_content}
use Rattle.cm_source.specs.ReadingBack.{all_sourced}
use Rattle.cm_source.specs.Refusals.{IsSpellable, refusal_of}
use Rattle.cm_source.specs.Spelling.{spelling_of}
use Rattle.cm_source.specs.WorkedExamples.{words, a, paragraph, paragraph_a}

-- By these rules the tree can be spelled, this is its source (CommonMark 0.31.2), and the tree of this source is the tree.
pub record ReadsBackBy (rules : Rules) (tree : List Block) (source : List ℕ) : Type 0 where
  pub spellable : IsSpellable rules tree
  pub spelled : spelling_of tree ≡ source
  pub read : tree_of rules source ≡ tree

abbrev pub ReadsBack : List Block → List ℕ → Type 0
ReadsBack = ReadsBackBy profile

-- By these rules the tree can't be spelled, for this reason: its source would be this, the tree of which is another.
pub record MisreadBy (rules : Rules) (tree : List Block) (reason : Why) (source : List ℕ) (other : List Block) : Type 0 where
  pub refused : refusal_of rules tree ≡ Some reason
  pub spelled : spelling_of tree ≡ source
  pub read : tree_of rules source ≡ other

abbrev pub Misread : List Block → Why → List ℕ → List Block → Type 0
Misread = MisreadBy profile

-- the word `b`, as inlines and as a paragraph; and one paragraph with a content
abbrev pub b : List Inline
b = words (codes "b")

abbrev pub paragraph_b : List Block
paragraph_b = paragraph (codes "b")

abbrev pub says : List Inline → List Block
says content = block.Paragraph content ∷ []

-- chapter 4
pub record LeafBlockExamples : Type 0 where
  pub nothing : ReadsBack [] []
  pub paragraph_alone : ReadsBack paragraph_a (codes "a\n")
  pub paragraphs : ReadsBack (paragraph_a ++ paragraph_b) (codes "a\n\nb\n")
  pub looks_like_a_heading : ReadsBack (paragraph (codes "# a")) (codes "\\# a\n")
  pub looks_like_an_item : ReadsBack (paragraph (codes "1. a")) (codes "1\\. a\n")
  pub looks_like_code : ReadsBack (paragraph (codes "    a ")) (codes "&#32;   a&#32;\n")
  pub heading : ReadsBack (block.Heading 2 a ∷ []) (codes "## a\n")
  pub closed_by_no_sign : ReadsBack (block.Heading 6 (words (codes "a #")) ∷ []) (codes "###### a \\#\n")
  pub heading_without_content : ReadsBack (block.Heading 1 [] ∷ []) (codes "#\n")
  pub thematic_break : ReadsBack (block.Break ∷ []) (codes "___\n")
  pub code : ReadsBack (block.Code (codes "c") (codes "a\n\n  b\n") ∷ []) (codes "```c\na\n\n  b\n```\n")
  pub code_without_lines : ReadsBack (block.Code [] [] ∷ []) (codes "```\n```\n")
  pub code_with_a_fence : ReadsBack (block.Code (codes "`") (codes "```\n") ∷ []) (codes "````&#96;\n```\n````\n")
  pub html : ReadsBack (block.Html (codes "<div>\n*a*\n") ∷ []) (codes "<div>\n*a*\n")
  pub comment_over_a_blank_line : ReadsBack (block.Html (codes "<!-- a\n\n-->\n") ∷ []) (codes "<!-- a\n\n-->\n")
  pub each : ReadsBack (block.Heading 1 a ∷ block.Code [] (codes "b\n") ∷ block.Break ∷ block.Html (codes "<p>\n") ∷ paragraph_a) (codes "# a\n\n```\nb\n```\n\n___\n\n<p>\n\na\n")

-- chapter 5
pub record ContainerExamples : Type 0 where
  pub quote : ReadsBack (block.Quote paragraph_a ∷ []) (codes "> a\n")
  pub quote_without_blocks : ReadsBack (block.Quote [] ∷ []) (codes ">\n")
  pub quote_of_two : ReadsBack (block.Quote (paragraph_a ++ paragraph_b) ∷ []) (codes "> a\n>\n> b\n")
  pub two_quotes : ReadsBack (block.Quote paragraph_a ∷ block.Quote paragraph_b ∷ []) (codes "> a\n\n> b\n")
  pub quote_in_a_quote : ReadsBack (block.Quote (block.Quote paragraph_a ∷ []) ∷ []) (codes "> > a\n")
  pub dashes : ReadsBack (block.List Dash true (paragraph_a ∷ paragraph_b ∷ []) ∷ []) (codes "- a\n- b\n")
  pub pluses : ReadsBack (block.List Plus true (paragraph_a ∷ paragraph_b ∷ []) ∷ []) (codes "+ a\n+ b\n")
  pub stars : ReadsBack (block.List Star true (paragraph_a ∷ paragraph_b ∷ []) ∷ []) (codes "* a\n* b\n")
  pub full_stops : ReadsBack (block.List (Dot 0) true (paragraph_a ∷ paragraph_b ∷ []) ∷ []) (codes "0. a\n0. b\n")
  pub parentheses : ReadsBack (block.List (Paren 10) true (paragraph_a ∷ paragraph_b ∷ []) ∷ []) (codes "10) a\n10) b\n")
  pub loose : ReadsBack (block.List Dash false (paragraph_a ∷ paragraph_b ∷ []) ∷ []) (codes "- a\n\n- b\n")
  pub loose_item_of_two : ReadsBack (block.List (Dot 1) false ((paragraph_a ++ paragraph_b) ∷ []) ∷ []) (codes "1. a\n\n   b\n")
  pub bare_item : ReadsBack (block.List Dash true ([] ∷ []) ∷ []) (codes "-\n")
  pub bare_items : ReadsBack (block.List Dash true (paragraph_a ∷ [] ∷ paragraph_b ∷ []) ∷ []) (codes "- a\n-\n- b\n")
  pub loose_bare_items : ReadsBack (block.List Dash false ([] ∷ [] ∷ []) ∷ []) (codes "-\n\n-\n")
  pub bare_item_before_a_block : ReadsBack (block.List Dash true ([] ∷ []) ∷ paragraph_a) (codes "-\n\na\n")
  pub two_lists : ReadsBack (block.List Dash true (paragraph_a ∷ []) ∷ block.List Plus true (paragraph_b ∷ []) ∷ []) (codes "- a\n\n+ b\n")
  pub list_in_a_tight_item : ReadsBack (block.List Dash true ((paragraph_a ++ block.List (Dot 1) true (paragraph_b ∷ []) ∷ []) ∷ []) ∷ []) (codes "- a\n  1. b\n")
  pub list_in_a_loose_item : ReadsBack (block.List Dash false ((paragraph_a ++ block.List (Dot 2) true (paragraph_b ∷ []) ∷ []) ∷ []) ∷ []) (codes "- a\n\n  2. b\n")
  pub code_in_an_item : ReadsBack (block.List Plus true ((block.Code [] (codes "a\n\n b\n") ∷ []) ∷ []) ∷ []) (codes "+ ```\n  a\n\n   b\n  ```\n")
  pub heading_in_an_item : ReadsBack (block.List Star true ((block.Heading 1 a ∷ []) ∷ []) ∷ []) (codes "* # a\n")
  pub break_in_an_item : ReadsBack (block.List Dash true ((block.Break ∷ []) ∷ []) ∷ []) (codes "- ___\n")
  pub html_in_an_item : ReadsBack (block.List Dash true ((block.Html (codes "<p>\na\n") ∷ []) ∷ []) ∷ []) (codes "- <p>\n  a\n")
  pub list_in_a_quote_in_a_list : ReadsBack (block.List Dash true ((block.Quote (block.List Star false ([] ∷ paragraph_a ∷ []) ∷ paragraph_b) ∷ []) ∷ []) ∷ []) (codes "- > *\n  >\n  > * a\n  >\n  > b\n")

-- chapter 6
pub record ContentExamples : Type 0 where
  pub reference : ReadsBack (paragraph (codes "&amp;")) (codes "\\&amp\\;\n")
  pub beyond_ascii : ReadsBack (paragraph (0xC3 ∷ 0xA4 ∷ [])) (0xC3 ∷ 0xA4 ∷ 10 ∷ [])
  pub code_span : ReadsBack (says (Code (codes "a*b") ∷ [])) (codes "`a*b`\n")
  pub code_span_of_backticks : ReadsBack (says (Code (codes "``") ∷ a)) (codes "``` `` ```a\n")
  pub emphasis : ReadsBack (says (Emph a ∷ [])) (codes "*a*\n")
  pub emphasis_inside_a_word : ReadsBack (says (a ++ Emph b ∷ a)) (codes "a*b*a\n")
  pub strong : ReadsBack (says (Strong a ∷ [])) (codes "**a**\n")
  pub strong_code : ReadsBack (says (Strong (Code (codes "a") ∷ []) ∷ words (codes " b"))) (codes "**`a`** b\n")
  pub link : ReadsBack (says (Link (codes "/u") [] a ∷ [])) (codes "[a](<\\/u>)\n")
  pub titled_link : ReadsBack (says (Link (codes "u") (codes "a\"b") a ∷ [])) (codes "[a](<u> \"a\\\"b\")\n")
  pub link_to_nowhere : ReadsBack (says (Link [] [] [] ∷ [])) (codes "[](<>)\n")
  pub image : ReadsBack (says (Image (codes "u") [] a ∷ [])) (codes "![a](<u>)\n")
  pub image_in_a_link : ReadsBack (says (Link (codes "u") [] (Image (codes "v") [] (Emph a ∷ []) ∷ []) ∷ [])) (codes "[![*a*](<v>)](<u>)\n")
  pub link_in_emphasis : ReadsBack (says (Emph (a ++ Link (codes "u") [] b ∷ []) ∷ [])) (codes "*a[b](<u>)*\n")
  pub autolink : ReadsBack (says (Link (codes "http://a") [] (words (codes "http://a")) ∷ [])) (codes "[http\\:\\/\\/a](<http\\:\\/\\/a>)\n")
  pub raw_html : ReadsBack (says (a ++ Html (codes "<b>") ∷ b ++ Html (codes "</b>") ∷ [])) (codes "a<b>b</b>\n")
  pub soft_break : ReadsBack (says (a ++ Soft ∷ b)) (codes "a\nb\n")
  pub hard_break : ReadsBack (says (a ++ Hard ∷ b)) (codes "a\\\nb\n")
  pub break_in_emphasis : ReadsBack (says (Emph (a ++ Soft ∷ b) ∷ [])) (codes "*a\nb*\n")
  pub spaces_at_a_break : ReadsBack (says (Text (codes "a ") ∷ Soft ∷ words (codes " b"))) (codes "a&#32;\n&#32;b\n")
  pub markup_after_a_break : ReadsBack (says (a ++ Soft ∷ words (codes "- b"))) (codes "a\n\\- b\n")
  pub emphasis_in_a_heading : ReadsBack (block.Heading 1 (Emph a ∷ []) ∷ []) (codes "# *a*\n")
  pub break_in_a_quoted_item : ReadsBack (block.Quote (block.List Dash true (says (a ++ Hard ∷ b) ∷ []) ∷ []) ∷ []) (codes "> - a\\\n>   b\n")

-- where other rules have another answer
pub record RuleExamples : Type 0 where
  pub tildes : ReadsBack (paragraph (codes "~~a~~")) (codes "\\~\\~a\\~\\~\n")
  pub tildes_with_strikethrough : ReadsBackBy struck (paragraph (codes "~~a~~")) (codes "\\~\\~a\\~\\~\n")
  pub strike : ReadsBackBy struck (says (Strike a ∷ [])) (codes "~~a~~\n")
  pub strike_off : Misread (says (Strike a ∷ [])) why.StrikeOff (codes "~~a~~\n") (paragraph (codes "~~a~~"))
  pub tag_off : MisreadBy safe (says (a ++ Html (codes "<b>") ∷ [])) why.RawHtml (codes "a<b>\n") (paragraph (codes "a<b>"))
  pub html_block_off : MisreadBy safe (block.Html (codes "<p>\n") ∷ []) why.HtmlBlock (codes "<p>\n") (paragraph (codes "<p>"))
  pub link_off : MisreadBy safe (says (Link (codes "data:a") [] [] ∷ [])) why.AddressOff (codes "[](<data\\:a>)\n") (paragraph (codes "[](<data:a>)"))
  pub image_off : MisreadBy safe (says (Image (codes "data:a") [] [] ∷ [])) why.AddressOff (codes "![](<data\\:a>)\n") (paragraph (codes "![](<data:a>)"))
  pub link_of_the_web : ReadsBackBy safe (says (Link (codes "HTTPS:a") [] a ∷ [])) (codes "[a](<HTTPS\\:a>)\n")
  pub info_over_lines : ReadsBack (block.Code (codes "a\nb") [] ∷ []) (codes "```a&#10;b\n```\n")
  pub info_off : MisreadBy safe (block.Code (codes "a\nb") [] ∷ []) why.InfoOff (codes "```a&#10;b\n```\n") (block.Code (codes "a b") [] ∷ [])
  pub strike_in_a_link : ReadsBackBy struck (says (Link (codes "u") [] (Strike (Code (codes "a") ∷ []) ∷ []) ∷ [])) (codes "[~~`a`~~](<u>)\n")
  pub pound_sign : Misread (says (a ++ Emph (words (0xC2 ∷ 0xA3 ∷ [])) ∷ [])) why.EmphasisEdge (codes "a*" ++ 0xC2 ∷ 0xA3 ∷ codes "*\n") (paragraph (codes "a*" ++ 0xC2 ∷ 0xA3 ∷ codes "*"))
  pub older_pound_sign : ReadsBackBy older_rules (says (a ++ Emph (words (0xC2 ∷ 0xA3 ∷ [])) ∷ [])) (codes "a*" ++ 0xC2 ∷ 0xA3 ∷ codes "*\n")
  pub shortest_comment : ReadsBack (says (a ++ Html (codes "<!-->") ∷ [])) (codes "a<!-->\n")
  pub older_shortest_comment : MisreadBy older_rules (says (a ++ Html (codes "<!-->") ∷ [])) why.RawHtml (codes "a<!-->\n") (paragraph (codes "a<!-->"))
  pub search : ReadsBack (block.Html (codes "<search a\n") ∷ []) (codes "<search a\n")
  pub older_search : MisreadBy older_rules (block.Html (codes "<search a\n") ∷ []) why.HtmlBlock (codes "<search a\n") (paragraph (codes "<search a"))
  pub source : Misread (block.Html (codes "<source a\n") ∷ []) why.HtmlBlock (codes "<source a\n") (paragraph (codes "<source a"))
  pub older_source : ReadsBackBy older_rules (block.Html (codes "<source a\n") ∷ []) (codes "<source a\n")

-- trees that no source gives, or that their spelling wouldn't give back
pub record MisreadExamples : Type 0 where
  pub definition : Misread (block.Definition (codes "a") (codes "/u") [] ∷ []) why.Definition [] []
  pub nul : Misread (paragraph (0 ∷ [])) why.Nul (codes "&#0;\n") (paragraph (0xEF ∷ 0xBF ∷ 0xBD ∷ []))
  pub seventh_level : Misread (block.Heading 7 a ∷ []) why.Shape (codes "####### a\n") (paragraph (codes "####### a"))
  pub ten_digits : Misread (block.List (Dot 1000000000) true (paragraph_a ∷ []) ∷ []) why.Shape (codes "1000000000. a\n") (paragraph (codes "1000000000. a"))
  pub divided_text : Misread (says (a ++ b)) why.Text (codes "ab\n") (paragraph (codes "ab"))
  pub emphasis_in_strong : Misread (says (Strong (Emph a ∷ []) ∷ [])) why.EmphasisNested (codes "***a***\n") (says (Emph (Strong a ∷ []) ∷ []))
  pub emphasis_beside_emphasis : Misread (says (Emph a ∷ Emph b ∷ [])) why.EmphasisTouching (codes "*a**b*\n") (says (Emph (words (codes "a**b")) ∷ []))
  pub emphasis_of_nothing : Misread (says (a ++ Emph [] ∷ [])) why.EmphasisEdge (codes "a**\n") (paragraph (codes "a**"))
  pub emphasis_of_a_space : Misread (says (Emph (words (codes " ")) ∷ [])) why.EmphasisEdge (codes "* *\n") (block.List Star true ((block.List Star true ([] ∷ []) ∷ []) ∷ []) ∷ [])
  pub code_span_over_lines : Misread (says (Code (codes "a\nb") ∷ [])) why.CodeSpan (codes "`a\nb`\n") (says (Code (codes "a b") ∷ []))
  pub code_span_beside_another : Misread (says (Code (codes "a") ∷ Code (codes "b") ∷ [])) why.CodeSpan (codes "`a``b`\n") (says (Code (codes "a``b") ∷ []))
  pub html_first : Misread (says (Html (codes "<b>") ∷ [])) why.RawHtml (codes "<b>\n") (block.Html (codes "<b>\n") ∷ [])
  pub link_in_a_link : Misread (says (Link (codes "v") [] (Link (codes "u") [] a ∷ []) ∷ [])) why.LinkInLink (codes "[[a](<u>)](<v>)\n") (says (Text (codes "[") ∷ Link (codes "u") [] a ∷ Text (codes "](") ∷ Html (codes "<v>") ∷ words (codes ")")))
  pub break_last : Misread (says (a ++ Hard ∷ [])) why.LineBreak (codes "a\\\n\n") (paragraph (codes "a\\"))
  pub unended_code : Misread (block.Code [] (codes "a") ∷ []) why.CodeText (codes "```\na\n```\n") (block.Code [] (codes "a\n") ∷ [])
  pub html_of_text : Misread (block.Html (codes "a\n") ∷ []) why.HtmlBlock (codes "a\n") paragraph_a
  pub lists_of_one_type : Misread (block.List Dash true (paragraph_a ∷ []) ∷ block.List Dash true (paragraph_b ∷ []) ∷ []) why.AdjacentLists (codes "- a\n\n- b\n") (block.List Dash false (paragraph_a ∷ paragraph_b ∷ []) ∷ [])
  pub three_lists_in_one_another : Misread (block.List Dash true ((block.List Dash true ((block.List Dash true ([] ∷ []) ∷ []) ∷ []) ∷ []) ∷ []) ∷ []) why.ItemBeginsWithList (codes "- - -\n") (block.Break ∷ [])
  pub loose_item_of_one : Misread (block.List Dash false (paragraph_a ∷ []) ∷ []) why.Looseness (codes "- a\n") (block.List Dash true (paragraph_a ∷ []) ∷ [])
  pub tight_item_of_two : Misread (block.List Dash true ((paragraph_a ++ paragraph_b) ∷ []) ∷ []) why.Looseness (codes "- a\n  b\n") (block.List Dash true (says (a ++ Soft ∷ b) ∷ []) ∷ [])

-- Blocks with the spellings of their contents as sources, which are those that are read of the lines; and a content whose text would
-- be a link, if it weren't spelled.
pub record SourceExamples : Type 0 where
  pub content : all_sourced (says (a ++ Emph b ∷ [])) ≡ paragraph (codes "a*b*")
  pub content_of_nothing : all_sourced (block.Heading 1 [] ∷ []) ≡ block.Heading 1 [] ∷ []
  pub code : all_sourced (block.Code (codes "*") (codes "*\n") ∷ []) ≡ block.Code (codes "*") (codes "*\n") ∷ []
  pub inside : all_sourced (block.Quote (block.List Dash true (says (Strong a ∷ []) ∷ []) ∷ []) ∷ []) ≡ block.Quote (block.List Dash true (paragraph (codes "**a**") ∷ []) ∷ []) ∷ []
  pub read : blocks_of profile (plain_lines_of (codes "> - **a**\n")) ≡ block.Quote (block.List Dash true (paragraph (codes "**a**") ∷ []) ∷ []) ∷ []
  pub whatever_is_defined : inlines_of profile (λ folded. Some (codes "/u", [])) (spelled_content (words (codes "[a]"))) ≡ words (codes "[a]")

-- emphasis of a text that isn't UTF-8
abbrev pub unseen : List Inline
unseen = Emph (words (0xE3 ∷ [])) ∷ []

-- No character is seen at its edges, so it isn't refused, and neither is a tree of it; but its spelling reads as a text. No program has
-- such a tree.
pub record NotUtf8Examples : Type 0 where
  pub in_a_paragraph : paragraph_refusal profile unseen ≡ None
  pub in_a_heading : heading_refusal profile unseen ≡ None
  pub content : inlines_of profile (λ folded. None) (spelled_content unseen) ≡ words (codes "*" ++ 0xE3 ∷ codes "*")
  pub spellable : IsSpellable profile (says unseen)
  pub spelled : spelling_of (says unseen) ≡ codes "*" ++ 0xE3 ∷ codes "*\n"
  pub read : tree_of profile (codes "*" ++ 0xE3 ∷ codes "*\n") ≡ paragraph (codes "*" ++ 0xE3 ∷ codes "*")
