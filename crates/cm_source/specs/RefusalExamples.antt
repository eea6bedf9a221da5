-- Worked examples: which trees can't be spelled, and why not.
use Rattle.std.specs.Prelude.{◌≡◌, true, false, [], ◌∷◌, ◌++◌, Some, None, codes}
use Rattle.cm_text.specs.Rules.{profile}
use Rattle.cm_tree.specs.declared.tree.Inline.TheVariants.{Text, Code, Html, Soft, Hard, Emph, Strong, Strike, Link, Image}
use Rattle.cm_tree.specs.declared.tree.Block.TheVariants as block
use Rattle.cm_tree.specs.declared.tree.ListKind.TheVariants.{Dash, Plus, Dot}
use Rattle.cm_scan.specs.laws.InlineExamples.{struck}
use Rattle.cm_scan.specs.laws.RuleExamples.{safe}
use Rattle.cm_source.specs.declared.why.Why.TheVariants as why
use Rattle.cm_source.specs.InlineRefusals.{paragraph_refusal, heading_refusal}
use Rattle.cm_source.specs.Refusals.{refusal_of}
use Rattle.cm_source.specs.WorkedExamples.{words, a, paragraph_a}

pub record InlineRefusalExamples : Type 0 where
  pub accepted : paragraph_refusal profile (Strong (words (codes "Note:")) ∷ Text (codes " see ") ∷ Soft ∷ Link (codes "/u") [] (Code (codes "b") ∷ []) ∷ Image [] [] [] ∷ Html (codes "<b>") ∷ []) ≡ None
  pub nul : paragraph_refusal profile (words (97 ∷ 0 ∷ [])) ≡ Some why.Nul
  pub nul_in_a_title : paragraph_refusal profile (Link [] (0 ∷ []) a ∷ []) ≡ Some why.Nul
  pub empty_text : paragraph_refusal profile (words []) ≡ Some why.Text
  pub divided_text : paragraph_refusal profile (a ++ a) ≡ Some why.Text
  pub nested : paragraph_refusal profile (Emph (Link [] [] (Strong a ∷ []) ∷ []) ∷ []) ≡ Some why.EmphasisNested
  pub nested_strike : paragraph_refusal struck (Emph (Text (codes "a ") ∷ Strike a ∷ []) ∷ []) ≡ Some why.EmphasisNested
  pub touching : paragraph_refusal profile (Emph a ∷ Strong a ∷ []) ≡ Some why.EmphasisTouching
  pub without_content : paragraph_refusal profile (Emph [] ∷ []) ≡ Some why.EmphasisEdge
  pub space_inside : paragraph_refusal profile (Emph (words (codes " a")) ∷ []) ≡ Some why.EmphasisEdge
  pub plain_before_punctuation : paragraph_refusal profile (a ++ Emph (words (codes "(a")) ∷ []) ≡ Some why.EmphasisEdge
  pub plain_before_plain : paragraph_refusal profile (a ++ Emph a ∷ []) ≡ None
  pub plain_after_a_code_span : paragraph_refusal profile (Emph (Code (codes "a") ∷ []) ∷ a) ≡ Some why.EmphasisEdge
  pub empty_code_span : paragraph_refusal profile (Code [] ∷ []) ≡ Some why.CodeSpan
  pub two_code_spans : paragraph_refusal profile (Code (codes "a") ∷ Code (codes "b") ∷ []) ≡ Some why.CodeSpan
  pub end_of_a_label : paragraph_refusal profile (Link (codes "b") [] (Code (codes "]: /u") ∷ []) ∷ []) ≡ Some why.CodeSpan
  pub end_of_a_label_later : paragraph_refusal profile (a ++ Link (codes "b") [] (Code (codes "]: /u") ∷ []) ∷ []) ≡ None
  pub html_first : paragraph_refusal profile (Html (codes "<b>") ∷ []) ≡ Some why.RawHtml
  pub html_after_a_break : paragraph_refusal profile (Text (codes "a") ∷ Soft ∷ Html (codes "<b>") ∷ []) ≡ Some why.RawHtml
  pub two_tags : paragraph_refusal profile (Text (codes "a") ∷ Html (codes "<b></b>") ∷ []) ≡ Some why.RawHtml
  pub autolink_as_a_declaration : paragraph_refusal profile (Text (codes "a") ∷ Html (codes "<!a@b>") ∷ []) ≡ Some why.RawHtml
  pub link_in_link : paragraph_refusal profile (Link [] [] (Image [] [] (Link [] [] a ∷ []) ∷ []) ∷ []) ≡ Some why.LinkInLink
  pub break_in_a_heading : heading_refusal profile (a ++ Soft ∷ a) ≡ Some why.LineBreak
  pub break_first : paragraph_refusal profile (Hard ∷ a) ≡ Some why.LineBreak
  pub break_last_in_emphasis : paragraph_refusal profile (Emph (a ++ Soft ∷ []) ∷ []) ≡ Some why.LineBreak
  pub strike : paragraph_refusal struck (Strike a ∷ []) ≡ None
  pub strike_off : paragraph_refusal profile (Strike a ∷ []) ≡ Some why.StrikeOff
  pub link_off : paragraph_refusal safe (Link (codes "data:a") [] a ∷ []) ≡ Some why.AddressOff
  pub image_off : paragraph_refusal safe (Image (codes "DATA:a") [] a ∷ []) ≡ Some why.AddressOff
  pub link_of_the_web : paragraph_refusal safe (Link (codes "HTTPS:a") [] a ∷ []) ≡ None
  pub raw_html_off : paragraph_refusal safe (a ++ Html (codes "<b>") ∷ []) ≡ Some why.RawHtml

pub record RefusalExamples : Type 0 where
  pub nothing : refusal_of profile [] ≡ None
  pub accepted : refusal_of profile (block.Heading 6 [] ∷ block.Code (codes "c") [] ∷ block.Break ∷ block.Quote [] ∷ block.Html (codes "<div>\n</div>\n") ∷ paragraph_a) ≡ None
  pub tight : refusal_of profile (block.List Dash true ((paragraph_a ++ block.Quote paragraph_a ∷ []) ∷ [] ∷ []) ∷ []) ≡ None
  pub loose : refusal_of profile (block.List (Dot 3) false ((paragraph_a ++ paragraph_a) ∷ []) ∷ []) ≡ None
  pub definition : refusal_of profile (block.Definition (codes "a") [] [] ∷ []) ≡ Some why.Definition
  pub nul : refusal_of profile (block.Code (0 ∷ []) [] ∷ []) ≡ Some why.Nul
  pub seventh_level : refusal_of profile (block.Heading 7 a ∷ []) ≡ Some why.Shape
  pub empty_paragraph : refusal_of profile (block.Paragraph [] ∷ []) ≡ Some why.Shape
  pub no_items : refusal_of profile (block.List Dash true [] ∷ []) ≡ Some why.Shape
  pub ten_digits : refusal_of profile (block.List (Dot 1000000000) true (paragraph_a ∷ []) ∷ []) ≡ Some why.Shape
  pub code_without_its_end : refusal_of profile (block.Code [] (codes "a") ∷ []) ≡ Some why.CodeText
  pub html_before_a_blank_line : refusal_of profile (block.Html (codes "<div>\n\na\n") ∷ []) ≡ Some why.HtmlBlock
  pub html_without_its_end : refusal_of profile (block.Html (codes "<!-- a\n") ∷ []) ≡ Some why.HtmlBlock
  pub html_of_a_text : refusal_of profile (block.Html (codes "a\n") ∷ []) ≡ Some why.HtmlBlock
  pub comment : refusal_of profile (block.Html (codes "<!-- a\n\n-->\n") ∷ []) ≡ None
  pub two_lists : refusal_of profile (block.List Dash true (paragraph_a ∷ []) ∷ block.List Dash true (paragraph_a ∷ []) ∷ []) ≡ Some why.AdjacentLists
  pub two_kinds : refusal_of profile (block.List Dash true (paragraph_a ∷ []) ∷ block.List Plus true (paragraph_a ∷ []) ∷ []) ≡ None
  pub list_first : refusal_of profile (block.List Dash true ((block.List Plus true (paragraph_a ∷ []) ∷ []) ∷ []) ∷ []) ≡ Some why.ItemBeginsWithList
  pub loose_item_of_one : refusal_of profile (block.List Dash false (paragraph_a ∷ []) ∷ []) ≡ Some why.Looseness
  pub tight_item_of_two : refusal_of profile (block.List Dash true ((paragraph_a ++ paragraph_a) ∷ []) ∷ []) ≡ Some why.Looseness
  pub list_from_2_after_a_paragraph : refusal_of profile (block.List Dash true ((paragraph_a ++ block.List (Dot 2) true (paragraph_a ∷ []) ∷ []) ∷ []) ∷ []) ≡ Some why.Looseness
