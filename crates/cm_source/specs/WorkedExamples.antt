-- Worked examples: how trees are spelled.
use Rattle.std.specs.Prelude.{◌≡◌, ℕ, true, false, List, [], ◌∷◌, ◌++◌, codes}
use Rattle.cm_tree.specs.declared.tree.Inline.{Inline}
use Rattle.cm_tree.specs.declared.tree.Inline.TheVariants as inline
use Rattle.cm_tree.specs.declared.tree.Block.{Block}
use Rattle.cm_tree.specs.declared.tree.Block.TheVariants as block
use Rattle.cm_tree.specs.declared.tree.ListKind.TheVariants.{Dash, Star, Dot, Paren}
use Rattle.cm_source.specs.Texts.{spelled_text, spelled_code, spelled_target}
use Rattle.cm_source.specs.Inlines.{spelled_content}
use Rattle.cm_source.specs.Spelling.{spelling_of}

-- a text, as inlines and as a paragraph
abbrev pub words : List ℕ → List Inline
words text = inline.Text text ∷ []

abbrev pub paragraph : List ℕ → List Block
paragraph text = block.Paragraph (words text) ∷ []

-- the word `a`
abbrev pub a : List Inline
a = words (codes "a")

abbrev pub paragraph_a : List Block
paragraph_a = paragraph (codes "a")

pub record TextExamples : Type 0 where
  pub punctuation : spelled_text true true (codes "a*b") ≡ codes "a\\*b"
  pub inner_space : spelled_text true true (codes "one space") ≡ codes "one space"
  pub space_alone : spelled_text true true (codes " ") ≡ codes "&#32;"
  pub spaces_at_both_ends : spelled_text true true (codes "  a ") ≡ codes "&#32; a&#32;"
  pub spaces_inside_a_line : spelled_text false false (codes " a ") ≡ codes " a "
  pub backtick_and_tab : spelled_text true true (codes "`\t") ≡ codes "&#96;&#9;"
  pub beyond_ascii : spelled_text true true (0xC3 ∷ 0xA4 ∷ []) ≡ 0xC3 ∷ 0xA4 ∷ []
  pub code : spelled_code (codes "a") ≡ codes "`a`"
  pub code_of_a_backtick : spelled_code (codes "`") ≡ codes "`` ` ``"
  pub code_of_spaces : spelled_code (codes " a ") ≡ codes "`  a  `"
  pub code_of_nothing_but_spaces : spelled_code (codes "  ") ≡ codes "`  `"
  pub code_with_runs : spelled_code (codes "a``b") ≡ codes "```a``b```"
  pub target : spelled_target (codes "/u") (codes "t") ≡ codes "](<\\/u> \"t\")"
  pub target_without_title : spelled_target [] [] ≡ codes "](<>)"

pub record InlineExamples : Type 0 where
  pub space_before_emphasis : spelled_content (inline.Text (codes "1. a ") ∷ inline.Emph (words (codes "b")) ∷ []) ≡ codes "1\\. a *b*"
  pub link : spelled_content (inline.Link (codes "/u") (codes "t") (words (codes "x")) ∷ []) ≡ codes "[x](<\\/u> \"t\")"
  pub image : spelled_content (inline.Image (codes "/u") [] (words (codes "x ")) ∷ []) ≡ codes "![x ](<\\/u>)"
  pub space_before_a_soft_break : spelled_content (inline.Text (codes "a ") ∷ inline.Soft ∷ words (codes " b")) ≡ codes "a&#32;\n&#32;b"
  pub space_before_a_hard_break : spelled_content (inline.Text (codes "a ") ∷ inline.Hard ∷ words (codes "b")) ≡ codes "a \\\nb"
  pub marks : spelled_content (inline.Strong (inline.Code (codes "a") ∷ []) ∷ inline.Strike (inline.Html (codes "<b>") ∷ []) ∷ []) ≡ codes "**`a`**~~<b>~~"

pub record BlockExamples : Type 0 where
  pub nothing : spelling_of [] ≡ []
  pub paragraphs : spelling_of (paragraph (codes "a") ++ paragraph (codes "b")) ≡ codes "a\n\nb\n"
  pub headings : spelling_of (block.Heading 2 (words (codes "a")) ∷ block.Heading 1 [] ∷ []) ≡ codes "## a\n\n#\n"
  pub code_block : spelling_of (block.Code (codes "a*") (codes "b\n\n```\n") ∷ []) ≡ codes "````a\\*\nb\n\n```\n````\n"
  pub html_and_break : spelling_of (block.Html (codes "<div>\n</div>\n") ∷ block.Break ∷ []) ≡ codes "<div>\n</div>\n\n___\n"
  pub quotes : spelling_of (block.Quote (paragraph (codes "a") ++ block.Quote [] ∷ []) ∷ []) ≡ codes "> a\n>\n> >\n"
  pub tight_list : spelling_of (block.List Dash true ((paragraph (codes "a") ++ block.Quote (paragraph (codes "b")) ∷ []) ∷ [] ∷ []) ∷ []) ≡ codes "- a\n  > b\n-\n"
  pub loose_list : spelling_of (block.List (Dot 10) false ((block.Code [] (codes "a\n\nb\n") ∷ paragraph (codes "c")) ∷ paragraph (codes "d") ∷ []) ∷ []) ≡ codes "10. ```\n    a\n\n    b\n    ```\n\n    c\n\n10. d\n"
  pub list_in_a_quote : spelling_of (block.Quote (block.List Star false (paragraph (codes "a") ∷ (block.List (Paren 1) true (paragraph (codes "b") ∷ []) ∷ []) ∷ []) ∷ []) ∷ []) ≡ codes "> * a\n>\n> * 1) b\n"
