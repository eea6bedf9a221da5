-- HTML blocks: the seven start conditions, and what ends each (CommonMark 0.31.2, 4.6 HTML blocks). A start is read after the
-- indentation of the line.
use Rattle.std.specs.Prelude.{ℕ, Bool, true, false, not, ◌&&◌, ◌||◌, List, [], ◌∷◌, ◌++◌, Option, Some, None, ◌==◌, codes, if◌then◌else◌}
use Rattle.std.specs.List.{list_any}
use Rattle.std.specs.Char.{is_ascii_alphabetic}
use Rattle.std.specs.Str.{byte, str_to_ascii_lowercase}
use Rattle.cm_text.specs.Rules.{Rules}
use Rattle.cm_scan.specs.Words.{is_space_or_tab, is_blank_text, after_word, is_at_word, holds_word, is_among, given, ◌<|>◌}
use Rattle.cm_scan.specs.spans.Tags.{tag_name, open_tag, closing_tag}

-- the seven kinds of HTML blocks, in the specification's order
pub data HtmlKind : Type 0 where
  RawText : HtmlKind
  Comment : HtmlKind
  Instruction : HtmlKind
  Declaration : HtmlKind
  CharacterData : HtmlKind
  BlockTag : HtmlKind
  AnyTag : HtmlKind

-- the elements whose text is not markup
abbrev pub raw_text_names : List (List ℕ)
raw_text_names = codes "pre" ∷ codes "script" ∷ codes "style" ∷ codes "textarea" ∷ []

-- the names of start condition 6 with any rules
unfoldable pub common_block_names : List (List ℕ)
common_block_names =
    codes "address" ∷ codes "article" ∷ codes "aside" ∷ codes "base" ∷ codes "basefont" ∷ codes "blockquote" ∷ codes "body" ∷
    codes "caption" ∷ codes "center" ∷ codes "col" ∷ codes "colgroup" ∷ codes "dd" ∷ codes "details" ∷ codes "dialog" ∷
    codes "dir" ∷ codes "div" ∷ codes "dl" ∷ codes "dt" ∷ codes "fieldset" ∷ codes "figcaption" ∷ codes "figure" ∷
    codes "footer" ∷ codes "form" ∷ codes "frame" ∷ codes "frameset" ∷ codes "h1" ∷ codes "h2" ∷ codes "h3" ∷ codes "h4" ∷
    codes "h5" ∷ codes "h6" ∷ codes "head" ∷ codes "header" ∷ codes "hr" ∷ codes "html" ∷ codes "iframe" ∷ codes "legend" ∷
    codes "li" ∷ codes "link" ∷ codes "main" ∷ codes "menu" ∷ codes "menuitem" ∷ codes "nav" ∷ codes "noframes" ∷ codes "ol" ∷
    codes "optgroup" ∷ codes "option" ∷ codes "p" ∷ codes "param" ∷ codes "section" ∷ codes "summary" ∷
    codes "table" ∷ codes "tbody" ∷ codes "td" ∷ codes "tfoot" ∷ codes "th" ∷ codes "thead" ∷ codes "title" ∷ codes "tr" ∷
    codes "track" ∷ codes "ul" ∷ []

-- the one that differs: `search`, or `source` with the older rules
abbrev pub block_name_by : Rules → List ℕ
block_name_by rules = if rules.older then codes "source" else codes "search"

-- the names of start condition 6
unfoldable pub block_names : Rules → List (List ℕ)
block_names rules = block_name_by rules ∷ common_block_names

-- a space, a tab, the end of the line or `>` comes next
abbrev pub is_at_name_end : List ℕ → Bool
is_at_name_end [] = true
is_at_name_end (b ∷ bs) = is_space_or_tab b || b == byte ">"

-- the same, or `/>`
abbrev pub is_at_tag_end : List ℕ → Bool
is_at_tag_end text = is_at_name_end text || is_at_word (codes "/>") text

-- a word, and then the end of a name
abbrev pub is_named_start : List ℕ → List ℕ → Bool
is_named_start text name = elim (after_word (byte "<" ∷ name) text) [ Some rest ↦ is_at_name_end rest | None ↦ false ]

-- condition 1: `<pre`, `<script`, `<style` or `<textarea`
unfoldable pub is_raw_text_start : List ℕ → Bool
is_raw_text_start text = list_any (λ name. is_named_start (str_to_ascii_lowercase text) name) raw_text_names

-- condition 4: `<!` and an ASCII letter
abbrev pub is_at_letter : List ℕ → Bool
is_at_letter [] = false
is_at_letter (b ∷ bs) = is_ascii_alphabetic b

-- the same, after `<!`
unfoldable pub is_declaration_start : List ℕ → Bool
is_declaration_start text = elim (after_word (codes "<!") text) [ Some rest ↦ is_at_letter rest | None ↦ false ]

-- condition 6: `<` or `</`, and one of the names
unfoldable pub is_block_tag_start : Rules → List ℕ → Bool
is_block_tag_start rules text = elim (after_word (codes "</") text <|> after_word (codes "<") text) [
  | Some inside ↦ elim (tag_name inside) [
    | Some tag ↦ is_among (block_names rules) (str_to_ascii_lowercase tag.name) && is_at_tag_end tag.rest
    | None ↦ false
  ]
  | None ↦ false
]

-- condition 7: a complete open tag with another name than those of condition 1, or a complete closing tag, and nothing else on
-- the line but spaces and tabs
unfoldable pub is_any_tag_start : List ℕ → Bool
is_any_tag_start text = elim (closing_tag text) [
  | Some tag ↦ is_blank_text tag.rest
  | None ↦ elim (open_tag text) [
    | Some tag ↦ is_blank_text tag.rest && not (is_among raw_text_names (str_to_ascii_lowercase tag.name))
    | None ↦ false
  ]
]

-- The first start condition that the line meets. Each needs a `<`; without raw HTML in the rules there is none. Condition 6
-- has `search` among its names, or `source` with the older rules.
unfoldable pub html_start : Rules → List ℕ → Option HtmlKind
html_start rules [] = None
html_start rules (b ∷ bs) = elim (b == byte "<" && rules.raw_html) [
  | true ↦ given (is_raw_text_start (b ∷ bs)) RawText
      <|> given (is_at_word (codes "<!--") (b ∷ bs)) Comment
      <|> given (is_at_word (codes "<?") (b ∷ bs)) Instruction
      <|> given (is_declaration_start (b ∷ bs)) Declaration
      <|> given (is_at_word (codes "<![CDATA[") (b ∷ bs)) CharacterData
      <|> given (is_block_tag_start rules (b ∷ bs)) BlockTag
      <|> given (is_any_tag_start (b ∷ bs)) AnyTag
  | false ↦ None
]

-- a line, the first or a later one, meets the end condition; the last two kinds have none
unfoldable pub is_html_end : HtmlKind → List ℕ → Bool
is_html_end RawText text = list_any (λ name. holds_word (codes "</" ++ name ++ codes ">") (str_to_ascii_lowercase text)) raw_text_names
is_html_end Comment text = holds_word (codes "-->") text
is_html_end Instruction text = holds_word (codes "?>") text
is_html_end Declaration text = holds_word (codes ">") text
is_html_end CharacterData text = holds_word (codes "]]>") text
is_html_end _ text = false

-- a blank line ends the block: kinds 6 and 7
abbrev pub ends_at_blank_line : HtmlKind → Bool
ends_at_blank_line BlockTag = true
ends_at_blank_line AnyTag = true
ends_at_blank_line _ = false
