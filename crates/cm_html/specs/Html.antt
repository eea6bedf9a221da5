-- The HTML of a tree, by cases on its nodes.
use Rattle.std.specs.Prelude.{ℕ, Bool, true, false, List, [], ◌∷◌, ◌++◌, map, codes, cond, ◌==◌}
use Rattle.std.specs.List.{flat_map}
use Rattle.std.specs.Fmt.{decimal}
use Rattle.cm_tree.specs.declared.tree.Inline.{Inline, Inline-F}
use Rattle.cm_tree.specs.declared.tree.Inline.TheOpen as inline
use Rattle.cm_tree.specs.declared.tree.Inline.TheFolds.{fold-Inline}
use Rattle.cm_tree.specs.declared.tree.Block.{Block, Block-F}
use Rattle.cm_tree.specs.declared.tree.Block.TheOpen as block
use Rattle.cm_tree.specs.declared.tree.Block.TheFolds.{fold-Block}
use Rattle.cm_tree.specs.declared.tree.ListKind.{ListKind}
use Rattle.cm_tree.specs.declared.tree.ListKind.TheVariants.{Dot, Paren}
use Rattle.cm_html.specs.declared.elements.Element.TheVariants.{Paragraph, Quote, Item, Code, Emph, Strong, Strike}
use Rattle.cm_html.specs.Elements.{element_html}
use Rattle.cm_html.specs.Escape.{escape, destination_html, class_word}

-- What an inline writes: its HTML, and its part of the alternative text of an image.
pub record Rendered : Type 0 where
  pub html : List ℕ
  pub plain : List ℕ

-- inlines, one after another
abbrev pub join_html : List Rendered → List ℕ
join_html inlines = flat_map (λ inline. inline.html) inlines

abbrev pub join_plain : List Rendered → List ℕ
join_plain inlines = flat_map (λ inline. inline.plain) inlines

-- the `title` attribute, or nothing if the title is empty
abbrev pub title_html : List ℕ → List ℕ
title_html [] = []
title_html (b ∷ bs) = codes " title=\"" ++ escape (b ∷ bs) ++ codes "\""

-- the start tag of a link
abbrev pub link_start : List ℕ → List ℕ → List ℕ
link_start dest title = codes "<a href=\"" ++ destination_html dest ++ codes "\"" ++ title_html title ++ codes ">"

abbrev pub link_html : List ℕ → List ℕ → List ℕ → List ℕ
link_html dest title html = link_start dest title ++ html ++ codes "</a>"

-- an image up to its alternative text
abbrev pub image_start : List ℕ → List ℕ
image_start dest = codes "<img src=\"" ++ destination_html dest ++ codes "\" alt=\""

abbrev pub image_html : List ℕ → List ℕ → List ℕ → List ℕ
image_html dest title plain = image_start dest ++ escape plain ++ codes "\"" ++ title_html title ++ codes " />"

-- One inline, given what each inline of its content writes. The alternative text of an image is the text and code in its content, with a
-- space for each line break, and raw HTML as it is.
abbrev pub inline_step : Inline-F Rendered → Rendered
inline_step (inline.Text text) = record { html = escape text; plain = text }
inline_step (inline.Code text) = record { html = element_html Code (escape text); plain = text }
inline_step (inline.Html text) = record { html = text; plain = text }
inline_step inline.Soft = record { html = codes "\n"; plain = codes " " }
inline_step inline.Hard = record { html = codes "<br />\n"; plain = codes " " }
inline_step (inline.Emph content) = record { html = element_html Emph (join_html content); plain = join_plain content }
inline_step (inline.Strong content) = record { html = element_html Strong (join_html content); plain = join_plain content }
inline_step (inline.Strike content) = record { html = element_html Strike (join_html content); plain = join_plain content }
inline_step (inline.Link dest title content) = record { html = link_html dest title (join_html content); plain = join_plain content }
inline_step (inline.Image dest title content) = record { html = image_html dest title (join_plain content); plain = join_plain content }

-- what an inline writes
abbrev pub rendered : Inline → Rendered
rendered = fold-Inline Rendered inline_step

-- the HTML of inlines
abbrev pub inlines_html : List Inline → List ℕ
inlines_html inlines = join_html (map rendered inlines)

-- the start tag of a heading
abbrev pub heading_start : ℕ → List ℕ
heading_start level = codes "<h" ++ decimal level ++ codes ">"

-- the end tag of a heading, and a line feed
abbrev pub heading_end : ℕ → List ℕ
heading_end level = codes "</h" ++ decimal level ++ codes ">\n"

abbrev pub heading_html : ℕ → List ℕ → List ℕ
heading_html level html = heading_start level ++ html ++ heading_end level

-- the start of a code block with this class word, or without a `class` attribute if it is empty
abbrev pub code_start : List ℕ → List ℕ
code_start [] = codes "<pre><code>"
code_start (b ∷ bs) = codes "<pre><code class=\"language-" ++ escape (b ∷ bs) ++ codes "\">"

-- a code block
abbrev pub code_html : List ℕ → List ℕ → List ℕ
code_html info text = code_start (class_word info) ++ escape text ++ codes "</code></pre>\n"

-- What a block writes: nothing, if it is a definition; the inlines of a paragraph; or its HTML.
pub data Written : Type 0 where
  Nothing : Written
  Inlines : List ℕ → Written
  Whole : List ℕ → Written

-- a block that is in no item
abbrev pub alone : Written → List ℕ
alone Nothing = []
alone (Inlines html) = element_html Paragraph html
alone (Whole html) = html

-- blocks that are in no item
abbrev pub all_alone : List Written → List ℕ
all_alone ws = flat_map alone ws

-- a line feed, or nothing
abbrev pub line_feed_if : Bool → List ℕ
line_feed_if true = codes "\n"
line_feed_if false = []

-- Blocks of an item, without definitions. In a tight list a paragraph is its inlines alone. Any other block starts on a new line if it is the
-- first or follows such a paragraph, as the mark says.
abbrev pub inside_from : (tight fresh : Bool) → List Written → List ℕ
inside_from tight fresh [] = []
inside_from tight fresh (Nothing ∷ ws) = inside_from tight fresh ws
inside_from true fresh (Inlines html ∷ ws) = html ++ inside_from true true ws
inside_from tight fresh (w ∷ ws) = line_feed_if fresh ++ alone w ++ inside_from tight false ws

abbrev pub items_html : Bool → List (List Written) → List ℕ
items_html tight items = flat_map (λ item. element_html Item (inside_from tight true item)) items

abbrev pub ordered_start : ℕ → List ℕ
ordered_start start = cond (start == 1) (codes "<ol>\n") (codes "<ol start=\"" ++ decimal start ++ codes "\">\n")

-- the start tag of a list, and a line feed
abbrev pub list_start : ListKind → List ℕ
list_start (Dot start) = ordered_start start
list_start (Paren start) = ordered_start start
list_start _ = codes "<ul>\n"

-- the end tag of a list, and a line feed
abbrev pub list_end : ListKind → List ℕ
list_end (Dot start) = codes "</ol>\n"
list_end (Paren start) = codes "</ol>\n"
list_end _ = codes "</ul>\n"

-- one block, given what each block inside writes
abbrev pub block_step : Block-F Written → Written
block_step (block.Paragraph content) = Inlines (inlines_html content)
block_step (block.Heading level content) = Whole (heading_html level (inlines_html content))
block_step (block.Code info text) = Whole (code_html info text)
block_step (block.Html text) = Whole text
block_step block.Break = Whole (codes "<hr />\n")
block_step (block.Definition label dest title) = Nothing
block_step (block.Quote blocks) = Whole (element_html Quote (all_alone blocks))
block_step (block.List kind tight items) = Whole (list_start kind ++ items_html tight items ++ list_end kind)

-- what a block writes
abbrev pub written : Block → Written
written = fold-Block Written block_step

-- the HTML of blocks
abbrev pub html_of : List Block → List ℕ
html_of blocks = all_alone (map written blocks)
