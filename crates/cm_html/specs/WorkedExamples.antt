-- Worked examples: the HTML of trees, and their listings.
use Rattle.std.specs.Prelude.{◌≡◌, ℕ, true, false, List, [], ◌∷◌, ◌++◌, codes}
use Rattle.cm_tree.specs.declared.tree.Inline.{Inline}
use Rattle.cm_tree.specs.declared.tree.Inline.TheVariants as inlines
use Rattle.cm_tree.specs.declared.tree.Block.TheVariants.{Paragraph, Heading, Code, Html, Break, Definition, Quote, List as ListBlock}
use Rattle.cm_tree.specs.declared.tree.ListKind.TheVariants.{Dash, Star, Dot, Paren}
use Rattle.cm_html.specs.Escape.{escape, destination_html, class_word}
use Rattle.cm_tree.specs.declared.tree.Owner.TheVariants.{Leaf, Marker, Blank}
use Rattle.cm_html.specs.Html.{inlines_html, html_of}
use Rattle.cm_html.specs.Listing.{quoted, listing_of}

-- one text
abbrev pub word : List ℕ → List Inline
word text = inlines.Text text ∷ []

pub record TextExamples : Type 0 where
  pub references : escape (codes "a<b>&\"c\"") ≡ codes "a&lt;b&gt;&amp;&quot;c&quot;"
  pub destination : destination_html (codes "https://e.x/?a=1&b=\"" ++ 0xC3 ∷ 0xA4 ∷ []) ≡ codes "https://e.x/?a=1&amp;b=%22%C3%A4"
  pub destination_kept : destination_html (codes "-_.+!*'(),%#@?=;:/$~") ≡ codes "-_.+!*'(),%#@?=;:/$~"
  pub destination_space : destination_html (codes "b c<[") ≡ codes "b%20c%3C%5B"
  pub class_of_words : class_word (codes "rust ignore") ≡ codes "rust"
  pub class_before_tab : class_word (codes "a\tb") ≡ codes "a"
  pub class_of_nothing : class_word (codes " a") ≡ []

pub record InlineExamples : Type 0 where
  pub text : inlines_html (word (codes "a<b")) ≡ codes "a&lt;b"
  pub code_span : inlines_html (inlines.Code (codes "<&") ∷ []) ≡ codes "<code>&lt;&amp;</code>"
  pub raw : inlines_html (inlines.Html (codes "<b a=\"c\">") ∷ []) ≡ codes "<b a=\"c\">"
  pub breaks : inlines_html (inlines.Soft ∷ inlines.Hard ∷ []) ≡ codes "\n<br />\n"
  pub strike : inlines_html (inlines.Strike (inlines.Emph (word (codes "a")) ∷ []) ∷ []) ≡ codes "<del><em>a</em></del>"
  pub emphasis : inlines_html (inlines.Emph (inlines.Strong (word (codes "a")) ∷ []) ∷ []) ≡ codes "<em><strong>a</strong></em>"
  pub link : inlines_html (inlines.Link (codes "b c") (codes "t") (word (codes "a")) ∷ []) ≡ codes "<a href=\"b%20c\" title=\"t\">a</a>"
  pub link_in_link : inlines_html (inlines.Link (codes "d") [] (inlines.Link (codes "ab:c") [] (word (codes "ab:c")) ∷ []) ∷ []) ≡ codes "<a href=\"d\"><a href=\"ab:c\">ab:c</a></a>"
  pub strike_in_an_image : inlines_html (inlines.Image (codes "/u") [] (inlines.Strike (word (codes "a")) ∷ []) ∷ []) ≡ codes "<img src=\"/u\" alt=\"a\" />"
  pub image : inlines_html (inlines.Image (codes "/u") [] (inlines.Text (codes "a ") ∷ inlines.Emph (word (codes "b")) ∷ []) ∷ []) ≡ codes "<img src=\"/u\" alt=\"a b\" />"
  pub image_in_image : inlines_html (inlines.Image (codes "/u") (codes "\"") (inlines.Image (codes "/v") (codes "t") (word (codes "&")) ∷ inlines.Hard ∷ inlines.Html (codes "<b>") ∷ []) ∷ []) ≡ codes "<img src=\"/u\" alt=\"&amp; &lt;b&gt;\" title=\"&quot;\" />"

pub record LeafExamples : Type 0 where
  pub paragraph : html_of (Paragraph (word (codes "a")) ∷ []) ≡ codes "<p>a</p>\n"
  pub heading : html_of (Heading 200 (word (codes "a")) ∷ []) ≡ codes "<h200>a</h200>\n"
  pub code : html_of (Code [] (codes "<\n") ∷ []) ≡ codes "<pre><code>&lt;\n</code></pre>\n"
  pub code_with_class : html_of (Code (codes "a& b") (codes "c\n") ∷ []) ≡ codes "<pre><code class=\"language-a&amp;\">c\n</code></pre>\n"
  pub raw : html_of (Html (codes "<b>\n") ∷ []) ≡ codes "<b>\n"
  pub break_line : html_of (Break ∷ []) ≡ codes "<hr />\n"
  pub definition : html_of (Definition (codes "a") (codes "/u") [] ∷ []) ≡ []

pub record ContainerExamples : Type 0 where
  pub quote : html_of (Quote (Paragraph (word (codes "a")) ∷ []) ∷ []) ≡ codes "<blockquote>\n<p>a</p>\n</blockquote>\n"
  pub ordered : html_of (ListBlock (Dot 1) true ([] ∷ []) ∷ ListBlock (Paren 3) true ([] ∷ []) ∷ []) ≡ codes "<ol>\n<li></li>\n</ol>\n<ol start=\"3\">\n<li></li>\n</ol>\n"
  pub tight_item : html_of (ListBlock Dash true ((Paragraph (word (codes "a")) ∷ Code [] (codes "b\n") ∷ Paragraph (word (codes "c")) ∷ []) ∷ []) ∷ []) ≡ codes "<ul>\n<li>a\n<pre><code>b\n</code></pre>\nc</li>\n</ul>\n"
  pub first_is_whole : html_of (ListBlock Dash true ((Break ∷ Break ∷ []) ∷ []) ∷ []) ≡ codes "<ul>\n<li>\n<hr />\n<hr />\n</li>\n</ul>\n"
  pub only_a_definition : html_of (ListBlock Dash true ((Definition (codes "a") (codes "/u") [] ∷ []) ∷ []) ∷ []) ≡ codes "<ul>\n<li></li>\n</ul>\n"
  pub definition_between : html_of (ListBlock Dash true ((Paragraph (word (codes "a")) ∷ Definition (codes "b") (codes "/u") [] ∷ Break ∷ Paragraph (word (codes "c")) ∷ []) ∷ []) ∷ []) ≡ codes "<ul>\n<li>a\n<hr />\nc</li>\n</ul>\n"
  pub definition_in_front : html_of (ListBlock Dash false ((Definition (codes "a") (codes "/u") [] ∷ Paragraph (word (codes "b")) ∷ []) ∷ []) ∷ []) ≡ codes "<ul>\n<li>\n<p>b</p>\n</li>\n</ul>\n"
  pub loose : html_of (ListBlock Star false ((Paragraph (word (codes "a")) ∷ Paragraph (word (codes "b")) ∷ []) ∷ [] ∷ []) ∷ []) ≡ codes "<ul>\n<li>\n<p>a</p>\n<p>b</p>\n</li>\n<li></li>\n</ul>\n"
  pub quote_in_item : html_of (ListBlock Star true ((Paragraph (word (codes "a")) ∷ Quote (Paragraph (word (codes "b")) ∷ []) ∷ []) ∷ (Paragraph (word (codes "c")) ∷ []) ∷ []) ∷ []) ≡ codes "<ul>\n<li>a\n<blockquote>\n<p>b</p>\n</blockquote>\n</li>\n<li>c</li>\n</ul>\n"

pub record ListingExamples : Type 0 where
  pub quotes : quoted (codes "a\\\"\n\t" ++ 0x7F ∷ 0xC3 ∷ 0xA4 ∷ []) ≡ codes "\"a\\\\\\\"\\n\\x09\\x7f" ++ 0xC3 ∷ 0xA4 ∷ codes "\""
  pub strike : listing_of (Paragraph (inlines.Strike (word (codes "a")) ∷ []) ∷ []) (Leaf 1 ∷ []) ≡ codes "paragraph\n  strike\n    text \"a\"\nowner 1 leaf 1\n"
  pub emphasis : listing_of (Paragraph (inlines.Emph (inlines.Strong (word (codes "a")) ∷ []) ∷ []) ∷ []) (Leaf 1 ∷ []) ≡ codes "paragraph\n  emph\n    strong\n      text \"a\"\nowner 1 leaf 1\n"
  pub quote_in_item : listing_of (ListBlock Star true ((Paragraph (word (codes "a")) ∷ Quote (Paragraph (word (codes "b")) ∷ []) ∷ []) ∷ (Paragraph (word (codes "c")) ∷ []) ∷ []) ∷ []) (Leaf 1 ∷ Leaf 2 ∷ Marker ∷ Leaf 3 ∷ []) ≡ codes "list bullet * tight\n  item\n    paragraph\n      text \"a\"\n    quote\n      paragraph\n        text \"b\"\n  item\n    paragraph\n      text \"c\"\nowner 1 leaf 1\nowner 2 leaf 2\nowner 3 marker\nowner 4 leaf 3\n"
  pub leaves : listing_of (Heading 2 [] ∷ Code (codes "i") (codes "t\n") ∷ Html (codes "<b>") ∷ Break ∷ Definition (codes "l") (codes "/u") [] ∷ []) (Blank ∷ []) ≡ codes "heading 2\ncode \"i\" \"t\\n\"\nhtml \"<b>\"\nbreak\ndefinition \"l\" \"/u\" \"\"\nowner 1 blank\n"
  pub lists : listing_of (ListBlock (Dot 3) false [] ∷ ListBlock (Paren 1) true ([] ∷ []) ∷ []) [] ≡ codes "list ordered . 3 loose\nlist ordered ) 1 tight\n  item\n"
  pub inlines_listed : listing_of (Paragraph (inlines.Code (codes "c") ∷ inlines.Html (codes "<b>") ∷ inlines.Soft ∷ inlines.Hard ∷ inlines.Link (codes "d") (codes "t") [] ∷ inlines.Image (codes "s") [] (word []) ∷ []) ∷ []) [] ≡ codes "paragraph\n  code \"c\"\n  html \"<b>\"\n  soft\n  hard\n  link \"d\" \"t\"\n  image \"s\" \"\"\n    text \"\"\n"
