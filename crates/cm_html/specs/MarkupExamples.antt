-- Worked examples: what is markup and what isn't, and the tags of trees and of their HTML.
use Rattle.std.specs.Prelude.{◌≡◌, true, false, Some, None, List, [], ◌∷◌, codes}
use Rattle.cm_tree.specs.declared.tree.Inline.{Inline}
use Rattle.cm_tree.specs.declared.tree.Inline.TheVariants as inlines
use Rattle.cm_tree.specs.declared.tree.Block.{Block}
use Rattle.cm_tree.specs.declared.tree.Block.TheVariants.{Paragraph, Heading, Code, Html, Break, Quote, List as ListBlock}
use Rattle.cm_tree.specs.declared.tree.ListKind.TheVariants.{Dash, Dot}
use Rattle.cm_text.specs.Rules.{Rules, profile}
use Rattle.cm_tree.specs.Followed.{blocks_are_followed}
use Rattle.cm_html.specs.Html.{html_of}
use Rattle.cm_tree.specs.HeadingLevels.{have_levels}
use Rattle.cm_html.specs.Markup.{tags_in, is_markup}
use Rattle.cm_tree.specs.RawHtml.{blocks_have_raw}
use Rattle.cm_html.specs.Tags.{tags_of}
use Rattle.cm_html.specs.WorkedExamples.{word}

pub record MarkupExamples : Type 0 where
  pub nothing : tags_in profile [] ≡ Some []
  pub tags : tags_in profile (codes "<p>a &lt;em&gt;<br />\n<a href=\"/u\">b</a></p>\n") ≡ Some (codes "p" ∷ codes "br /" ∷ codes "a href=\"\"" ∷ codes "/a" ∷ codes "/p" ∷ [])
  pub references : is_markup profile (codes "&amp;&lt;&gt;&quot;") ≡ true
  pub titled_link : is_markup profile (codes "<a href=\"/u\" title=\"&quot;\">a</a>") ≡ true
  pub any_scheme : is_markup profile (codes "<a href=\"javascript:alert(1)\">a</a>") ≡ true
  pub image : is_markup profile (codes "<img src=\"/u\" alt=\"a\" />") ≡ true
  pub language : is_markup profile (codes "<pre><code class=\"language-c\">a</code></pre>") ≡ true
  pub list : is_markup profile (codes "<ol start=\"3\"><li>a<br />b<del>c</del></li></ol><hr />") ≡ true
  pub script : is_markup profile (codes "<script>a</script>") ≡ false
  pub left_open : tags_in profile (codes "<p>a") ≡ None
  pub wrong_end : is_markup profile (codes "<p><em>a</p></em>") ≡ false
  pub end_alone : is_markup profile (codes "</p>") ≡ false
  pub half_tag : is_markup profile (codes "<p") ≡ false
  pub bare_greater : is_markup profile (codes "a > b") ≡ false
  pub bare_quotation : is_markup profile (codes "a \" b") ≡ false
  pub bare_ampersand : is_markup profile (codes "a & b") ≡ false
  pub other_reference : is_markup profile (codes "&colon;") ≡ false
  pub handler : is_markup profile (codes "<a href=\"\" onclick=\"a\">b</a>") ≡ false
  pub handler_of_a_paragraph : is_markup profile (codes "<p onclick=\"a\">b</p>") ≡ false
  pub greater_in_a_value : is_markup profile (codes "<a href=\">\">b</a>") ≡ false
  pub comment : is_markup profile (codes "<!-- a -->") ≡ false
  pub other_class : is_markup profile (codes "<code class=\"admin\">b</code>") ≡ false
  pub start_without_a_number : is_markup profile (codes "<ol start=\"a\"></ol>") ≡ false

-- without raw HTML, and with addresses of the web alone
abbrev pub safe : Rules
safe = record { older = false; strike = false; raw_html = false; any_address = false }

-- where links and images may lead, and what a class may be, with these rules
pub record AddressMarkupExamples : Type 0 where
  pub no_address : is_markup safe (codes "<a href=\"\">a</a>") ≡ true
  pub path : is_markup safe (codes "<a href=\"/u:v\">a</a>") ≡ true
  pub other_host : is_markup safe (codes "<img src=\"//a.b:80/c\" alt=\"\" />") ≡ true
  pub https : is_markup safe (codes "<a href=\"HTTPS://a.b?c&amp;d\">a</a>") ≡ true
  pub mail : is_markup safe (codes "<a href=\"mailto:a@b\">a</a>") ≡ true
  pub script : is_markup safe (codes "<a href=\"JavaScript:alert(1)\">a</a>") ≡ false
  pub script_after_a_space : is_markup safe (codes "<a href=\" javascript:alert(1)\">a</a>") ≡ false
  pub script_around_a_line_feed : is_markup safe (codes "<a href=\"java\nscript:alert(1)\">a</a>") ≡ false
  pub image : is_markup safe (codes "<img src=\"data:a\" alt=\"\" />") ≡ false
  pub other_values : is_markup safe (codes "<img src=\"/u\" alt=\"javascript:a\" title=\"javascript:b\" />") ≡ true
  pub one_word : is_markup safe (codes "<code class=\"language-c\">a</code>") ≡ true
  pub two_words : is_markup safe (codes "<code class=\"language-a\nadmin\">a</code>") ≡ false
  pub two_words_by_the_profile : is_markup profile (codes "<code class=\"language-a\nadmin\">a</code>") ≡ true

-- a paragraph of one inline
abbrev pub of_one : Inline → List Block
of_one inline = Paragraph (inline ∷ []) ∷ []

-- What some texts come to, also where they look like markup.
pub record TextMarkupExamples : Type 0 where
  pub script : html_of (Paragraph (word (codes "<script>")) ∷ []) ≡ codes "<p>&lt;script&gt;</p>\n"
  pub reference : html_of (Paragraph (word (codes "&lt;")) ∷ []) ≡ codes "<p>&amp;lt;</p>\n"
  pub title : html_of (of_one (inlines.Link (codes "/u") (codes "\"><script>") (word (codes "a")))) ≡ codes "<p><a href=\"/u\" title=\"&quot;&gt;&lt;script&gt;\">a</a></p>\n"
  -- a destination stays one, whatever it does
  pub scheme : html_of (of_one (inlines.Link (codes "javascript:alert(\"x\")") [] (word (codes "a")))) ≡ codes "<p><a href=\"javascript:alert(%22x%22)\">a</a></p>\n"
  pub destination : html_of (of_one (inlines.Link (codes "\"><script>") [] (word (codes "a")))) ≡ codes "<p><a href=\"%22%3E%3Cscript%3E\">a</a></p>\n"
  pub alternative_text : html_of (of_one (inlines.Image (codes "/u") [] (inlines.Text (codes "\" onerror=\"a") ∷ inlines.Html (codes "<b>") ∷ []))) ≡ codes "<p><img src=\"/u\" alt=\"&quot; onerror=&quot;a&lt;b&gt;\" /></p>\n"
  pub info : html_of (Code (codes "a\"><script> b") (codes "</code>\n") ∷ []) ≡ codes "<pre><code class=\"language-a&quot;&gt;&lt;script&gt;\">&lt;/code&gt;\n</code></pre>\n"
  -- two classes to a browser: the word ends at a space or a tab alone
  pub info_with_a_line_feed : html_of (Code (codes "a\nadmin") [] ∷ []) ≡ codes "<pre><code class=\"language-a\nadmin\"></code></pre>\n"
  pub tags_with_a_title : tags_of (of_one (inlines.Link (codes "/u") (codes "\"><script>") (word (codes "<b>")))) ≡ codes "p" ∷ codes "a href=\"\" title=\"\"" ∷ codes "/a" ∷ codes "/p" ∷ []
  pub tags_of_a_tight_item : tags_of (ListBlock Dash true ((Paragraph (inlines.Strike (word (codes "<b>")) ∷ []) ∷ Break ∷ []) ∷ []) ∷ [])
      ≡ codes "ul" ∷ codes "li" ∷ codes "del" ∷ codes "/del" ∷ codes "hr /" ∷ codes "/li" ∷ codes "/ul" ∷ []
  pub items_are_markup : is_markup profile (html_of (ListBlock (Dot 2) true ((Paragraph (word (codes "<li>")) ∷ Quote (Break ∷ []) ∷ []) ∷ []) ∷ [])) ≡ true

-- what the law doesn't speak of
pub record RawHtmlExamples : Type 0 where
  pub raw : is_markup profile (html_of (of_one (inlines.Html (codes "<b>")))) ≡ false
  pub raw_in_a_quote : blocks_have_raw (Quote (of_one (inlines.Emph (inlines.Html (codes "<b>") ∷ []))) ∷ []) ≡ true
  pub raw_in_an_item : blocks_have_raw (ListBlock Dash true ([] ∷ of_one (inlines.Strike (inlines.Html (codes "<b>") ∷ [])) ∷ []) ∷ []) ≡ true
  pub block : blocks_have_raw (Html (codes "<b>\n") ∷ []) ≡ true
  pub raw_in_an_image : blocks_have_raw (of_one (inlines.Image (codes "/u") [] (inlines.Html (codes "<b>") ∷ []))) ≡ false
  pub text : blocks_have_raw (of_one (inlines.Text (codes "<b>"))) ≡ false
  pub seventh_level : is_markup profile (html_of (Heading 7 [] ∷ [])) ≡ false
  pub seventh_level_in_a_quote : have_levels (Quote (Heading 7 [] ∷ []) ∷ []) ≡ false
  pub sixth_level : have_levels (Quote (Heading 6 [] ∷ []) ∷ []) ≡ true

-- which trees hold only what the rules read
pub record FollowedExamples : Type 0 where
  pub link : blocks_are_followed safe (of_one (inlines.Link (codes "http:a") [] (word (codes "javascript:a")))) ≡ true
  pub script : blocks_are_followed safe (of_one (inlines.Link (codes "javascript:a") [] [])) ≡ false
  pub script_by_the_profile : blocks_are_followed profile (of_one (inlines.Link (codes "javascript:a") [] [])) ≡ true
  pub image_in_a_quote : blocks_are_followed safe (Quote (of_one (inlines.Emph (inlines.Image (codes "data:a") [] [] ∷ []))) ∷ []) ≡ false
  pub link_in_an_image : blocks_are_followed safe (of_one (inlines.Image (codes "/u") [] (inlines.Link (codes "data:a") [] [] ∷ []))) ≡ true
  pub info : blocks_are_followed safe (Code (codes "a b") (codes "\n") ∷ []) ≡ true
  pub info_with_a_line_feed : blocks_are_followed safe (Code (codes "a\nadmin") [] ∷ []) ≡ false
