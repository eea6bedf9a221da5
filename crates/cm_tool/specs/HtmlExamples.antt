-- Worked examples: from the bytes of a text to its HTML.
use Rattle.std.specs.Prelude.{◌≡◌, false, [], ◌∷◌, ◌++◌, codes}
use Rattle.cm_text.specs.Rules.{Rules, profile, older_rules}
use Rattle.cm_tool.specs.Writing.{converted}

-- for texts from strangers: without raw HTML, and with addresses of the web alone
abbrev pub safe : Rules
safe = record profile { raw_html = false; any_address = false }

pub record HtmlExamples : Type 0 where
  pub no_text : converted profile [] ≡ []
  pub paragraph_over_two_lines : converted profile (codes "a\n b \n\n") ≡ codes "<p>a\nb</p>\n"
  pub break_between_paragraphs : converted profile (codes "a\n***\nb\n") ≡ codes "<p>a</p>\n<hr />\n<p>b</p>\n"
  pub heading : converted profile (codes "# a & b\n\n***\n") ≡ codes "<h1>a &amp; b</h1>\n<hr />\n"
  pub heading_over_two_lines : converted profile (codes "a\nb\n===\n") ≡ codes "<h1>a\nb</h1>\n"
  pub references : converted profile (codes "\"<>\n") ≡ codes "<p>&quot;&lt;&gt;</p>\n"
  pub carriage_return : converted profile (codes "a\rb") ≡ codes "<p>a\nb</p>\n"
  pub carriage_return_line_feed : converted profile (codes "a\r\nb") ≡ codes "<p>a\nb</p>\n"
  pub nul : converted profile (97 ∷ 0 ∷ []) ≡ codes "<p>a" ++ 0xEF ∷ 0xBF ∷ 0xBD ∷ codes "</p>\n"
  pub blank_line : converted profile (codes "a\n \t\nb") ≡ codes "<p>a</p>\n<p>b</p>\n"
  pub indented_code : converted profile (codes "    ***") ≡ codes "<pre><code>***\n</code></pre>\n"
  pub lazy_line : converted profile (codes "> a\nb\n") ≡ codes "<blockquote>\n<p>a\nb</p>\n</blockquote>\n"
  pub list_in_a_quote : converted profile (codes "> - a\n>   b\n> - c\n") ≡ codes "<blockquote>\n<ul>\n<li>a\nb</li>\n<li>c</li>\n</ul>\n</blockquote>\n"
  pub spaces_after_a_tab : converted profile (codes "a \t  \nb \t") ≡ codes "<p>a \t<br />\nb</p>\n"
  pub code_and_escape : converted profile (codes "`a*` \\*&copy;\n") ≡ codes "<p><code>a*</code> *" ++ 0xC2 ∷ 0xA9 ∷ codes "</p>\n"
  pub emphasis : converted profile (codes "*a **b***\n") ≡ codes "<p><em>a <strong>b</strong></em></p>\n"
  pub link_before_its_definition : converted profile (codes "[a]\n\n[A]: /u\n") ≡ codes "<p><a href=\"/u\">a</a></p>\n"
  pub search_interrupts_a_paragraph : converted profile (codes "a\n<search>\n") ≡ codes "<p>a</p>\n<search>\n"
  pub source_by_the_older_rules : converted older_rules (codes "a\n<source>\n") ≡ codes "<p>a</p>\n<source>\n"
  pub block_of_a_stranger : converted safe (codes "<script>\n\n*a*\n") ≡ codes "<p>&lt;script&gt;</p>\n<p><em>a</em></p>\n"
  pub tag_of_a_stranger : converted safe (codes "a <b c=\"d\">\n") ≡ codes "<p>a &lt;b c=&quot;d&quot;&gt;</p>\n"
  pub link_of_a_stranger : converted safe (codes "[](JavaScript:b) [c](/d:e)\n") ≡ codes "<p>[](JavaScript:b) <a href=\"/d:e\">c</a></p>\n"
  pub autolinks_of_a_stranger : converted safe (codes "<data:a> <HTTP:b>\n") ≡ codes "<p>&lt;data:a&gt; <a href=\"HTTP:b\">HTTP:b</a></p>\n"
  pub class_of_a_stranger : converted safe (codes "~~~ a&#10;b\n") ≡ codes "<pre><code class=\"language-a\"></code></pre>\n"
