-- Worked examples: raw HTML, autolinks and code spans.
use Rattle.std.specs.Prelude.{◌≡◌, ◌+◌, ◌*◌, ℕ, true, false, List, [], codes, Some, None}
use Rattle.cm_text.specs.Rules.{profile, older_rules}
use Rattle.cm_scan.specs.spans.RawHtml.{raw_html}
use Rattle.cm_scan.specs.spans.Autolinks.{autolink}
use Rattle.cm_scan.specs.spans.CodeSpans.{code_span}
use Rattle.cm_scan.specs.spans.Reach.{html_reach, needed, link_reach, link_reaches}

-- by the rules that hold, and by the older ones
abbrev pub Leaves : List ℕ → List ℕ → Type 0
Leaves text rest = raw_html profile text ≡ Some rest

abbrev pub IsNone : List ℕ → Type 0
IsNone text = raw_html profile text ≡ None

pub record RawHtmlExamples : Type 0 where
  pub open_tag : Leaves (codes "<a>b") (codes "b")
  pub closed_at_once : Leaves (codes "<b2/>") []
  pub three_values : Leaves (codes "<a  b=c d = 'e>' f=\"\n\" _g />h") (codes "h")
  pub over_a_line : Leaves (codes "<a\nb\n=\nc>") []
  pub two_line_endings : IsNone (codes "<a\n\nb>")
  pub no_gap : IsNone (codes "<a b='c'd>")
  pub name_of_a_digit : IsNone (codes "<33>")
  pub no_end : IsNone (codes "<a b")
  pub no_value : IsNone (codes "<a b=>")
  pub gap_in_front : IsNone (codes "< a>")
  pub closing_tag : Leaves (codes "</a-b\n >c") (codes "c")
  pub closing_tag_with_attribute : IsNone (codes "</a b>")
  pub comment : Leaves (codes "<!-- a -- b\n--->-->") (codes "-->")
  pub empty_comment : Leaves (codes "<!---->") []
  pub short_comment : Leaves (codes "<!--> y -->") (codes " y -->")
  pub comment_of_a_hyphen : Leaves (codes "<!---> y -->") (codes " y -->")
  pub open_comment : IsNone (codes "<!-- a --")
  pub instruction : Leaves (codes "<?a>?b?>?>") (codes "?>")
  pub empty_instruction : Leaves (codes "<??>") []
  pub declaration : Leaves (codes "<!aB c>d>") (codes "d>")
  pub declaration_of_a_digit : IsNone (codes "<!1>")
  pub character_data : Leaves (codes "<![CDATA[a]>]]]>b") (codes "b")
  pub character_data_in_lower_case : IsNone (codes "<![cdata[a]]>")
  pub nothing : IsNone []
  pub text : IsNone (codes "a<b>")

pub record OlderExamples : Type 0 where
  pub comment : raw_html older_rules (codes "<!-- a - b -->c") ≡ Some (codes "c")
  pub empty_comment : raw_html older_rules (codes "<!---->") ≡ Some []
  pub short_comment : raw_html older_rules (codes "<!--> y -->") ≡ None
  pub comment_of_a_hyphen : raw_html older_rules (codes "<!---> y -->") ≡ None
  pub two_hyphens : raw_html older_rules (codes "<!-- a -- b -->") ≡ None
  pub hyphen_at_the_end : raw_html older_rules (codes "<!-- a --->") ≡ None
  pub open_tag : raw_html older_rules (codes "<a>") ≡ Some []

-- an autolink with this destination and text, and what is left
abbrev pub LinksTo : List ℕ → List ℕ → List ℕ → List ℕ → Type 0
LinksTo source destination text rest = autolink source ≡ Some (record { destination = destination; text = text; rest = rest })

abbrev pub IsNoLink : List ℕ → Type 0
IsNoLink text = autolink text ≡ None

pub record AutolinkExamples : Type 0 where
  pub absolute : LinksTo (codes "<http://a.b?c=d&e>f") (codes "http://a.b?c=d&e") (codes "http://a.b?c=d&e") (codes "f")
  pub made_up_scheme : LinksTo (codes "<a+b.c-1:>") (codes "a+b.c-1:") (codes "a+b.c-1:") []
  pub scheme_of_one : IsNoLink (codes "<m:abc>")
  pub no_colon : IsNoLink (codes "<foo.bar>")
  pub space_inside : IsNoLink (codes "<http://a b>")
  pub space_in_front : IsNoLink (codes "< http://a>")
  pub no_end : IsNoLink (codes "<http://a")
  pub address : LinksTo (codes "<a.b+c@d-e.f>>") (codes "mailto:a.b+c@d-e.f") (codes "a.b+c@d-e.f") (codes ">")
  pub address_like_a_declaration : LinksTo (codes "<!a@b>") (codes "mailto:!a@b") (codes "!a@b") []
  pub no_local_part : IsNoLink (codes "<@b>")
  pub escaped_plus : IsNoLink (codes "<foo\\+@bar.example.com>")
  pub empty_label : IsNoLink (codes "<a@b..c>")
  pub hyphen_at_an_end : IsNoLink (codes "<a@b-.c>")
  pub nothing : IsNoLink (codes "<>")

abbrev pub Spans : List ℕ → List ℕ → List ℕ → Type 0
Spans source content rest = code_span source ≡ Some (record { text = content; rest = rest })

pub record CodeSpanExamples : Type 0 where
  pub one : Spans (codes "`a`b") (codes "a") (codes "b")
  pub longer_run_inside : Spans (codes "`` a ` b `` c") (codes "a ` b") (codes " c")
  pub only_two_backticks : Spans (codes "` `` `") (codes "``") []
  pub two_spaces : Spans (codes "`  ``  `") (codes " `` ") []
  pub one_space : Spans (codes "` a`") (codes " a") []
  pub all_spaces : Spans (codes "`  `") (codes "  ") []
  pub line_endings : Spans (codes "``\na\nb\n``") (codes "a b") []
  pub shorter_run_closes_nothing : code_span (codes "``a`") ≡ None
  pub longer_run_closes_nothing : code_span (codes "`a``") ≡ None
  pub no_backtick : code_span (codes "a`b`") ≡ None

pub record ReachExamples : Type 0 where
  pub up_to_its_end : html_reach false (codes "<a b>c") ≡ 8 * 4 + 2
  pub quoted_bracket : html_reach false (codes "<a b='>'>c") ≡ 8 * 8 + 2
  pub next_tag : html_reach false (codes "<a <b") ≡ 8 * 3 + 2
  pub open_quotation : html_reach false (codes "<a ' <b>") ≡ 8 * 8 + 2
  pub comment : html_reach false (codes "<!-- a <b") ≡ 16
  pub open_comment : needed false (codes "<!-- a <b") ≡ 5
  pub older_comment : html_reach true (codes "<!-- a -- b") ≡ 5 + 16
  pub older_comment_needs_nothing : needed true (codes "<!-- a -- b") ≡ 0
  pub declaration : needed false (codes "<!a b") ≡ 2
  pub no_declaration : needed false (codes "<!1 b") ≡ 0
  pub tag : needed false (codes "<a b") ≡ 0
  pub autolink : link_reach (codes "a:b>c") ≡ 4
  pub space_in_an_autolink : link_reach (codes "a:b c>") ≡ 4
  pub next_autolink : link_reach (codes "a<b:c>") ≡ 2
  pub autolinks : link_reaches (codes "a <b:c> <d<e:f") ≡ 4 + 2 + 4
