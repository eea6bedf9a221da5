-- Worked examples of rules without raw HTML and with addresses of the web alone, by computation.
use Rattle.std.specs.Prelude.{◌≡◌, ℕ, false, None, List, [], ◌∷◌, codes}
use Rattle.cm_text.specs.Rules.{Rules, profile}
use Rattle.cm_tree.specs.declared.tree.Inline.{Inline}
use Rattle.cm_tree.specs.declared.tree.Inline.TheVariants.{Text, Emph, Link}
use Rattle.cm_scan.specs.blocks.HtmlBlocks.{html_start}
use Rattle.cm_scan.specs.blocks.Parts.{info_of}
use Rattle.cm_scan.specs.laws.InlineExamples.{ReadsBy}

abbrev pub safe : Rules
safe = record { older = false; strike = false; raw_html = false; any_address = false }

abbrev pub Safely : List ℕ → List Inline → Type 0
Safely = ReadsBy safe []

abbrev pub says : List ℕ → List Inline
says text = Text text ∷ []

pub record RuleExamples : Type 0 where
  pub raw_text : html_start safe (codes "<script>") ≡ None
  pub comment_block : html_start safe (codes "<!-- a") ≡ None
  pub instruction_block : html_start safe (codes "<?a") ≡ None
  pub declaration_block : html_start safe (codes "<!A") ≡ None
  pub character_data_block : html_start safe (codes "<![CDATA[") ≡ None
  pub block_tag : html_start safe (codes "<div") ≡ None
  pub any_tag : html_start safe (codes "<a>") ≡ None
  pub tag : Safely (codes "<b>*a*") (Text (codes "<b>") ∷ Emph (says (codes "a")) ∷ [])
  pub closing_tag : Safely (codes "</b>") (says (codes "</b>"))
  pub instruction : Safely (codes "<?a?>") (says (codes "<?a?>"))
  pub declaration : Safely (codes "<!A b>") (says (codes "<!A b>"))
  pub character_data : Safely (codes "<![CDATA[a]]>") (says (codes "<![CDATA[a]]>"))
  pub comment : Safely (codes "<!-- a -->") (says (codes "<!-- a -->"))
  pub link : Safely (codes "[a](javascript:b)") (says (codes "[a](javascript:b)"))
  pub link_in_capitals : Safely (codes "[a](JaVaScRiPt:b)") (says (codes "[a](JaVaScRiPt:b)"))
  pub link_by_references : Safely (codes "[a](java&#115;cript&#58;b)") (says (codes "[a](javascript:b)"))
  pub link_by_an_escape : Safely (codes "[a](javascript\\:b)") (says (codes "[a](javascript:b)"))
  pub link_in_angles : Safely (codes "[a](< javascript:b>)") (says (codes "[a](< javascript:b>)"))
  pub link_around_a_tab : Safely (codes "[a](<java\tscript:b>)") (says (codes "[a](<java\tscript:b>)"))
  pub image : Safely (codes "![a](data:b)") (says (codes "![a](data:b)"))
  pub autolink : Safely (codes "<javascript:b>") (says (codes "<javascript:b>"))
  pub address : Safely (codes "<a@b>") (Link (codes "mailto:a@b") [] (says (codes "a@b")) ∷ [])
  pub web : Safely (codes "[a](HTTPS:b)") (Link (codes "HTTPS:b") [] (says (codes "a")) ∷ [])
  pub path : Safely (codes "[a](/b:c)") (Link (codes "/b:c") [] (says (codes "a")) ∷ [])
  pub reference : ReadsBy safe ((codes "a", (codes "data:b", [])) ∷ []) (codes "[a]") (says (codes "[a]"))
  pub full_reference : ReadsBy safe ((codes "a", (codes "data:b", [])) ∷ []) (codes "[c][a]") (says (codes "[c][a]"))
  pub reference_after_no_link : ReadsBy safe ((codes "a", (codes "/b", [])) ∷ []) (codes "[a](data:c)") (Link (codes "/b") [] (says (codes "a")) ∷ Text (codes "(data:c)") ∷ [])
  pub link_inside_what_is_none : Safely (codes "[a [b](/c)](data:d)") (Text (codes "[a ") ∷ Link (codes "/c") [] (says (codes "b")) ∷ Text (codes "](data:d)") ∷ [])
  pub info_over_lines : info_of safe (codes "a&#10;b&#12;c&#13;d e") ≡ codes "a b c d e"
  pub info_by_the_profile : info_of profile (codes "a&#10;b") ≡ codes "a\nb"
