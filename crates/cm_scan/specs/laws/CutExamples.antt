-- Worked examples: sources cut into their inlines (CommonMark 0.31.2, chapters 2 and 6).
use Rattle.std.specs.Prelude.{◌≡◌, ℕ, true, false, List, [], ◌∷◌, map, codes}
use Rattle.std.specs.Str.{byte}
use Rattle.cm_text.specs.Rules.{Rules, profile}
use Rattle.cm_tree.specs.Definitions.{Target, first_under}
use Rattle.cm_tree.specs.declared.tree.Inline.TheVariants.{Text, Code, Html, Soft, Hard, Link}
use Rattle.cm_scan.specs.inlines.Brackets.{Defined}
use Rattle.cm_scan.specs.inlines.Inlines.{inlines_of}
use Rattle.cm_scan.specs.inlines.Cuts.{Node, textual, atomic, emphasis, bracketed, Nodes, none, node, CutInto}
use Rattle.cm_scan.specs.inlines.Places.{Place, places_of}
use Rattle.cm_scan.specs.laws.InlineExamples.{struck}

-- By these rules, and in a document with these definitions, the source is cut into these nodes, and has their inlines.
abbrev pub CutsBy : Rules → List (List ℕ × Target) → (source : List ℕ) → Nodes → Type 0
CutsBy rules definitions source nodes =
    let defined : Defined = λ folded. first_under folded definitions in
    CutInto rules defined nodes (inlines_of rules defined source) source []

abbrev pub CutsUnder : List (List ℕ × Target) → (source : List ℕ) → Nodes → Type 0
CutsUnder = CutsBy profile

abbrev pub Cuts : (source : List ℕ) → Nodes → Type 0
Cuts = CutsUnder []

-- one node, two and three
abbrev pub one : Node → Nodes
one a = node a none

abbrev pub two : Node → Node → Nodes
two a b = node a (one b)

abbrev pub three : Node → Node → Node → Nodes
three a b c = node a (two b c)

-- a text as it is written
abbrev pub plain : List ℕ → Node
plain text = textual text text

-- `a` and `b` as the only text
abbrev pub a_alone : Nodes
a_alone = one (plain (codes "a"))

abbrev pub b_alone : Nodes
b_alone = one (plain (codes "b"))

abbrev pub star : Nodes → Node
star inside = emphasis (byte "*") 1 inside

abbrev pub stars : Nodes → Node
stars inside = emphasis (byte "*") 2 inside

abbrev pub link : (dest title : List ℕ) → Nodes → (tail : List ℕ) → Node
link dest title inside tail = bracketed false dest title inside tail

abbrev pub image : (dest title : List ℕ) → Nodes → (tail : List ℕ) → Node
image dest title inside tail = bracketed true dest title inside tail

-- 2.4 Backslash escapes, 2.5 Entity and numeric character references
pub record CutTextExamples : Type 0 where
  pub nothing : Cuts [] none
  pub escape_and_reference : Cuts (codes "a\\*b &amp; c") (one (textual (codes "a*b & c") (codes "a\\*b &amp; c")))
  pub no_escape_and_no_reference : Cuts (codes "a\\b &no; c") (one (plain (codes "a\\b &no; c")))
  pub reference_of_markup : Cuts (codes "&#42;a*") (one (textual (codes "*a*") (codes "&#42;a*")))
  pub backslash_before_emphasis : Cuts (codes "\\\\*a*") (two (textual (codes "\\") (codes "\\\\")) (star a_alone))
  pub backticks_without_end : Cuts (codes "``a`") (one (plain (codes "``a`")))
  pub brackets_without_end : Cuts (codes "![a](b") (one (plain (codes "![a](b")))

-- 6.2 Emphasis and strong emphasis
pub record CutEmphasisExamples : Type 0 where
  pub nested : Cuts (codes "*a **b***") (one (star (two (plain (codes "a ")) (stars b_alone))))
  pub strong_in_emphasis : Cuts (codes "***a***") (one (star (one (stars a_alone))))
  pub star_left_before : Cuts (codes "**a* b") (three (plain (codes "*")) (star a_alone) (plain (codes " b")))
  pub star_left_after : Cuts (codes "*a**") (two (star a_alone) (plain (codes "*")))
  pub underscores : Cuts (codes "_a_ __b__") (three (emphasis (byte "_") 1 a_alone) (plain (codes " ")) (emphasis (byte "_") 2 b_alone))
  pub runs_inside : Cuts (codes "*a**b*") (one (star (one (plain (codes "a**b")))))
  pub strike : CutsBy struck [] (codes "~~a~~") (one (emphasis (byte "~") 2 a_alone))
  pub no_strike : Cuts (codes "~~a~~") (one (plain (codes "~~a~~")))

-- 6.3 Links, 6.4 Images
pub record CutLinkExamples : Type 0 where
  pub titled : Cuts (codes "[a](b \"c\")d") (two (link (codes "b") (codes "c") a_alone (codes "(b \"c\")")) (plain (codes "d")))
  pub emphasis_inside : Cuts (codes "[*a*](b)") (one (link (codes "b") [] (one (star a_alone)) (codes "(b)")))
  pub escape_in_an_address : Cuts (codes "[a](b\\*)") (one (link (codes "b*") [] a_alone (codes "(b\\*)")))
  pub image_in_a_link :
      Cuts (codes "[![a](b)](c)") (one (link (codes "c") [] (one (image (codes "b") [] a_alone (codes "(b)"))) (codes "(c)")))
  pub no_text : Cuts (codes "[](a)") (one (link (codes "a") [] none (codes "(a)")))
  pub full : CutsUnder ((codes "b", (codes "c", [])) ∷ []) (codes "[a][B]") (one (link (codes "c") [] a_alone (codes "[B]")))
  pub collapsed :
      CutsUnder ((codes "a", (codes "c", [])) ∷ []) (codes "[a][]b") (two (link (codes "c") [] a_alone (codes "[]")) (plain (codes "b")))
  pub shortcut :
      CutsUnder ((codes "*a*", (codes "c", [])) ∷ []) (codes "[*a*](")
      (two (link (codes "c") [] (one (star a_alone)) []) (plain (codes "(")))
  pub tail_over_backticks : Cuts (codes "[a](b`c)`") (two (link (codes "b`c") [] a_alone (codes "(b`c)")) (plain (codes "`")))

-- 6.1 Code spans, 6.5 Autolinks, 6.6 Raw HTML, 6.7 Hard line breaks, 6.8 Soft line breaks
pub record CutAtomExamples : Type 0 where
  pub code_span : Cuts (codes "`` a` ``b") (two (atomic (Code (codes "a`")) (codes "`` a` ``")) (plain (codes "b")))
  pub autolink :
      Cuts (codes "<a@b.c>d")
      (two (atomic (Link (codes "mailto:a@b.c") [] (Text (codes "a@b.c") ∷ [])) (codes "<a@b.c>")) (plain (codes "d")))
  pub raw_html : Cuts (codes "a<b>c") (three (plain (codes "a")) (atomic (Html (codes "<b>")) (codes "<b>")) (plain (codes "c")))
  pub two_spaces : Cuts (codes "a  \nb") (three (plain (codes "a")) (atomic Hard (codes "  \n")) (plain (codes "b")))
  pub backslash : Cuts (codes "a\\\nb") (three (plain (codes "a")) (atomic Hard (codes "\\\n")) (plain (codes "b")))
  pub one_space : Cuts (codes "a \nb") (three (plain (codes "a")) (atomic Soft (codes " \n")) (plain (codes "b")))
  pub code_span_in_emphasis : Cuts (codes "*`a*`*") (one (star (one (atomic (Code (codes "a*")) (codes "`a*`")))))

-- The nodes start and end at these places, each before those inside it.
abbrev pub StandAt : Nodes → List (ℕ × ℕ) → Type 0
StandAt nodes places = map (λ (place : Place). (place.start, place.end)) (places_of nodes) ≡ places

-- Places of some of these nodes.
pub record PlaceExamples : Type 0 where
  pub escape_and_reference : StandAt (one (textual (codes "a*b & c") (codes "a\\*b &amp; c"))) ((0, 12) ∷ [])
  pub nested : StandAt (one (star (two (plain (codes "a ")) (stars b_alone)))) ((0, 9) ∷ (1, 3) ∷ (3, 8) ∷ (5, 6) ∷ [])
  pub titled :
      StandAt (two (link (codes "b") (codes "c") a_alone (codes "(b \"c\")")) (plain (codes "d"))) ((0, 10) ∷ (1, 2) ∷ (10, 11) ∷ [])
  pub image_in_a_link :
      StandAt (one (link (codes "c") [] (one (image (codes "b") [] a_alone (codes "(b)"))) (codes "(c)"))) ((0, 12) ∷ (1, 8) ∷ (3, 4) ∷ [])
  pub raw_html :
      StandAt (three (plain (codes "a")) (atomic (Html (codes "<b>")) (codes "<b>")) (plain (codes "c"))) ((0, 1) ∷ (1, 4) ∷ (4, 5) ∷ [])
