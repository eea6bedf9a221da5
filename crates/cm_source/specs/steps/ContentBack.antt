-- What inlines need of the bytes next to them so that their spelling reads back (CommonMark 0.31.2, chapter 6). The bytes before a
-- place have the last first.
use Rattle.std.specs.Prelude.{◌≡◌, ℕ, Bool, true, false, ◌&&◌, List, [], ◌∷◌, ◌++◌, map, reverse, Some, codes}
use Rattle.cm_text.specs.Rules.{Rules}
use Rattle.cm_text.specs.Addresses.{is_followed}
use Rattle.cm_text.specs.Unescaping.{unescape}
use Rattle.cm_tree.specs.declared.tree.Inline.{Inline}
use Rattle.cm_tree.specs.declared.tree.Inline.TheVariants.{Text, Code, Html, Soft, Hard, Link, Image}
use Rattle.cm_scan.specs.Words.{is_empty, begins_with, after_run}
use Rattle.cm_scan.specs.inlines.Pairing.{emphasised}
use Rattle.cm_scan.specs.inlines.Atoms.{run_between}
use Rattle.cm_scan.specs.inlines.Brackets.{Defined}
use Rattle.cm_scan.specs.inlines.Inlines.{inlines_of}
use Rattle.cm_source.specs.Texts.{spelled_text, spelled_bytes, spelled_target}
use Rattle.cm_source.specs.Inlines.{is_line_end, join, spelled, spelled_inlines, spelled_content}
use Rattle.cm_source.specs.InlineRefusals.{has_nul, has_line_ending, is_text, first_face, hold_link, is_one_tag, Judged, judged}

-- What is before and after the content of emphasis, of strong emphasis, and of a text that is struck through.
pub data Mark : Type 0 where
  Star : Mark
  TwoStars : Mark
  TwoTildes : Mark

abbrev pub character_of : Mark → ℕ
character_of Star = 42
character_of TwoStars = 42
character_of TwoTildes = 126

abbrev pub count_of : Mark → ℕ
count_of Star = 1
count_of TwoStars = 2
count_of TwoTildes = 2

abbrev pub written : Mark → List ℕ
written Star = codes "*"
written TwoStars = codes "**"
written TwoTildes = codes "~~"

-- tildes are marks where the rules have strikethrough
abbrev pub is_known : Rules → Mark → Bool
is_known rules Star = true
is_known rules TwoStars = true
is_known rules TwoTildes = rules.strike

-- Between these bytes a content has a mark on both sides: the first may open and the second may close, and neither continues.
pub record IsBetween (rules : Rules) (mark : Mark) (before content rest : List ℕ) : Type 0 where
  pub known : is_known rules mark ≡ true
  pub first_ends : begins_with (character_of mark) (content ++ written mark ++ rest) ≡ false
  pub second_ends : begins_with (character_of mark) rest ≡ false
  pub opens : (run_between rules (character_of mark) (count_of mark) before (content ++ written mark ++ rest)).opens ≡ true
  pub closes : (run_between rules (character_of mark) (count_of mark) (reverse content ++ written mark ++ before) rest).closes ≡ true

-- a line ends right after the spaces with which this starts, if there are any
abbrev pub is_before_line_end : List ℕ → Bool
is_before_line_end rest = begins_with 10 (after_run 32 rest)

-- a text right before a text
abbrev pub are_texts : Judged → List Judged → Bool
are_texts inline others = is_text (Some inline.face) && is_text (first_face others)

mutual
  -- An inline between these bytes, at the start and at the end of a line or not, where it may be emphasis or not.
  pub data Fits (rules : Rules) : (emphasis first last : Bool) → (before : List ℕ) → Inline → (rest : List ℕ) → Type 0 where
    FitsText : {emphasis first last : Bool} {before rest text : List ℕ}
        → is_empty text ≡ false → has_nul text ≡ false → (last ≡ false → is_before_line_end rest ≡ false)
        → Fits rules emphasis first last before (Text text) rest
    FitsCode : {emphasis first last : Bool} {before rest text : List ℕ}
        → is_empty text ≡ false → has_line_ending text ≡ false → begins_with 96 rest ≡ false
        → Fits rules emphasis first last before (Code text) rest
    FitsHtml : {emphasis first last : Bool} {before rest text : List ℕ} → is_one_tag rules text ≡ true → Fits rules emphasis first last before (Html text) rest
    FitsSoft : {emphasis first last : Bool} {before rest : List ℕ} → Fits rules emphasis first last before Soft rest
    FitsHard : {emphasis first last : Bool} {before rest : List ℕ} → Fits rules emphasis first last before Hard rest
    -- no emphasis is in emphasis
    FitsEmphasis : {first last : Bool} {before rest : List ℕ} {content : List Inline} (mark : Mark)
        → IsBetween rules mark before (spelled_inlines false false content) rest
        → FitsAll rules false false false (written mark ++ before) content (written mark ++ rest)
        → Fits rules true first last before (emphasised (character_of mark) (count_of mark) content) rest
    -- nor a link in a link
    FitsLink : {emphasis first last : Bool} {before rest dest title : List ℕ} {content : List Inline}
        → has_nul dest ≡ false → has_nul title ≡ false → hold_link (map (judged rules) content) ≡ false → is_followed rules dest ≡ true
        → FitsAll rules true false false (91 ∷ before) content (spelled_target dest title ++ rest)
        → Fits rules emphasis first last before (Link dest title content) rest
    FitsImage : {emphasis first last : Bool} {before rest dest title : List ℕ} {content : List Inline}
        → has_nul dest ≡ false → has_nul title ≡ false → is_followed rules dest ≡ true
        → FitsAll rules true false false (91 ∷ 33 ∷ before) content (spelled_target dest title ++ rest)
        → Fits rules emphasis first last before (Image dest title content) rest

  -- Inlines one after another, without two adjacent texts: each fits between those before it and those after it.
  pub data FitsAll (rules : Rules) : (emphasis first last : Bool) → (before : List ℕ) → List Inline → (rest : List ℕ) → Type 0 where
    FitsNone : {emphasis first last : Bool} {before rest : List ℕ} → FitsAll rules emphasis first last before [] rest
    FitsNext : {emphasis first last : Bool} {before rest : List ℕ} {next : Inline} {inlines : List Inline}
        → are_texts (judged rules next) (map (judged rules) inlines) ≡ false
        → Fits rules emphasis first (is_line_end last (map spelled inlines)) before next (join (spelled next).begins_line last (map spelled inlines) ++ rest)
        → FitsAll rules emphasis (spelled next).begins_line last (reverse ((spelled next).spelling first (is_line_end last (map spelled inlines))) ++ before) inlines rest
        → FitsAll rules emphasis first last before (next ∷ inlines) rest

-- The source of a content that fits is read as that content, whatever is defined.
abbrev pub FittingReadsBack : Type 0
FittingReadsBack = (rules : Rules) (defined : Defined) (content : List Inline) → FitsAll rules true true true [] content [] → inlines_of rules defined (spelled_content content) ≡ content

-- What is spelled for a text, a destination, a title or an info string is that text, once escapes and references are resolved.
abbrev pub TextUnescapes : Type 0
TextUnescapes = (first last : Bool) (text : List ℕ) → has_nul text ≡ false → unescape (spelled_text first last text) ≡ text

abbrev pub BytesUnescape : Type 0
BytesUnescape = (text : List ℕ) → has_nul text ≡ false → unescape (spelled_bytes text) ≡ text
