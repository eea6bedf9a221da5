-- What the sources of contents and info strings are, so that their blocks read back.
use Rattle.std.specs.Prelude.{◌≡◌, ⊤, ℕ, Bool, true, false, not, ◌&&◌, ◌||◌, List, [], ◌∷◌, None, ◌==◌}
use Rattle.std.specs.List.{list_all, list_any}
use Rattle.cm_text.specs.Rules.{Rules}
use Rattle.cm_tree.specs.declared.tree.Inline.{Inline}
use Rattle.cm_tree.specs.Followed.{is_read_info}
use Rattle.cm_scan.specs.blocks.Parts.{info_of}
use Rattle.cm_scan.specs.Words.{is_space_or_tab, trim, trim_end}
use Rattle.cm_scan.specs.blocks.LineForms.{without_closing, underline}
use Rattle.cm_scan.specs.inlines.Links.{definitions_of}
use Rattle.cm_scan.specs.blocks.Starts.{TextLine, start_of_content}
use Rattle.cm_scan.specs.laws.BlockLaws.{is_unindented}
use Rattle.cm_source.specs.InlineRefusals.{paragraph_refusal, heading_refusal, has_nul}
use Rattle.cm_source.specs.Inlines.{spelled_content}
use Rattle.cm_source.specs.Spelling.{parted_lines}
use Rattle.cm_source.specs.Texts.{spelled_text}

-- nothing but one character, spaces and tabs
abbrev pub is_only : ℕ → List ℕ → Bool
is_only marker text = list_all (λ b. b == marker || is_space_or_tab b) text

-- neither U+0000 nor a carriage return; and no line feed either
abbrev pub is_clean : List ℕ → Bool
is_clean text = list_all (λ b. not (b == 0) && not (b == 13)) text

abbrev pub is_one_line : List ℕ → Bool
is_one_line text = list_all (λ b. not (b == 0) && (not (b == 10) && not (b == 13))) text

-- a line of a paragraph that isn't its first
pub record IsTextLine (rules : Rules) (line : List ℕ) : Type 0 where
  pub bare : is_unindented line ≡ true
  pub starts : start_of_content rules line ≡ TextLine
  pub no_underline : underline line ≡ None

abbrev pub AllTextLines : Rules → List (List ℕ) → Type 0
AllTextLines rules [] = ⊤
AllTextLines rules (line ∷ lines) = IsTextLine rules line × AllTextLines rules lines

-- the source of a paragraph: its first line stays text after a bullet too
pub record IsParagraphSource (rules : Rules) (source : List ℕ) : Type 0 where
  pub clean : is_clean source ≡ true
  pub first : List ℕ
  pub further : List (List ℕ)
  pub lines : parted_lines source ≡ first ∷ further
  pub bare : is_unindented first ≡ true
  pub starts : start_of_content rules first ≡ TextLine
  pub no_dashes : is_only 45 first ≡ false
  pub no_stars : is_only 42 first ≡ false
  pub others : AllTextLines rules further
  pub trimmed : trim_end source ≡ source
  pub defines_nothing : definitions_of source ≡ record { taken = []; left = source }

-- the source of a heading's content, which may be empty: no run of `#` closes it
pub record IsHeadingSource (content : List ℕ) : Type 0 where
  pub clean : is_one_line content ≡ true
  pub trimmed : trim content ≡ content
  pub unclosed : without_closing true content ≡ content

-- the source of an info string, which may be empty
pub record IsInfoSource (info : List ℕ) : Type 0 where
  pub clean : is_one_line info ≡ true
  pub trimmed : trim info ≡ info
  pub no_backtick : list_any (λ b. b == 96) info ≡ false

-- The contents and info strings of trees that can be spelled are spelled as such sources.
pub record ContentsGiveSources (rules : Rules) : Type 0 where
  pub paragraphs : (content : List Inline) → paragraph_refusal rules content ≡ None → list_any (λ i. true) content ≡ true → IsParagraphSource rules (spelled_content content)
  pub headings : (content : List Inline) → heading_refusal rules content ≡ None → IsHeadingSource (spelled_content content)
  pub infos : (info : List ℕ) → has_nul info ≡ false → IsInfoSource (spelled_text true true info)
  pub infos_back : (info : List ℕ) → has_nul info ≡ false → is_read_info rules info ≡ true → info_of rules (spelled_text true true info) ≡ info
