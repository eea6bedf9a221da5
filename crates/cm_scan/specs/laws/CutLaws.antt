-- Laws of how the source of a leaf is cut into its inlines.
use Rattle.std.specs.Prelude.{◌≡◌, ℕ, suc, ◌≤◌, Bool, true, not, ◌&&◌, ◌==◌, List, [], ◌∷◌, ◌++◌, replicate, codes, ◌⊎◌}
use Rattle.std.specs.List.{All, list_all}
use Rattle.std.specs.Str.{byte, IsUtf8, IsCharBoundary}
use Rattle.cm_text.specs.Rules.{Rules}
use Rattle.cm_tree.specs.declared.tree.Inline.{Inline, Inline-F, out-Inline}
use Rattle.cm_tree.specs.declared.tree.Inline.TheOpen as inline
use Rattle.cm_tree.specs.declared.tree.Inline.TheVariants.{Text}
use Rattle.cm_scan.specs.spans.CodeSpans.{one_line, stripped}
use Rattle.cm_scan.specs.inlines.Brackets.{Defined}
use Rattle.cm_scan.specs.inlines.Inlines as inlines
use Rattle.cm_scan.specs.inlines.Cuts.{Nodes, textual, atomic, bracketed, IsCut, CutInto}
use Rattle.cm_scan.specs.inlines.Places.{Place, places_of}

-- The source of each leaf is cut into the inlines that are read from it.
abbrev pub SourcesAreCut : Type 0
SourcesAreCut = (rules : Rules) (defined : Defined) (source : List ℕ)
    → (nodes : Nodes) × CutInto rules defined nodes (inlines.inlines_of rules defined source) source []

-- A source is cut into given inlines in one way at most.
abbrev pub OneCut : Type 0
OneCut = (rules : Rules) (defined : Defined) (inlines : List Inline) (source after : List ℕ) (nodes others : Nodes)
    → CutInto rules defined nodes inlines source after → CutInto rules defined others inlines source after → nodes ≡ others

-- a byte with which neither an escape nor a reference starts
abbrev pub is_itself : ℕ → Bool
is_itself b = not (b == byte "\\") && not (b == byte "&")

-- A text without escapes and references is its source.
abbrev pub PlainTextsAreSources : Type 0
PlainTextsAreSources = (rules : Rules) (defined : Defined) (text source after : List ℕ)
    → IsCut rules defined (textual text source) after → list_all is_itself source ≡ true → text ≡ source

-- the words, with something between them
abbrev pub IsBetween : (front back text : List ℕ) → Type 0
IsBetween front back text = (inside : List ℕ) × (text ≡ front ++ (inside ++ back))

-- How an atom is written: a code span as its content between two backtick strings of equal length; an autolink as its text, which is its
-- destination except for `mailto:`, between `<` and `>`; raw HTML as it is, from `<` to `>`; a soft line break as a line feed after at most
-- one space; and a hard line break as a line feed after two spaces or more, or after a backslash.
abbrev pub IsWritten : Inline-F Inline → (source : List ℕ) → Type 0
IsWritten (inline.Code text) source =
    (n : ℕ) × (content : List ℕ) × (source ≡ replicate (suc n) (byte "`") ++ (content ++ replicate (suc n) (byte "`")))
    × (text ≡ stripped (one_line content))
IsWritten (inline.Link dest title content) source =
    (text : List ℕ) × (source ≡ codes "<" ++ (text ++ codes ">")) × ((dest ≡ text) ⊎ (dest ≡ codes "mailto:" ++ text))
    × (title ≡ []) × (content ≡ Text text ∷ [])
IsWritten (inline.Html text) source = (source ≡ text) × IsBetween (codes "<") (codes ">") source
IsWritten inline.Soft source = (n : ℕ) × (n ≤ 1) × (source ≡ replicate n (byte " ") ++ codes "\n")
IsWritten inline.Hard source = ((n : ℕ) × (2 ≤ n) × (source ≡ replicate n (byte " ") ++ codes "\n")) ⊎ (source ≡ codes "\\\n")
IsWritten _ source = ⊥

abbrev pub AtomsAreWritten : Type 0
AtomsAreWritten = (rules : Rules) (defined : Defined) (inline : Inline) (source after : List ℕ)
    → IsCut rules defined (atomic inline source) after → IsWritten (out-Inline inline) source

-- what follows the `]` of a link or an image: nothing, or a part in parentheses or in brackets
abbrev pub IsTail : List ℕ → Type 0
IsTail tail = (tail ≡ []) ⊎ IsBetween (codes "(") (codes ")") tail ⊎ IsBetween (codes "[") (codes "]") tail

abbrev pub TailsAreWritten : Type 0
TailsAreWritten = (rules : Rules) (defined : Defined) (image : Bool) (dest title : List ℕ) (inside : Nodes) (tail after : List ℕ)
    → IsCut rules defined (bracketed image dest title inside tail) after → IsTail tail

-- In a source in UTF-8 each inline starts and ends between characters.
abbrev pub PlacesPartCharacters : Type 0
PlacesPartCharacters = (rules : Rules) (defined : Defined) (source : List ℕ) (nodes : Nodes)
    → CutInto rules defined nodes (inlines.inlines_of rules defined source) source [] → IsUtf8 source
    → All (λ (place : Place). IsCharBoundary source place.start × IsCharBoundary source place.end) (places_of nodes)
