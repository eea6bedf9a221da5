-- How the source of a leaf is cut into its inlines (CommonMark 0.31.2, chapter 6): each has a piece of the source, those inside it have
-- pieces of that piece, and nothing is left over. An inline starts where the pieces before it end.
use Rattle.std.specs.Prelude.{◌≡◌, ℕ, zero, suc, Bool, true, false, ◌&&◌, ◌||◌, ◌==◌, List, [], ◌∷◌, ◌++◌, drop, replicate, Option, Some, None, codes, encode_utf8_all, ⊤}
use Rattle.std.specs.Str.{byte}
use Rattle.cm_text.specs.Rules.{Rules}
use Rattle.cm_text.specs.Unescaping.{special}
use Rattle.cm_tree.specs.declared.tree.Inline.{Inline}
use Rattle.cm_tree.specs.declared.tree.Inline.TheVariants.{Text, Link, Image}
use Rattle.cm_scan.specs.inlines.Atoms.{AtomRead, Whole, read, atom_at}
use Rattle.cm_scan.specs.inlines.Brackets.{Defined, link_end, end_at}
use Rattle.cm_scan.specs.inlines.Pairing.{bracket_text, emphasised}

-- An inline with its source: text; a code span, an autolink, raw HTML or a line break; inlines between characters of two delimiter runs;
-- and the inlines of a link or an image between its brackets, with what follows the `]`.
mutual
  pub data Node : Type 0 where
    textual : (text source : List ℕ) → Node
    atomic : Inline → (source : List ℕ) → Node
    emphasis : (character count : ℕ) → Nodes → Node
    bracketed : (image : Bool) → (dest title : List ℕ) → Nodes → (tail : List ℕ) → Node

  pub data Nodes : Type 0 where
    none : Nodes
    node : Node → Nodes → Nodes

abbrev pub link_or_image : (image : Bool) → (dest title : List ℕ) → List Inline → Inline
link_or_image false dest title inside = Link dest title inside
link_or_image true dest title inside = Image dest title inside

unfoldable mutual
  pub inline_of : Node → Inline
  inline_of (textual text source) = Text text
  inline_of (atomic inline source) = inline
  inline_of (emphasis character count inside) = emphasised character count (inlines_of inside)
  inline_of (bracketed image dest title inside tail) = link_or_image image dest title (inlines_of inside)

  pub inlines_of : Nodes → List Inline
  inlines_of none = []
  inlines_of (node n ns) = inline_of n ∷ inlines_of ns

unfoldable mutual
  pub source_of : Node → List ℕ
  source_of (textual text source) = source
  source_of (atomic inline source) = source
  source_of (emphasis character count inside) = replicate count character ++ (sources_of inside ++ replicate count character)
  source_of (bracketed image dest title inside tail) = bracket_text image ++ (sources_of inside ++ (codes "]" ++ tail))

  pub sources_of : Nodes → List ℕ
  sources_of none = []
  sources_of (node n ns) = source_of n ++ sources_of ns

-- what the escape or the reference at the start of a text is resolved to, or else its first byte; and what is left
abbrev pub first_resolved : ℕ → List ℕ → List ℕ × List ℕ
first_resolved b bs = elim (special (b ∷ bs)) [
  | Some found ↦ (encode_utf8_all found.0, drop found.1 (b ∷ bs))
  | None ↦ (b ∷ [], bs)
]

-- so many of these one after another, and what is left
unfoldable pub resolved : ℕ → List ℕ → List ℕ × List ℕ
resolved zero source = ([], source)
resolved (suc n) [] = ([], [])
resolved (suc n) (b ∷ bs) = let first = first_resolved b bs in let more = resolved n first.1 in (first.0 ++ more.0, more.1)

-- The source, where this comes after it, is this text with its escapes and references resolved.
abbrev pub IsTextOf : (text source after : List ℕ) → Type 0
IsTextOf text source after = (n : ℕ) × (resolved n (source ++ after) ≡ (text, after))

-- The atom at the start of a source, unless it is a delimiter run: what comes before matters only for those.
abbrev pub first_atom : Rules → List ℕ → Option AtomRead
first_atom rules [] = None
first_atom rules (b ∷ bs) = Some (atom_at rules [] b bs)

-- one character for emphasis, two for strong emphasis, and two tildes for strikethrough
abbrev pub encloses : (character count : ℕ) → Bool
encloses character count =
    (character == byte "*" || character == byte "_") && (count == 1 || count == 2) || character == byte "~" && count == 2

module _ (rules : Rules) (defined : Defined) where
  -- The source of a node, where this comes after it, is read as its inline: by its escapes and references; as one atom; as what is
  -- between the same characters; or as what is between brackets, with the end of a link or an image after the `]`.
  abbrev mutual
    pub IsCut : Node → (after : List ℕ) → Type 0
    IsCut (textual text source) after = IsTextOf text source after
    IsCut (atomic inline source) after = first_atom rules (source ++ after) ≡ read (Whole inline) after
    IsCut (emphasis character count inside) after =
        (encloses character count ≡ true) × AreCut inside (replicate count character ++ after)
    IsCut (bracketed image dest title inside tail) after =
        (end_at rules defined (sources_of inside) (tail ++ after) ≡ Some (link_end (dest, title) after))
        × AreCut inside (codes "]" ++ (tail ++ after))

    pub AreCut : Nodes → (after : List ℕ) → Type 0
    AreCut none after = ⊤
    AreCut (node n ns) after = IsCut n (sources_of ns ++ after) × AreCut ns after

  -- The source, where this comes after it, is cut into these nodes, and they have these inlines.
  pub record CutInto (nodes : Nodes) (inlines : List Inline) (source after : List ℕ) : Type 0 where
    pub inlines_are : inlines_of nodes ≡ inlines
    pub whole : sources_of nodes ≡ source
    pub cut : AreCut nodes after
