-- The items of a leaf while it is read, each with its source.
use Rattle.std.proofs.Common.{◌≡◌, ℕ, Bool, true, false, ◌&&◌, List, [], ◌∷◌, ◌++◌, replicate, refl, sym, ap, subst, ◌∙◌, append_assoc}
use Rattle.std.specs.Prelude.{⊤}
use Rattle.cm_text.specs.Rules.{Rules}
use Rattle.cm_scan.specs.inlines.Brackets.{Defined}
use Rattle.cm_scan.specs.inlines.Delimiters.{Run}
use Rattle.cm_scan.specs.inlines.Pairing.{Item, Characters, Finished, Linked, Delimiters, Opener, bracket_text}
use Rattle.cm_scan.specs.inlines.Cuts.{Node, textual, atomic, emphasis, bracketed, Nodes, none, node, inline_of, source_of, IsTextOf, IsCut}
use Rattle.cm_scan.proofs.lemmas.cuts.AtomsTaken.{may_be_left}

-- No two texts are next to each other.

abbrev pub is_text : Node → Bool
is_text (textual text source) = true
is_text _ = false

abbrev pub starts_with_text : Nodes → Bool
starts_with_text none = false
starts_with_text (node n ns) = is_text n

abbrev mutual
  pub ApartInside : Node → Type 0
  ApartInside (textual text source) = ⊤
  ApartInside (atomic inline source) = ⊤
  ApartInside (emphasis character count inside) = AreApart inside
  ApartInside (bracketed image dest title inside tail) = AreApart inside

  pub AreApart : Nodes → Type 0
  AreApart none = ⊤
  AreApart (node n ns) = ((is_text n && starts_with_text ns) ≡ false) × ApartInside n × AreApart ns

-- an item with its source
pub data Placed : Type 0 where
  characters : (text source : List ℕ) → Placed
  finished : Node → Placed
  linked : Node → Placed
  waiting : Run → Placed
  opener : (image : Bool) → (after : List ℕ) → Placed

abbrev pub item_of : Placed → Item
item_of (characters text source) = Characters text
item_of (finished n) = Finished (inline_of n)
item_of (linked n) = Linked (inline_of n)
item_of (waiting run) = Delimiters run
item_of (opener image after) = Opener image after

abbrev pub piece_of : Placed → List ℕ
piece_of (characters text source) = source
piece_of (finished n) = source_of n
piece_of (linked n) = source_of n
piece_of (waiting run) = replicate run.left run.character
piece_of (opener image after) = bracket_text image

unfoldable pub items_of : List Placed → List Item
items_of [] = []
items_of (p ∷ ps) = item_of p ∷ items_of ps

unfoldable pub pieces_of : List Placed → List ℕ
pieces_of [] = []
pieces_of (p ∷ ps) = piece_of p ++ pieces_of ps

pub items-join : (ps qs : List Placed) → items_of (ps ++ qs) ≡ items_of ps ++ items_of qs
unfolding items_of
items-join [] qs = refl
items-join (p ∷ ps) qs = ap (λ t. item_of p ∷ t) (items-join ps qs)

pub pieces-join : (ps qs : List Placed) → pieces_of (ps ++ qs) ≡ pieces_of ps ++ pieces_of qs
unfolding pieces_of
pieces-join [] qs = refl
pieces-join (p ∷ ps) qs = ap (λ t. piece_of p ++ t) (pieces-join ps qs) ∙ sym (append_assoc (piece_of p) (pieces_of ps) (pieces_of qs))

context : (ps qs : List Placed) (after : List ℕ) → pieces_of ps ++ (pieces_of qs ++ after) ≡ pieces_of (ps ++ qs) ++ after
context ps qs after = sym (append_assoc (pieces_of ps) (pieces_of qs) after) ∙ ap (λ t. t ++ after) (sym (pieces-join ps qs))

module _ (rules : Rules) (defined : Defined) where
  -- The source of an item, where this comes after it, is read as the item.
  abbrev pub IsPlaced : Placed → (after : List ℕ) → Type 0
  IsPlaced (characters text source) after = IsTextOf text source after
  IsPlaced (finished n) after = IsCut rules defined n after × (is_text n ≡ false) × ApartInside n
  IsPlaced (linked n) after = IsCut rules defined n after × (is_text n ≡ false) × ApartInside n
  IsPlaced (waiting run) after = may_be_left run.character run.left ≡ true
  IsPlaced (opener image seen) after = seen ≡ after

  abbrev pub ArePlaced : List Placed → (after : List ℕ) → Type 0
  ArePlaced [] after = ⊤
  ArePlaced (p ∷ ps) after = IsPlaced p (pieces_of ps ++ after) × ArePlaced ps after

  pub are-joined : (ps qs : List Placed) (after : List ℕ) → ArePlaced ps (pieces_of qs ++ after) → ArePlaced qs after
      → ArePlaced (ps ++ qs) after
  are-joined [] qs after v w = w
  are-joined (p ∷ ps) qs after v w = (subst (IsPlaced p) (context ps qs after) v.0, are-joined ps qs after v.1 w)

  pub are-front : (ps qs : List Placed) (after : List ℕ) → ArePlaced (ps ++ qs) after → ArePlaced ps (pieces_of qs ++ after)
  are-front [] qs after w = tt
  are-front (p ∷ ps) qs after w = (subst (IsPlaced p) (sym (context ps qs after)) w.0, are-front ps qs after w.1)

  pub are-back : (ps qs : List Placed) (after : List ℕ) → ArePlaced (ps ++ qs) after → ArePlaced qs after
  are-back [] qs after w = w
  are-back (p ∷ ps) qs after w = are-back ps qs after w.1
