-- Where the inlines of a leaf are in its source: how many bytes are before each, and how many up to its end.
use Rattle.std.specs.Prelude.{◌≡◌, ℕ, ◌+◌, ◌≤◌, List, [], ◌∷◌, ◌++◌, length, ⊤, ◌⊎◌}
use Rattle.std.specs.List.{All, slice_range}
use Rattle.cm_scan.specs.inlines.Pairing.{bracket_text}
use Rattle.cm_scan.specs.inlines.Cuts.{Node, textual, atomic, emphasis, bracketed, Nodes, none, node, source_of, sources_of}

-- a node, the place of its first byte, and the place after its last byte
pub record Place : Type 0 where
  pub of : Node
  pub start : ℕ
  pub end : ℕ

abbrev pub place_at : ℕ → Node → Place
place_at start n = record { of = n; start = start; end = start + length (source_of n) }

-- The places of nodes, the first of them at this start: a node comes before those inside it.
unfoldable mutual
  pub places_at : (start : ℕ) → Node → List Place
  places_at start (textual text source) = place_at start (textual text source) ∷ []
  places_at start (atomic inline source) = place_at start (atomic inline source) ∷ []
  places_at start (emphasis character count inside) = place_at start (emphasis character count inside) ∷ places_from (start + count) inside
  places_at start (bracketed image dest title inside tail) =
      place_at start (bracketed image dest title inside tail) ∷ places_from (start + length (bracket_text image)) inside

  pub places_from : (start : ℕ) → Nodes → List Place
  places_from start none = []
  places_from start (node n ns) = places_at start n ++ places_from (start + length (source_of n)) ns

-- the places of the nodes into which a source is cut, each before those inside it
abbrev pub places_of : Nodes → List Place
places_of nodes = places_from 0 nodes

-- The bytes at each place of a source are the source of its node.
abbrev pub PlacesAreSources : Type 0
PlacesAreSources = (nodes : Nodes)
    → All (λ (place : Place). slice_range (sources_of nodes) place.start place.end ≡ source_of place.of) (places_of nodes)

-- Each place is within the source.
abbrev pub PlacesAreWithin : Type 0
PlacesAreWithin = (nodes : Nodes)
    → All (λ (place : Place). (place.start ≤ place.end) × (place.end ≤ length (sources_of nodes))) (places_of nodes)

-- a place is inside another, or after it, and doesn't start before it
abbrev pub IsInsideOrAfter : Place → Place → Type 0
IsInsideOrAfter other place = (other.start ≤ place.start) × ((place.end ≤ other.end) ⊎ (other.end ≤ place.start))

-- Each place is inside any earlier one, or after it.
abbrev pub AreNested : List Place → Type 0
AreNested [] = ⊤
AreNested (place ∷ places) = All (IsInsideOrAfter place) places × AreNested places

-- The places of nodes are nested, so no two overlap otherwise.
abbrev pub PlacesAreNested : Type 0
PlacesAreNested = (nodes : Nodes) → AreNested (places_of nodes)
