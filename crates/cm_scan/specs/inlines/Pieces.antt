-- A text among the items of a leaf can be cut into pieces without changing the inlines.
use Rattle.std.specs.Prelude.{◌≡◌, ℕ, List, [], ◌∷◌, map, reverse}
use Rattle.std.specs.List.{flat_map}
use Rattle.cm_text.specs.Rules.{Rules}
use Rattle.cm_scan.specs.inlines.Pairing.{Item, Characters, emphasis_of}
use Rattle.cm_scan.specs.inlines.Brackets.{Defined}
use Rattle.cm_scan.specs.inlines.Inlines.{items_after}

-- the bytes of a text, each as an item of its own
abbrev pub one_by_one : List ℕ → List Item
one_by_one text = map (λ b. Characters (b ∷ [])) text

-- an item, or if it is text its bytes
abbrev pub pieces_of : Item → List Item
pieces_of (Characters text) = one_by_one text
pieces_of item = item ∷ []

-- the items with each text cut into bytes
abbrev pub in_pieces : List Item → List Item
in_pieces items = flat_map pieces_of items

-- Emphasis is the same however the texts are cut.
abbrev pub TextsInPieces : Type 0
TextsInPieces = (items : List Item) → emphasis_of (in_pieces items) ≡ emphasis_of items

-- Items that differ only in how their texts are cut still differ only in that after more of the source is read.
abbrev pub ReadingInPieces : Type 0
ReadingInPieces = (rules : Rules) (defined : Defined) (n : ℕ) (before source : List ℕ) (items others : List Item)
    → in_pieces (reverse items) ≡ in_pieces (reverse others)
    → in_pieces (reverse (items_after rules defined n before source items)) ≡ in_pieces (reverse (items_after rules defined n before source others))
