-- The looks that pairs of delimiter runs among items take.
use Rattle.std.specs.Prelude.{ℕ, ◌+◌, ◌<◌, ◌≤◌, List, [], ◌∷◌, map, sum_by, ⊤}
use Rattle.cm_scan.specs.inlines.Pairing.{Item, Finished, Linked, Delimiters}
use Rattle.cm_inline.specs.Emphases.{sum, emphases_of}
use Rattle.cm_inline.specs.steps.Searching.{kind}

-- The looks for which items pay, where closers are of the given number of kinds: for each run one in vain for each kind, one for its removal, and
-- one for each of its characters.
abbrev pub allowed : (kinds : ℕ) → Item → ℕ
allowed kinds (Delimiters run) = kinds + 1 + run.left
allowed kinds _ = 0

abbrev pub allowance : (kinds : ℕ) → List Item → ℕ
allowance kinds items = sum_by (allowed kinds) items

-- the runs among items are of the first kinds, of which there is the given number
abbrev pub IsOf : (kinds : ℕ) → Item → Type 0
IsOf kinds (Delimiters run) = kind run < kinds
IsOf kinds _ = ⊤

abbrev pub AreOf : (kinds : ℕ) → List Item → Type 0
AreOf kinds [] = ⊤
AreOf kinds (item ∷ items) = IsOf kinds item × AreOf kinds items

-- how many of emphasis, strong emphasis and strikethrough are finished among items
abbrev pub item_emphases : Item → ℕ
item_emphases (Finished inline) = emphases_of inline
item_emphases (Linked inline) = emphases_of inline
item_emphases _ = 0

abbrev pub items_emphases : List Item → ℕ
items_emphases items = sum (map item_emphases items)

-- The looks at the end, where items become what holds the given number of emphases: the items pay for those that were added, and each emphasis
-- that was made took one.
pub record AreLooks (looks : ℕ) (items : List Item) (later emphases : ℕ) : Type 0 where
  pub paid : (kinds : ℕ) → AreOf kinds items → later ≤ looks + allowance kinds items
  pub made : looks + emphases ≤ later + items_emphases items

-- Items come to others with more looks: those for which the items pay are still enough, and each emphasis that was made took one.
pub record Keeps (looks : ℕ) (items : List Item) (later : ℕ) (others : List Item) : Type 0 where
  pub are : (kinds : ℕ) → AreOf kinds items → AreOf kinds others
  pub paid : (kinds : ℕ) → AreOf kinds items → later + allowance kinds others ≤ looks + allowance kinds items
  pub made : looks + items_emphases others ≤ later + items_emphases items
