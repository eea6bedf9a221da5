-- A leaf as far as it is read, or what a pass has yet to come to: its items, each with the parts that stand for it.
use Rattle.std.specs.Prelude.{◌≡◌, ℕ, ◌+◌, ◌<◌, ◌≤◌, Bool, true, false, List, [], ◌∷◌, ◌++◌, ⊤, get_or, length}
use Rattle.cm_scan.specs.inlines.Delimiters.{Run}
use Rattle.cm_scan.specs.inlines.Pairing.{Item, Delimiters}
use Rattle.cm_inline.specs.steps.pairing.Readings.{StandFor}
use Rattle.cm_inline.specs.steps.pairing.Parts.{Pair, PairedRun, Part, Numbered, no_run, events_of, AreParts, Rising}
use Rattle.cm_inline.specs.steps.pairing.ClosingRuns.{AreUnder}

-- a run that nothing was made of yet, by its number; and any other item with its parts, and the number below which those of its runs are
pub data Segment : Type 0 where
  Waiting : (number : ℕ) → Run → Segment
  Made : (parts : List Part) → Item → (high : ℕ) → Segment

abbrev pub item_in : Segment → Item
item_in (Waiting number run) = Delimiters run
item_in (Made parts item high) = item

abbrev pub parts_in : Segment → List Part
parts_in (Waiting number run) = Numbered number ∷ []
parts_in (Made parts item high) = parts

unfoldable pub items_in : List Segment → List Item
items_in [] = []
items_in (s ∷ ss) = item_in s ∷ items_in ss

unfoldable pub all_parts : List Segment → List Part
all_parts [] = []
all_parts (s ∷ ss) = parts_in s ++ all_parts ss

-- the numbers of the runs that wait, as the code holds them
unfoldable pub numbers_in : List Segment → List ℕ
numbers_in [] = []
numbers_in (Waiting number run ∷ ss) = number ∷ numbers_in ss
numbers_in (Made parts item high ∷ ss) = numbers_in ss

abbrev pub is_run : Item → Bool
is_run (Delimiters run) = true
is_run _ = false

abbrev pub fresh : Run → PairedRun
fresh run = record { run = run; opened = 0; from = 0; to = 0 }

-- the parts of an item that is no run stand for it, and so they do with what follows
pub record IsMade (runs : List PairedRun) (pairs : List Pair) (low : ℕ) (parts : List Part) (item : Item) (high : ℕ) : Type 0 where
  pub means : StandFor (events_of runs pairs parts) (item ∷ [])
  pub other : is_run item ≡ false
  pub marked : AreParts runs pairs parts
  pub rising : Rising low (events_of runs pairs parts)
  pub under : AreUnder high parts
  pub high_is : low ≤ high

-- the segments with these runs and pairs, from a number of a run on
abbrev pub AreSegments : List PairedRun → List Pair → ℕ → List Segment → Type 0
AreSegments runs pairs low [] = ⊤
AreSegments runs pairs low (Waiting number run ∷ ss) = (low ≤ number) × (number < length runs) × (get_or runs number no_run ≡ fresh run) × AreSegments runs pairs (number + 1) ss
AreSegments runs pairs low (Made parts item high ∷ ss) = IsMade runs pairs low parts item high × AreSegments runs pairs high ss
