-- The entries of the delimiter list among events, the last first. Items have the last first.
use Rattle.std.specs.Prelude.{◌≡◌, ℕ, ◌-◌, Bool, true, false, List, [], ◌∷◌, ◌++◌, reverse, if◌then◌else◌, nat_le, ⊤}
use Rattle.cm_scan.specs.inlines.Delimiters.{Run}
use Rattle.cm_scan.specs.inlines.Pairing.{Item, Delimiters}
use Rattle.cm_inline.specs.steps.Entries.{Entry}
use Rattle.cm_inline.specs.steps.pairing.Events.{Event, Rest}
use Rattle.cm_inline.specs.steps.pairing.Readings.{StandFor}

-- no item is a run that may open
abbrev pub opens : Item → Bool
opens (Delimiters run) = run.opens
opens _ = false

unfoldable pub NoneOpens : List Item → Type 0
NoneOpens [] = ⊤
NoneOpens (item ∷ items) = (opens item ≡ false) × NoneOpens items

-- The last entry: what is left of its run holds among the events, with what holds for the items after it, none of which opens.
pub record Level (Below : List Event → List Item → Type 0) (e : Entry) (fs : List Event) (items : List Item) : Type 0 where
  pub front : List Event
  pub back : List Event
  pub low : List Item
  pub inside : List Item
  pub events : fs ≡ front ++ Rest e.place e.run ∷ back
  pub whole : items ≡ inside ++ Delimiters e.run ∷ low
  pub means : StandFor back (reverse inside)
  pub none : NoneOpens inside
  pub may : e.run.opens ≡ true
  pub below : Below front low

-- the entries are the openers among the items, and where each holds among the events
abbrev pub Stacked : List Entry → List Event → List Item → Type 0
Stacked [] fs items = StandFor fs (reverse items) × NoneOpens items
Stacked (e ∷ es) fs items = Level (Stacked es) e fs items

-- a run with this many characters fewer
abbrev pub taken : ℕ → Run → Run
taken n r = record r { left = r.left - n }

-- what is left of an entry, if anything is
abbrev pub rest_of : ℕ → Entry → List Entry
rest_of n e = if nat_le e.run.left n then [] else record e { run = taken n e.run } ∷ []
