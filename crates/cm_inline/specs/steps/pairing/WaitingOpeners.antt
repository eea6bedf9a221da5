-- The runs that wait as openers, with bottoms and looks. The number of the run at hand is the next one of the list.
use Rattle.std.specs.Prelude.{◌≡◌, ℕ, ◌≤◌, List, length, get_or}
use Rattle.cm_scan.specs.inlines.Pairing.{Item}
use Rattle.cm_inline.specs.Closers.{all_kinds}
use Rattle.cm_inline.specs.steps.Entries.{Listed, Below, Falling}
use Rattle.cm_inline.specs.steps.Searching.{AreSound}
use Rattle.cm_inline.specs.steps.pairing.Events.{Event}
use Rattle.cm_inline.specs.steps.pairing.Stacks.{Stacked}

-- the entries are the openers among the items, which the events stand for, and no entry below a bottom opens for a closer of its kind
pub record WaitAsOpeners (fs : List Event) (before : List Item) (l : Listed) (bottoms : List ℕ) : Type 0 where
  pub stacked : Stacked l.entries fs before
  pub falling : Falling l.entries
  pub under : Below l.next l.entries
  pub size : length bottoms ≡ all_kinds
  pub low : (k : ℕ) → get_or bottoms k 0 ≤ l.next
  pub sound : AreSound bottoms l.entries
