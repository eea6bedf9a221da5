-- Parts as the code holds them: runs by their numbers, and pairs, of which a run's starts are a chain and its ends a range.
use Rattle.std.specs.Prelude.{◌≡◌, ℕ, suc, ◌+◌, ◌≤◌, ◌<◌, false, ◌==◌, if◌then◌else◌, List, [], ◌∷◌, ◌++◌, length, take, drop, map, reverse, get_or, set, ⊤}
use Rattle.cm_scan.specs.inlines.Delimiters.{Run}
use Rattle.cm_inline.specs.steps.pairing.Events.{Event, Rest, Tag, Start, End}
use Rattle.cm_inline.specs.steps.pairing.Stacks.{taken}

-- a pair: what it makes, and the number of the pair in which its opener was before, counted from 1
pub record Pair : Type 0 where
  pub tag : Tag
  pub before : ℕ

-- a run, the last pair in which it opens, counted from 1, and the range of those in which it closes
pub record PairedRun : Type 0 where
  pub run : Run
  pub opened : ℕ
  pub from : ℕ
  pub to : ℕ

-- a part: a run by its number, or anything else
pub data Part : Type 0 where
  Numbered : ℕ → Part
  Known : List Event → Part

-- the starts from a pair on; the pairs have the last first
unfoldable pub chain : List Pair → ℕ → List Event
chain [] n = []
chain (p ∷ ps) n = if n == suc (length ps) then Start p.tag ∷ chain ps p.before else chain ps n

abbrev pub starts : List Pair → ℕ → List Event
starts pairs n = chain (reverse pairs) n

abbrev pub ends : List Pair → List Event
ends pairs = map (λ p. End p.tag) pairs

abbrev pub ends_between : List Pair → (from to : ℕ) → List Event
ends_between pairs from to = ends (drop from (take to pairs))

abbrev pub no_run : PairedRun
no_run = record { run = record { character = 0; whole = 0; left = 0; opens = false; closes = false }; opened = 0; from = 0; to = 0 }

abbrev pub run_events : List Pair → ℕ → PairedRun → List Event
run_events pairs number r = ends_between pairs r.from r.to ++ Rest number r.run ∷ starts pairs r.opened

abbrev pub part_events : List PairedRun → List Pair → Part → List Event
part_events runs pairs (Numbered n) = run_events pairs n (get_or runs n no_run)
part_events runs pairs (Known fs) = fs

unfoldable pub events_of : List PairedRun → List Pair → List Part → List Event
events_of runs pairs [] = []
events_of runs pairs (m ∷ ms) = part_events runs pairs m ++ events_of runs pairs ms

-- what the code writes for a pair: the pair, and its opener
abbrev pub with_pair : Tag → (opener : ℕ) → List PairedRun → List Pair → List Pair
with_pair tag opener runs pairs = pairs ++ record { tag = tag; before = (get_or runs opener no_run).opened } ∷ []

abbrev pub with_opened : (opener count : ℕ) → List PairedRun → List Pair → List PairedRun
with_opened opener count runs pairs = let r = get_or runs opener no_run in set runs opener (record { run = taken count r.run; opened = length pairs + 1; from = r.from; to = r.to })

-- what that is among events
abbrev pub opened_event : (number count : ℕ) → Tag → Event → List Event
opened_event number count tag (Rest n r) = if n == number then Rest n (taken count r) ∷ Start tag ∷ [] else Rest n r ∷ []
opened_event number count tag f = f ∷ []

unfoldable pub open_at : (number count : ℕ) → Tag → List Event → List Event
open_at number count tag [] = []
open_at number count tag (f ∷ fs) = opened_event number count tag f ++ open_at number count tag fs

-- no run of this number is left
abbrev pub IsNot : ℕ → Event → Type 0
IsNot number (Rest n r) = (n == number) ≡ false
IsNot number f = ⊤

abbrev pub Absent : ℕ → List Event → Type 0
Absent number [] = ⊤
Absent number (f ∷ fs) = IsNot number f × Absent number fs

-- the numbers of runs rise
abbrev pub Rising : ℕ → List Event → Type 0
Rising low [] = ⊤
Rising low (Rest n r ∷ fs) = (low ≤ n) × Rising (suc n) fs
Rising low (f ∷ fs) = Rising low fs

-- no run is left
abbrev pub IsNoRun : Event → Type 0
IsNoRun (Rest n r) = ⊥
IsNoRun f = ⊤

abbrev pub HaveNoRun : List Event → Type 0
HaveNoRun [] = ⊤
HaveNoRun (f ∷ fs) = IsNoRun f × HaveNoRun fs

-- parts with these runs and pairs are well made
abbrev pub AreParts : List PairedRun → List Pair → List Part → Type 0
AreParts runs pairs [] = ⊤
AreParts runs pairs (Numbered n ∷ ms) = (n < length runs) × ((get_or runs n no_run).opened ≤ length pairs) × ((get_or runs n no_run).to ≤ length pairs) × AreParts runs pairs ms
AreParts runs pairs (Known fs ∷ ms) = HaveNoRun fs × AreParts runs pairs ms
