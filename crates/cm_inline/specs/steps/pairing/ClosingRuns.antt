-- The loops of the code on lists: a closer's pairs, and the pass over the runs that wait.
use Rattle.std.specs.Prelude.{◌≡◌, ℕ, ◌+◌, ◌<◌, ◌≤◌, nat_le, if◌then◌else◌, List, [], ◌∷◌, ◌++◌, length, drop, ⊤}
use Rattle.cm_scan.specs.inlines.Delimiters.{Run}
use Rattle.cm_scan.specs.inlines.Pairing.{Item, Delimiters}
use Rattle.cm_scan.specs.inlines.OnePass.{passed}
use Rattle.cm_inline.specs.steps.Depths.{item_depth}
use Rattle.cm_inline.specs.steps.Entries.{Listed}
use Rattle.cm_inline.specs.steps.Pairs.{items_emphases}
use Rattle.cm_inline.specs.steps.Searching.{kind, IsMarked, spent}
use Rattle.cm_inline.specs.steps.pairing.Events.{Event, Rest}
use Rattle.cm_inline.specs.steps.pairing.Parts.{Pair, PairedRun, Part, Numbered, Known, ends, events_of, AreParts, Rising}
use Rattle.cm_inline.specs.steps.pairing.Readings.{starts_in}
use Rattle.cm_inline.specs.steps.pairing.WaitingOpeners.{WaitAsOpeners}

-- the parts are of runs with numbers below this one
abbrev pub AreUnder : ℕ → List Part → Type 0
AreUnder n [] = ⊤
AreUnder n (Numbered k ∷ ms) = (k < n) × AreUnder n ms
AreUnder n (Known fs ∷ ms) = AreUnder n ms

-- what the code holds of runs and pairs
pub record State : Type 0 where
  pub runs : List PairedRun
  pub pairs : List Pair
  pub list : Listed
  pub bottoms : List ℕ

abbrev pub so_far : List Part → (first : ℕ) → State → List Event
so_far parts first s = events_of s.runs s.pairs parts ++ ends (drop first s.pairs)

-- Parts stand for items, the last first, with the ends of the pairs of a closer from the first one on.
pub record PartsHold (parts : List Part) (first : ℕ) (s : State) (before : List Item) : Type 0 where
  pub waits : WaitAsOpeners (so_far parts first s) before s.list s.bottoms
  pub marked : AreParts s.runs s.pairs parts
  pub under : AreUnder s.list.next parts
  pub rising : Rising 0 (so_far parts first s)
  pub early : first ≤ length s.pairs

-- While a run makes the pairs in which it closes: what is left of it comes with the items to what it would come to at first, its looks are paid for, and each pair adds at most one start.
pub record Closing (parts : List Part) (old : State) (run : Run) (had : List Item) (s : State) (c : Run) (before : List Item) : Type 0 where
  pub holds : PartsHold parts (length old.pairs) s before
  pub same : record run { left = c.left } ≡ c
  pub goes : passed before (Delimiters c) ≡ passed had (Delimiters run)
  pub paid : (kinds : ℕ) → kind run < kinds → spent kinds s.list s.bottoms ≤ spent kinds old.list old.bottoms
  pub made : old.list.looks + items_emphases before ≤ s.list.looks + items_emphases had
  pub next : s.list.next ≡ old.list.next
  pub long : length s.runs ≡ length old.runs
  pub starts : starts_in (events_of s.runs s.pairs parts) + length old.pairs ≤ starts_in (events_of old.runs old.pairs parts) + length s.pairs

-- a run comes that the pass has not come to yet
pub record RunComes (parts : List Part) (s : State) (run : Run) (had : List Item) : Type 0 where
  pub holds : PartsHold parts (length s.pairs) s had
  pub mark : IsMarked run
  pub some : 1 ≤ run.left

-- how deep the last item nests
abbrev pub last_depth : List Item → ℕ
last_depth [] = 0
last_depth (item ∷ before) = item_depth item

-- A closer that goes on, with the items before it. Each of its pairs wraps the one before.
pub record CloserGoesOn (parts : List Part) (old : State) (run : Run) (had : List Item) (s : State) (c : Run) : Type 0 where
  pub before : List Item
  pub closing : Closing parts old run had s c before
  pub nested : length s.pairs ≤ length old.pairs + last_depth before

-- A closer is done: what is left of it, with the items before it, is what the pass makes of it.
pub record CloserDone (parts : List Part) (old : State) (run : Run) (had : List Item) (s : State) (left : ℕ) : Type 0 where
  pub before : List Item
  pub rest : List Item
  pub holds : PartsHold parts (length old.pairs) s before
  pub goes : rest ++ before ≡ passed had (Delimiters run)
  pub rest_is : rest ≡ (if nat_le left 0 then [] else Delimiters (record run { left = left }) ∷ [])
  pub paid : (kinds : ℕ) → kind run < kinds → spent kinds s.list s.bottoms ≤ spent kinds old.list old.bottoms
  pub made : old.list.looks + items_emphases before ≤ s.list.looks + items_emphases had
  pub starts : starts_in (events_of s.runs s.pairs parts) + length old.pairs ≤ starts_in (events_of old.runs old.pairs parts) + length s.pairs

-- Its part is added at the end, with what is left of it, and the entries are as they were for the items before it.
pub record PartAdded (parts : List Part) (old : State) (run : Run) (had : List Item) (s : State) (number left : ℕ) : Type 0 where
  pub events : List Event
  pub before : List Item
  pub rest : List Item
  pub waits : WaitAsOpeners events before s.list s.bottoms
  pub whole : so_far (parts ++ Numbered number ∷ []) (length s.pairs) s ≡ events ++ Rest number (record run { left = left }) ∷ []
  pub marked : AreParts s.runs s.pairs (parts ++ Numbered number ∷ [])
  pub under : AreUnder number parts
  pub rising : Rising 0 (events ++ Rest number (record run { left = left }) ∷ [])
  pub goes : rest ++ before ≡ passed had (Delimiters run)
  pub rest_is : rest ≡ (if nat_le left 0 then [] else Delimiters (record run { left = left }) ∷ [])
  pub paid : (kinds : ℕ) → kind run < kinds → spent kinds s.list s.bottoms ≤ spent kinds old.list old.bottoms
  pub made : old.list.looks + items_emphases before ≤ s.list.looks + items_emphases had
  pub starts : starts_in events + length old.pairs ≤ starts_in (events_of old.runs old.pairs parts) + length s.pairs

-- and the pass goes on after it
pub record PassGoesOn (parts : List Part) (old : State) (run : Run) (had : List Item) (s : State) (number : ℕ) : Type 0 where
  pub holds : PartsHold (parts ++ Numbered number ∷ []) (length s.pairs) s (passed had (Delimiters run))
  pub paid : (kinds : ℕ) → kind run < kinds → spent kinds s.list s.bottoms ≤ spent kinds old.list old.bottoms + (kinds + 1 + run.left)
  pub made : old.list.looks + items_emphases (passed had (Delimiters run)) ≤ s.list.looks + items_emphases had
  pub starts : starts_in (events_of s.runs s.pairs (parts ++ Numbered number ∷ [])) + length old.pairs ≤ starts_in (events_of old.runs old.pairs parts) + length s.pairs
