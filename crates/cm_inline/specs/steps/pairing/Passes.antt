-- What a pass makes of the runs that wait from a place on.
use Rattle.std.specs.Prelude.{◌≡◌, ℕ, ◌+◌, ◌^◌, ◌<◌, ◌≤◌, List, [], ◌∷◌, ◌++◌, length, drop, sum_by, ⊤}
use Rattle.cm_scan.specs.inlines.Pairing.{pair_all}
use Rattle.cm_inline.specs.Closers.{all_kinds}
use Rattle.cm_inline.specs.declared.runs.Runs.{Runs}
use Rattle.cm_inline.specs.declared.runs.Run.{Run as HeldRun}
use Rattle.cm_inline.specs.steps.pairing.ClosingRuns.{AreUnder}
use Rattle.cm_inline.specs.steps.pairing.Paired.{AreRuns}
use Rattle.cm_inline.specs.steps.pairing.Parts.{events_of, AreParts, Rising}
use Rattle.cm_inline.specs.steps.pairing.Readings.{StandFor, starts_in}
use Rattle.cm_inline.specs.steps.pairing.Segments.{Segment, Waiting, Made, items_in, all_parts, numbers_in, AreSegments}
use Rattle.cm_inline.specs.steps.pairing.States.{run_at}
use Rattle.cm_inline.specs.steps.Pairs.{AreLooks, items_emphases}
use Rattle.cm_inline.specs.steps.Runs.{runs_in, pairs_in}

-- the number after those of the runs of segments
unfoldable pub number_after : ℕ → List Segment → ℕ
number_after low [] = low
number_after low (Waiting number run ∷ ss) = number_after (number + 1) ss
number_after low (Made parts item high ∷ ss) = number_after high ss

-- The looks for which runs that wait pay: for each one in vain for each kind of closer, one for its removal, and one
-- for each of its characters.
abbrev pub paid_by : List HeldRun → List ℕ → ℕ
paid_by runs numbers = sum_by (λ number. all_kinds + 1 + (run_at runs number).run.left) numbers

-- the numbers rise from one on, and are below another
abbrev pub AreNumbers : (low high : ℕ) → List ℕ → Type 0
AreNumbers low high [] = ⊤
AreNumbers low high (number ∷ numbers) = (low ≤ number) × (number < high) × AreNumbers (number + 1) high numbers

-- something is left of each of these runs
abbrev pub AllLeft : List HeldRun → List ℕ → Type 0
AllLeft runs [] = ⊤
AllLeft runs (number ∷ numbers) = (1 ≤ (run_at runs number).run.left) × AllLeft runs numbers

-- The numbers that wait rise, something is left of each run, and the looks of a pass over those from a place on fit into their count.
pub record CanPass (from : ℕ) (runs : Runs) : Type 0 where
  pub long : from ≤ length runs.waiting.items
  pub numbers : AreNumbers 0 (length runs.list.runs) runs.waiting.items
  pub some : AllLeft runs.list.runs (drop from runs.waiting.items)
  pub few : runs.list.looks + paid_by runs.list.runs (drop from runs.waiting.items) < 2 ^ 127

-- The runs are those of these segments. Those after the front wait from a place on.
pub record WaitFrom (from : ℕ) (runs : Runs) (front inside : List Segment) : Type 0 where
  pub waiting : runs.waiting.items ≡ numbers_in front ++ numbers_in inside
  pub place : length (numbers_in front) ≡ from
  pub segments : AreSegments (runs_in runs.list.runs) (pairs_in runs.pairs.items) 0 (front ++ inside)
  pub marked : AreRuns inside

-- All pairs among the segments after the front are made. Each adds at most one start, and the front stays as it was.
pub record AllPaired (old new : Runs) (front inside : List Segment) : Type 0 where
  pub front_stays : AreSegments (runs_in new.list.runs) (pairs_in new.pairs.items) 0 front
  pub front_same : events_of (runs_in new.list.runs) (pairs_in new.pairs.items) (all_parts front) ≡ events_of (runs_in old.list.runs) (pairs_in old.pairs.items) (all_parts front)
  pub reads : StandFor (events_of (runs_in new.list.runs) (pairs_in new.pairs.items) (all_parts inside)) (pair_all (items_in inside))
  pub parts : AreParts (runs_in new.list.runs) (pairs_in new.pairs.items) (all_parts inside)
  pub rising : Rising (number_after 0 front) (events_of (runs_in new.list.runs) (pairs_in new.pairs.items) (all_parts inside))
  pub under : AreUnder (length new.list.runs) (all_parts inside)
  pub starts : starts_in (events_of (runs_in new.list.runs) (pairs_in new.pairs.items) (all_parts inside)) + length old.pairs.items
      ≤ starts_in (events_of (runs_in old.list.runs) (pairs_in old.pairs.items) (all_parts inside)) + length new.pairs.items
  pub waiting : new.waiting.items ≡ numbers_in front
  pub looks : AreLooks old.list.looks (items_in inside) new.list.looks (items_emphases (pair_all (items_in inside)))
