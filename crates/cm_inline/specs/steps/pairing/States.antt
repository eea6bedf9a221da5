-- The state of the code in a pass, and what is known of it with no segments at hand.
use Rattle.std.specs.Prelude.{false, ◌≡◌, ◌⊎◌, ℕ, ◌+◌, ◌<◌, ◌≤◌, List, [], ◌∷◌, ◌++◌, length, get_or, set, ⊤}
use Rattle.cm_inline.specs.Closers.{all_kinds}
use Rattle.cm_inline.specs.declared.runs.Run.{Run as HeldRun}
use Rattle.cm_inline.specs.declared.pairing.Pair.{Pair as HeldPair}
use Rattle.cm_inline.specs.declared.delimiter_runs.Marker.{Marker}
use Rattle.cm_inline.specs.steps.pairing.ClosingRuns.{State}
use Rattle.cm_inline.specs.steps.pairing.Events.{Emphasis}
use Rattle.cm_inline.specs.steps.pairing.Parts.{Pair, PairedRun, no_run as no_paired_run}
use Rattle.cm_inline.specs.steps.Entries.{Entry, Listed, Below, Falling, AllOpen, before_last}
use Rattle.cm_inline.specs.steps.Searching.{spent}
use Rattle.cm_inline.specs.steps.Runs.{Listing, run_of, runs_in, pairs_in}

abbrev pub no_run : HeldRun
no_run = record { run = record { marker = Marker.Star; opens = false; closes = false; whole = 0; left = 0 }; opened = 0; from = 0; to = 0 }

-- a run by its number
abbrev pub run_at : List HeldRun → ℕ → HeldRun
run_at runs number = get_or runs number no_run

-- this many characters are left of a run, whose last pair as an opener is this
abbrev pub left_at : (left opened : ℕ) → HeldRun → HeldRun
left_at left opened r = record { run = record { marker = r.run.marker; opens = r.run.opens; closes = r.run.closes; whole = r.run.whole; left = left }; opened = opened; from = r.from; to = r.to }

abbrev pub with_left : (number left opened : ℕ) → List HeldRun → List HeldRun
with_left number left opened runs = set runs number (left_at left opened (run_at runs number))

-- this many characters are left of a run, which closed the pairs in this range
abbrev pub closed_at : (left from to : ℕ) → HeldRun → HeldRun
closed_at left from to r = record { run = record { marker = r.run.marker; opens = r.run.opens; closes = r.run.closes; whole = r.run.whole; left = left }; opened = r.opened; from = from; to = to }

abbrev pub with_closed : (number left from to : ℕ) → List HeldRun → List HeldRun
with_closed number left from to runs = set runs number (closed_at left from to (run_at runs number))

-- The runs are the same in number, and each has the same character and whole length.
pub record SameRuns (old new : List HeldRun) : Type 0 where
  pub long : length new ≡ length old
  pub same : (number : ℕ) → ((run_at new number).run.marker ≡ (run_at old number).run.marker) × ((run_at new number).run.whole ≡ (run_at old number).run.whole)

abbrev pub no_pair : Pair
no_pair = record { tag = Emphasis; before = 0 }

-- Each pair's opener was in pairs before it, and runs know only of pairs that there are.
pub record AreChained (runs : List PairedRun) (pairs : List Pair) : Type 0 where
  pub before : (place : ℕ) → place < length pairs → (get_or pairs place no_pair).before ≤ place
  pub opened : (number : ℕ) → (get_or runs number no_paired_run).opened ≤ length pairs
  pub closed : (number : ℕ) → ((get_or runs number no_paired_run).from ≤ (get_or runs number no_paired_run).to) × ((get_or runs number no_paired_run).to ≤ length pairs)

-- The runs, the pairs, the entries before the run at hand, and how often one was read.
pub record Holding : Type 0 where
  pub runs : List HeldRun
  pub pairs : List HeldPair
  pub entries : List Entry
  pub looks : ℕ

-- The run at hand isn't in the list yet, or is its last entry.
abbrev pub held : Listing → List HeldPair → Holding
held l pairs = record { runs = l.runs; pairs = pairs; entries = l.entries; looks = l.looks }

abbrev pub held_before : Listing → List HeldPair → Holding
held_before l pairs = record { runs = l.runs; pairs = pairs; entries = before_last l.entries; looks = l.looks }

-- the state at the run of a number
abbrev pub state_of : Holding → (bottoms : List ℕ) → (number : ℕ) → State
state_of h bottoms number = record {
  runs = runs_in h.runs;
  pairs = pairs_in h.pairs;
  list = record { entries = h.entries; looks = h.looks; next = number };
  bottoms = bottoms;
}

-- no pair was made of the run of a number
abbrev pub IsFresh : List HeldRun → ℕ → Type 0
IsFresh runs number = get_or (runs_in runs) number no_paired_run ≡ record { run = run_of (run_at runs number).run; opened = 0; from = 0; to = 0 }

-- The numbers of the entries fall, and they and the bottoms are not above that of the run at hand.
pub record IsReady (l : Listed) (bottoms : List ℕ) : Type 0 where
  pub falling : Falling l.entries
  pub under : Below l.next l.entries
  pub size : length bottoms ≡ all_kinds
  pub low : (k : ℕ) → get_or bottoms k 0 ≤ l.next

-- the entries are of runs from a number on
abbrev pub EntriesFrom : ℕ → List Entry → Type 0
EntriesFrom low [] = ⊤
EntriesFrom low (e ∷ es) = (low ≤ e.place) × EntriesFrom low es

-- Only runs from a number on, and below another, are written to, and pairs are added.
pub record Grows (low high : ℕ) (old new : State) : Type 0 where
  pub long : length new.runs ≡ length old.runs
  pub others : (k : ℕ) → (k < low) ⊎ (high ≤ k) → get_or new.runs k no_paired_run ≡ get_or old.runs k no_paired_run
  pub added : List Pair
  pub pairs : new.pairs ≡ old.pairs ++ added

-- What is done at the run of a number, up to the one of another: it pays for its looks, and no run below all entries is written to, nor one that comes later.
pub record RunSteps (old new : Holding) (had bottoms : List ℕ) (number next due : ℕ) : Type 0 where
  pub ready : IsReady (state_of new bottoms next).list bottoms
  pub paid : spent all_kinds (state_of new bottoms next).list bottoms ≤ spent all_kinds (state_of old had number).list had + due
  pub grows : (low : ℕ) → low ≤ number → EntriesFrom low old.entries → EntriesFrom low new.entries × Grows low (number + 1) (state_of old had number) (state_of new bottoms next)
  pub opened : AllOpen old.entries → AllOpen new.entries
  pub same : SameRuns old.runs new.runs
  pub chained : AreChained (runs_in old.runs) (pairs_in old.pairs) → AreChained (runs_in new.runs) (pairs_in new.pairs)
