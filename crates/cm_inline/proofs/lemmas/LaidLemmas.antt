-- Marks of a source as parts and events: one of them, and those after it.
use Rattle.cm_inline.proofs.lemmas.Words.{◌≡◌, ℕ, zero, suc, ◌+◌, ◌<◌, Bool, List, [], ◌∷◌, ◌++◌, length, drop, refl, arith, add-one, append_assoc, slice_range}
use Rattle.cm_inline.proofs.lemmas.Words.{Targets, Mark, Link, Reader, rules}
use Rattle.cm_inline.specs.declared.runs.Run as held
use Rattle.cm_inline.specs.steps.pairing.Parts.{Pair, PairedRun, Part, events_of}
use Rattle.cm_inline.specs.steps.Marks.{texts, parts_between, IsOfKind, AreLaid, IsSettled, part_of}
use Rattle.cm_inline.specs.steps.Runs.{runs_in, pairs_in}
use Rattle.cm_inline.specs.steps.Standalone.{IsBetween}
use Rattle.cm_inline.specs.steps.Writing.{mark_numbered, mark_events, events_from, IsMarkIn}

pub events-append : (runs : List PairedRun) (pairs : List Pair) (ms ns : List Part) → events_of runs pairs (ms ++ ns) ≡ events_of runs pairs ms ++ events_of runs pairs ns
unfolding events_of
events-append runs pairs [] ns = refl
events-append runs pairs (m ∷ ms) ns = search (rules, append_assoc, (events-append runs pairs ms ns))

-- the text before a mark, the mark, and what follows it
pub events-next : (source : List ℕ) (targets : Targets) (reader : Reader) (from : ℕ) (m : Mark) (ms : List Mark)
    → events_from source targets reader from (m ∷ ms)
    ≡ events_of (runs_in reader.runs.list.runs) (pairs_in reader.runs.pairs.items) (texts (slice_range source from m.at)) ++ (mark_events source targets reader m ++ events_from source targets reader m.end ms)
unfolding events_of parts_between
events-next source targets reader from m ms =
    events-append (runs_in reader.runs.list.runs) (pairs_in reader.runs.pairs.items) (texts (slice_range source from m.at)) (part_of source targets reader.links.items m ∷ parts_between source targets reader.links.items m.end (length source) ms)

pub events-last : (source : List ℕ) (targets : Targets) (reader : Reader) (from : ℕ)
    → events_from source targets reader from [] ≡ events_of (runs_in reader.runs.list.runs) (pairs_in reader.runs.pairs.items) (texts (slice_range source from (length source)))
unfolding parts_between
events-last source targets reader from = refl

-- the marks after one
pub record LaidAt (lines : Bool) (source : List ℕ) (targets : Targets) (runs : List held.Run) (links : List Link) (to : ℕ) (m : Mark) (ms : List Mark) : Type 0 where
  pub between : IsBetween source m.at m.end
  pub kind : IsOfKind source targets runs links m.at m.end m.kind
  pub beyond : AreLaid lines source targets runs links m.end to ms

pub laid-at : (lines : Bool) (source : List ℕ) (targets : Targets) (runs : List held.Run) (links : List Link) (from to : ℕ) (ms : List Mark) (n : ℕ) → n < length ms → AreLaid lines source targets runs links from to ms
    → LaidAt lines source targets runs links to (mark_numbered ms n) (drop (suc n) ms)
laid-at lines source targets runs links from to [] n h laid = absurd (omega (arith, h))
laid-at lines source targets runs links from to (m ∷ ms) zero h laid = record { between = laid.1; kind = laid.2; beyond = laid.3 }
laid-at lines source targets runs links from to (m ∷ ms) (suc n) h laid = laid-at lines source targets runs links m.end to ms n (omega (arith, h)) laid.3

-- each mark of a source that was read
pub settled-mark : (lines : Bool) (source : List ℕ) (targets : Targets) (reader : Reader) (n : ℕ) → n < length reader.marks.items → IsSettled lines source targets reader → IsMarkIn source targets reader (mark_numbered reader.marks.items n)
settled-mark lines source targets reader n h settled =
    let at = laid-at lines source targets reader.runs.list.runs reader.links.items 0 (length source) reader.marks.items n h settled.laid in
    search rules

pub settled-beyond : (lines : Bool) (source : List ℕ) (targets : Targets) (reader : Reader) (n : ℕ) → n < length reader.marks.items → IsSettled lines source targets reader
    → AreLaid lines source targets reader.runs.list.runs reader.links.items (mark_numbered reader.marks.items n).end (length source) (drop (n + 1) reader.marks.items)
settled-beyond lines source targets reader n h settled =
    rw add-one ((laid-at lines source targets reader.runs.list.runs reader.links.items 0 (length source) reader.marks.items n h settled.laid).beyond)
