-- How deep marks nest.
use Rattle.std.specs.Prelude.{◌≡◌, ℕ, ◌+◌, ◌-◌, ◌<◌, ◌≤◌, Bool, max, List, [], ◌∷◌, length, drop, Some, ⊤}
use Rattle.cm_tree.specs.Definitions.{Targets}
use Rattle.cm_tree.specs.Depth.{depth_of}
use Rattle.cm_inline.specs.declared.brackets.Reader.{Reader}
use Rattle.cm_inline.specs.declared.nesting.Level.{Level}
use Rattle.cm_inline.specs.steps.pairing.Events.{Event, Text, Rest, Whole, Start, End}
use Rattle.cm_inline.specs.steps.pairing.Readings.{deepest, starts_in}
use Rattle.cm_inline.specs.steps.pairing.States.{AreChained}
use Rattle.cm_inline.specs.steps.Marks.{events_in, AreLaid}
use Rattle.cm_inline.specs.steps.Runs.{runs_in, pairs_in}
use Rattle.cm_inline.specs.steps.Writing.{events_from}

-- the level after an event, and after events
abbrev pub rise : Level → Event → Level
rise l (Text t) = l
rise l (Rest number run) = l
rise l (Whole i) = record { now = l.now; most = max l.most (l.now + depth_of i) }
rise l (Start tag) = record { now = l.now + 1; most = max l.most (l.now + 1) }
rise l (End tag) = record { now = l.now - 1; most = l.most }

unfoldable pub rise_all : Level → List Event → Level
rise_all l [] = l
rise_all l (f ∷ fs) = rise_all (rise l f) fs

-- no level reaches a bound, and nothing ends that isn't open
abbrev pub CanRise : (bound : ℕ) → Level → Event → Type 0
CanRise bound l (Whole i) = l.now + depth_of i < bound
CanRise bound l (Start tag) = l.now + 1 < bound
CanRise bound l (End tag) = 1 ≤ l.now
CanRise bound l f = ⊤

abbrev pub CanRiseAll : (bound : ℕ) → Level → List Event → Type 0
CanRiseAll bound l [] = ⊤
CanRiseAll bound l (f ∷ fs) = CanRise bound l f × CanRiseAll bound (rise l f) fs

-- The inlines of marks nest this deep: one deeper than there are starts at most, which are no more than pairs and links.
pub record NestsTo (lines : Bool) (source : List ℕ) (targets : Targets) (reader : Reader) (depth : ℕ) : Type 0 where
  pub laid : AreLaid lines source targets reader.runs.list.runs reader.links.items 0 (length source) reader.marks.items
  pub chained : AreChained (runs_in reader.runs.list.runs) (pairs_in reader.runs.pairs.items)
  pub nests : deepest 0 0 (events_in source targets reader) ≡ Some depth
  pub near : depth ≤ starts_in (events_in source targets reader) + 1
  pub few : starts_in (events_in source targets reader) ≤ length reader.runs.pairs.items + length reader.links.items

-- The marks from one on nest from this level on.
pub record NestsFrom (lines : Bool) (source : List ℕ) (targets : Targets) (reader : Reader) (depth at : ℕ) (level : Level) : Type 0 where
  pub from : ℕ
  pub laid : AreLaid lines source targets reader.runs.list.runs reader.links.items from (length source) (drop at reader.marks.items)
  pub high : level.now ≤ level.most
  pub rest : deepest level.now level.most (events_from source targets reader from (drop at reader.marks.items)) ≡ Some depth
