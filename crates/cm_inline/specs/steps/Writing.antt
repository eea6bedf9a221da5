-- How the marks of a source are written as HTML, one after another.
use Rattle.std.specs.Prelude.{◌≡◌, ℕ, ◌+◌, ◌<◌, ◌≤◌, Bool, true, false, ◌&&◌, ◌==◌, if◌then◌else◌, List, ◌++◌, length, drop, get_or, ⊤}
use Rattle.std.specs.List.{slice_range}
use Rattle.cm_tree.specs.Definitions.{Targets}
use Rattle.cm_inline.specs.declared.marks.Kind.{Kind}
use Rattle.cm_inline.specs.declared.marks.Kind.TheVariants as kinds
use Rattle.cm_inline.specs.declared.marks.Mark.{Mark}
use Rattle.cm_inline.specs.declared.marks.Place.{Place}
use Rattle.cm_inline.specs.declared.brackets.Link.{Link}
use Rattle.cm_inline.specs.declared.brackets.Reader.{Reader}
use Rattle.cm_inline.specs.declared.runs.Run as held
use Rattle.cm_inline.specs.steps.pairing.Events.{Event}
use Rattle.cm_inline.specs.steps.pairing.Parts.{Pair, part_events, events_of}
use Rattle.cm_inline.specs.steps.pairing.States.{AreChained, no_pair, run_at}
use Rattle.cm_inline.specs.steps.pairing.Readings.{Mode, Tags, Alternative, Page, page, write_all}
use Rattle.cm_inline.specs.steps.Marks.{part_of, no_link, parts_between, events_in, IsOfKind, AreLaid, IsSettled}
use Rattle.cm_inline.specs.steps.Runs.{runs_in, pairs_in}
use Rattle.cm_inline.specs.steps.Standalone.{IsBetween}

-- what is written of events makes the HTML longer, in the same mode
abbrev pub Adds : Mode → (old : List ℕ) → List Event → (new : List ℕ) → Type 0
Adds mode old events new = write_all (page old mode) events ≡ page new mode

abbrev pub no_mark : Mark
no_mark = record { at = 0; end = 0; kind = kinds.Nothing }

abbrev pub mark_numbered : List Mark → ℕ → Mark
mark_numbered marks n = get_or marks n no_mark

-- the events of a mark alone, those of marks from a place of the source on, and those from a mark on
abbrev pub mark_events : List ℕ → Targets → Reader → Mark → List Event
mark_events source targets reader mark = part_events (runs_in reader.runs.list.runs) (pairs_in reader.runs.pairs.items) (part_of source targets reader.links.items mark)

abbrev pub events_from : List ℕ → Targets → Reader → (from : ℕ) → List Mark → List Event
events_from source targets reader from marks =
    events_of (runs_in reader.runs.list.runs) (pairs_in reader.runs.pairs.items) (parts_between source targets reader.links.items from (length source) marks)

abbrev pub events_after : List ℕ → Targets → Reader → ℕ → List Event
events_after source targets reader n = events_from source targets reader (mark_numbered reader.marks.items n).end (drop (n + 1) reader.marks.items)

abbrev pub events_at : List ℕ → Targets → Reader → ℕ → List Event
events_at source targets reader n = mark_events source targets reader (mark_numbered reader.marks.items n) ++ events_after source targets reader n

-- each pair's opener was in pairs before it
abbrev pub ComeBefore : List Pair → Type 0
ComeBefore pairs = (place : ℕ) → place < length pairs → (get_or pairs place no_pair).before ≤ place

-- a run without a pair is written as it is there, and so is a bracket
abbrev pub is_unpaired : held.Run → Bool
is_unpaired r = r.run.left == r.run.whole && r.opened == 0 && r.from == r.to

abbrev pub is_text : List held.Run → Kind → Bool
is_text runs kinds.Plain = true
is_text runs (kinds.Run number) = is_unpaired (run_at runs number)
is_text runs _ = false

-- the number of a run is that of one
abbrev pub IsNumbered : List held.Run → Kind → Type 0
IsNumbered runs (kinds.Run number) = number < length runs
IsNumbered runs _ = ⊤

-- the number of a start is that of a link or an image
abbrev pub IsLinked : List Link → Kind → Type 0
IsLinked links (kinds.Start number) = number < length links
IsLinked links _ = ⊤

-- the end of the link or image of this number
abbrev pub is_end_of : ℕ → Kind → Bool
is_end_of link (kinds.End number) = number == link
is_end_of link _ = false

-- after the start of an image its alternative text is written
abbrev pub mode_after : List Link → Kind → Mode
mode_after links (kinds.Start number) = if (get_or links number no_link).image then Alternative number else Tags
mode_after links _ = Tags

-- What is needed to write a mark.
pub record IsMarkIn (source : List ℕ) (targets : Targets) (reader : Reader) (mark : Mark) : Type 0 where
  pub between : IsBetween source mark.at mark.end
  pub kind : IsOfKind source targets reader.runs.list.runs reader.links.items mark.at mark.end mark.kind
  pub chained : AreChained (runs_in reader.runs.list.runs) (pairs_in reader.runs.pairs.items)

-- What events add to a page is what is added to some HTML, among tags, by the marks from a place on.
pub record GoesOn (source : List ℕ) (targets : Targets) (reader : Reader) (before : Page) (events : List Event) (html : List ℕ) (next : Place) : Type 0 where
  pub laid : AreLaid false source targets reader.runs.list.runs reader.links.items next.from (length source) (drop next.mark reader.marks.items)
  pub same : write_all before events ≡ write_all (page html Tags) (events_from source targets reader next.from (drop next.mark reader.marks.items))

-- The text from a place on up to the next mark waits: with it, the HTML is that of the marks before it.
pub record TextWaits (source : List ℕ) (targets : Targets) (reader : Reader) (old html : List ℕ) (next : Place) : Type 0 where
  pub place : ℕ
  pub between : IsBetween source next.from place
  pub laid : AreLaid false source targets reader.runs.list.runs reader.links.items place (length source) (drop next.mark reader.marks.items)
  pub same : write_all (page old Tags) (events_in source targets reader)
      ≡ write_all (page (html ++ slice_range source next.from place) Tags) (events_from source targets reader place (drop next.mark reader.marks.items))

-- An image starts at a mark, and has an end among the marks after it.
pub record IsImageAt (source : List ℕ) (targets : Targets) (reader : Reader) (html : List ℕ) (start link : ℕ) : Type 0 where
  pub settled : IsSettled false source targets reader
  pub within : start < length reader.marks.items
  pub ends : (write_all (page html (Alternative link)) (events_after source targets reader start)).mode ≡ Tags

-- It is written up to a place before a mark.
pub record IsWrittenTo (source : List ℕ) (targets : Targets) (reader : Reader) (old html : List ℕ) (start link from at : ℕ) : Type 0 where
  pub laid : AreLaid false source targets reader.runs.list.runs reader.links.items from (length source) (drop at reader.marks.items)
  pub same : write_all (page old (Alternative link)) (events_after source targets reader start)
      ≡ write_all (page html (Alternative link)) (events_from source targets reader from (drop at reader.marks.items))
