-- What the marks of a source come to where their events stand for items.
use Rattle.cm_inline.proofs.lemmas.Words.{◌≡◌, ℕ, ◌+◌, ◌≤◌, Bool, max, List, [], length, Some, sym, ap, ◌∙◌, arith, append-nil, Targets, inlines_depth, inlines_html}
use Rattle.cm_inline.proofs.lemmas.Words.{Item, settled, Reader, rules}
use Rattle.cm_inline.specs.steps.pairing.Events.{Event, inlines_of}
use Rattle.cm_inline.specs.steps.pairing.Readings.{Tags, page, write_all, deepest, starts_in, StandFor, Page, Mode}
use Rattle.cm_inline.specs.steps.pairing.States.{AreChained}
use Rattle.cm_inline.specs.steps.Depths.{items_depth}
use Rattle.cm_inline.specs.steps.Marks.{events_in, AreLaid}
use Rattle.cm_inline.specs.steps.Nesting.{NestsTo}
use Rattle.cm_inline.specs.steps.Runs.{runs_in, pairs_in}
use Rattle.cm_inline.proofs.lemmas.EventLemmas.{means-settles}
use Rattle.cm_inline.proofs.lemmas.ReadingLemmas.{nests-all, writes-inlines}

-- the HTML, with no alternative text left open
pub stands-html : (fs : List Event) (items : List Item) → StandFor fs items → (write_all (page [] Tags) fs).html ≡ inlines_html (settled items)
stands-html fs items s = ap html (writes-inlines fs items s.writes)
  where
    html : Page → List ℕ
    html p = p.html

pub stands-mode : (fs : List Event) (items : List Item) → StandFor fs items → (write_all (page [] Tags) fs).mode ≡ Tags
stands-mode fs items s = ap mode (writes-inlines fs items s.writes)
  where
    mode : Page → Mode
    mode p = p.mode

-- the inlines
pub stands-inlines : (fs : List Event) (items : List Item) → StandFor fs items → inlines_of fs ≡ settled items
stands-inlines fs items s = means-settles fs items s.means

-- how deep they nest
pub stands-depth : (fs : List Event) (items : List Item) → StandFor fs items → inlines_depth (settled items) ≤ starts_in fs + 1
unfolding deepest
stands-depth fs items s =
    let nests : deepest 0 0 fs ≡ Some (max 0 (0 + items_depth items)) = ap (deepest 0 0) (sym (append-nil fs)) ∙ s.nests 0 0 [] (omega arith) in
    let same : Some (inlines_depth (settled items)) ≡ Some (max 0 (0 + items_depth items)) = sym (nests-all fs items s.nests) ∙ nests in
    let depth : inlines_depth (settled items) ≡ max 0 (0 + items_depth items) = cc same in
    omega (arith, depth, s.near.bound)

pub stands-nests : (lines : Bool) (source : List ℕ) (targets : Targets) (reader : Reader) (items : List Item) → AreLaid lines source targets reader.runs.list.runs reader.links.items 0 (length source) reader.marks.items
    → AreChained (runs_in reader.runs.list.runs) (pairs_in reader.runs.pairs.items) → starts_in (events_in source targets reader) ≤ length reader.runs.pairs.items + length reader.links.items → StandFor (events_in source targets reader) items
    → NestsTo lines source targets reader (inlines_depth (settled items))
stands-nests lines source targets reader items laid chained few s = search (rules, nests-all, stands-depth)
