-- What a source comes to that is read to its end, where all pairs are made.
use Rattle.cm_inline.proofs.lemmas.Words.{◌≡◌, ℕ, ◌+◌, ◌<◌, ◌≤◌, Bool, true, false, ◌||◌, List, [], ◌∷◌, ◌++◌, length, reverse, refl, sym, ap, subst, ◌∙◌, arith}
use Rattle.cm_inline.proofs.lemmas.Words.{append-nil, nat_lt, ltb-true, length-map, Rules, Targets, inlines_depth, inlines_html, holds_link, defined_in, Item}
use Rattle.cm_inline.proofs.lemmas.Words.{pair_all, emphasis_of, in_pieces, Bracket, Reader, Mark, Plain, Runs}
use Rattle.cm_scan.specs.inlines.Inlines as inlines
use Rattle.cm_inline.specs.Emphases.{emphases}
use Rattle.cm_inline.specs.Reading.{Read}
use Rattle.cm_inline.specs.steps.pairing.Events.{Event, inlines_of}
use Rattle.cm_inline.specs.steps.pairing.Parts.{events_of}
use Rattle.cm_inline.specs.steps.pairing.Passes.{CanPass, WaitFrom, AllPaired}
use Rattle.cm_inline.specs.steps.pairing.Readings.{Tags, page, write_all, starts_in, StandFor}
use Rattle.cm_inline.specs.steps.pairing.Segments.{Segment, items_in, all_parts, numbers_in}
use Rattle.cm_inline.specs.steps.pairing.States.{AreChained, SameRuns}
use Rattle.cm_inline.specs.steps.Brackets.{MarkedLeaf, view_of, leaf_of, opened, AreOpen, Reading}
use Rattle.cm_inline.specs.steps.Depths.{items_depth}
use Rattle.cm_inline.specs.steps.Marks.{mark_at, parts_between, parts_in, events_in, AreLaid, IsSettled}
use Rattle.cm_inline.specs.steps.Nesting.{NestsTo}
use Rattle.cm_inline.specs.Closers.{kinds_by}
use Rattle.cm_inline.specs.steps.Runs.{runs_in, pairs_in, pair_in}
use Rattle.cm_inline.proofs.lemmas.ClosingBracketLemmas.{can-pass}
use Rattle.cm_inline.proofs.lemmas.EmphasisLemmas.{settled-holds}
use Rattle.cm_inline.proofs.lemmas.JoinLemmas.{Later, laid-join, laid-later, parts-join}
use Rattle.cm_inline.proofs.lemmas.OpenLemmas.{all_parts-append}
use Rattle.cm_inline.proofs.lemmas.OutcomeLemmas.{stands-html, stands-mode, stands-inlines, stands-nests}
use Rattle.cm_inline.proofs.lemmas.PairDepthLemmas.{settled-items}
use Rattle.cm_inline.proofs.lemmas.PaysLemmas.{pays-few, pays-most}
use Rattle.cm_inline.proofs.lemmas.RightBracketLemmas.{left_segment, bracket-closed}
use Rattle.cm_inline.proofs.lemmas.WholeLemmas.{ahead-end, inlines-are, nests, within-limit, nat_lt-false}

-- the segments of open brackets are those of the marks, all the same
pub open-laid : (leaf : MarkedLeaf) (bs : List Bracket) (segments : List Segment) (marks : List Mark) (to : ℕ) (linked : Bool) → AreOpen leaf bs segments marks to linked
    → (all_parts segments ≡ parts_between leaf.source leaf.targets leaf.links 0 to marks) × AreLaid leaf.lines leaf.source leaf.targets leaf.runs leaf.links 0 to marks
unfolding all_parts
open-laid leaf [] segments marks to linked h = (h.parts, h.laid)
open-laid leaf (b ∷ bs) segments marks to linked h =
    let below = open-laid leaf bs h.front h.early h.at (holds_link (items_in h.inside) || linked) h.below in
    let m = mark_at h.at b.end Plain in
    let closed = bracket-closed leaf b h.at to h.high h.inside h.late h.bracket h.closed in (
      ap all_parts h.whole ∙ all_parts-append h.front (opened leaf.source b h.high ∷ h.inside) ∙ ap (λ t. t ++ all_parts (left_segment b h.high ∷ h.inside)) below.0
          ∙ ap (λ t. parts_between leaf.source leaf.targets leaf.links 0 h.at h.early ++ t) closed.parts
          ∙ sym (parts-join leaf.lines leaf.source leaf.targets leaf.runs leaf.links 0 h.at to h.early (m ∷ h.late) below.1 closed.laid)
          ∙ ap (parts_between leaf.source leaf.targets leaf.links 0 to) (sym h.marks_are),
      subst (AreLaid leaf.lines leaf.source leaf.targets leaf.runs leaf.links 0 to) (sym h.marks_are) (laid-join leaf.lines leaf.source leaf.targets leaf.runs leaf.links 0 h.at to h.early (m ∷ h.late) below.1 closed.laid),
    )

module _ (rules : Rules) (source : List ℕ) (targets : Targets) (old : Reader) (g : Reading rules source targets (length source) old) where
  abbrev items : List Item
  items = items_in g.segments

  pub all-await : WaitFrom 0 old.runs [] g.segments
  unfolding numbers_in
  all-await = record { waiting = g.read.waiting; place = refl; segments = g.read.segments_are; marked = g.read.runs_are }

  pub all-can-pass : CanPass 0 old.runs
  all-can-pass = can-pass 0 old.runs [] g.segments all-await (pays-few rules (defined_in targets) source items (length source) old.runs.list.looks g.pays (omega (arith, g.read.short)))

  items-are : in_pieces items ≡ in_pieces (inlines.items_of rules (defined_in targets) source)
  items-are = sym (ahead-end rules (defined_in targets) source items (length source) (omega arith)) ∙ g.goes

  -- all pairs can't be made within the limit
  pub pairs-too-deep : (limit : ℕ) → ((front inside : List Segment) → WaitFrom 0 old.runs front inside → limit < items_depth (pair_all (items_in inside))) → inlines.nests_past rules (defined_in targets) limit source ≡ true
  pairs-too-deep limit deep = nests rules (defined_in targets) limit source items items-are (omega (arith, deep [] g.segments all-await, settled-items (pair_all items)))

  -- with all pairs made
  module _ (runs : Runs) (passes : (front inside : List Segment) → WaitFrom 0 old.runs front inside → AllPaired old.runs runs front inside) (same : SameRuns old.runs.list.runs runs.list.runs)
      (chained : AreChained (runs_in runs.list.runs) (pairs_in runs.pairs.items)) where
    abbrev pub new : Reader
    new = record { marks = old.marks; runs = runs; links = old.links; brackets = old.brackets; links_end = old.links_end; lines = old.lines; ends = old.ends }

    abbrev p : AllPaired old.runs runs [] g.segments
    p = passes [] g.segments all-await

    abbrev fs : List Event
    fs = events_in source targets new

    abbrev leaf : MarkedLeaf
    leaf = leaf_of source targets (view_of old)

    parts-are : (all_parts g.segments ≡ parts_in source targets new) × AreLaid old.lines source targets old.runs.list.runs old.links.items 0 (length source) old.marks.items
    parts-are = open-laid leaf (reverse old.brackets.items) g.segments old.marks.items (length source) false g.read.open_are

    events-are : events_of (runs_in runs.list.runs) (pairs_in runs.pairs.items) (all_parts g.segments) ≡ fs
    events-are = ap (events_of (runs_in runs.list.runs) (pairs_in runs.pairs.items)) parts-are.0

    later : Later old.runs.list.runs runs.list.runs
    later number h = (omega (arith, same.long, h), (same.same number).0, (same.same number).1)

    laid : AreLaid old.lines source targets runs.list.runs old.links.items 0 (length source) old.marks.items
    laid =
        subst (λ ls. AreLaid old.lines source targets runs.list.runs ls 0 (length source) old.marks.items) (append-nil old.links.items)
        (laid-later old.lines source targets old.runs.list.runs runs.list.runs old.links.items [] later 0 (length source) old.marks.items parts-are.1)

    stand : StandFor fs (pair_all items)
    stand = subst (λ t. StandFor t (pair_all items)) events-are p.reads

    pub settled : IsSettled old.lines source targets new
    settled = record { short = g.read.short; laid = laid; chained = chained; ends = stands-mode fs (pair_all items) stand }

    few : starts_in fs ≤ length runs.pairs.items + length old.links.items
    few = omega (
      arith,
      p.starts,
      g.read.starts,
      ap starts_in events-are,
      length-map runs.pairs.items pair_in,
      length-map old.runs.pairs.items pair_in,
    )

    pub nest : NestsTo old.lines source targets new (inlines_depth (emphasis_of items))
    nest = stands-nests old.lines source targets new (pair_all items) laid chained few stand

    content : inlines_of fs ≡ inlines.inlines_of rules (defined_in targets) source
    content = stands-inlines fs (pair_all items) stand ∙ inlines-are rules (defined_in targets) source items items-are

    pub html-is : (write_all (page [] Tags) fs).html ≡ inlines_html (inlines_of fs)
    html-is = stands-html fs (pair_all items) stand ∙ ap inlines_html (sym (stands-inlines fs (pair_all items) stand))

    pub too-deep : (limit : ℕ) → nat_lt limit (inlines_depth (emphasis_of items)) ≡ true → inlines.nests_past rules (defined_in targets) limit source ≡ true
    too-deep limit deep = nests rules (defined_in targets) limit source items items-are (ltb-true limit (inlines_depth (emphasis_of items)) deep)

    pub is-read : (limit looks : ℕ) → looks ≡ runs.list.looks → nat_lt limit (inlines_depth (emphasis_of items)) ≡ false → Read rules (defined_in targets) limit source (inlines_of fs, record { 0 = looks })
    is-read limit looks same low = record {
      content = content;
      within = within-limit rules (defined_in targets) limit source items items-are (nat_lt-false limit (inlines_depth (emphasis_of items)) low);
      most = omega (arith, same, p.looks.paid (kinds_by rules) g.pays.are, pays-most rules (defined_in targets) source items (length source) old.runs.list.looks g.pays);
      least = omega (arith, same, p.looks.made, g.pays.made, settled-holds (pair_all items), ap emphases (stands-inlines fs (pair_all items) stand));
    }
