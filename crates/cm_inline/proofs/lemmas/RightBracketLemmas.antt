-- A source that is read up to a `]`, and what that makes.
use Rattle.cm_inline.proofs.lemmas.Words.{◌≡◌, ℕ, ◌+◌, ◌<◌, ◌≤◌, true, false, ◌||◌, List, [], ◌∷◌, ◌++◌, drop, reverse, None, refl, sym, ap, subst, ◌∙◌, arith}
use Rattle.cm_inline.proofs.lemmas.Words.{append_assoc, nat_lt, IsUtf8, slice_range, list_all, reverse-append, IsCharBoundary-after_ascii, Rules, Targets, defined_in}
use Rattle.cm_inline.proofs.lemmas.Words.{holds_link, Item, Characters, Opener, bracket_text, Bracket, Reader, Mark, rules}
use Rattle.cm_inline.specs.declared.marks.Kind.TheVariants as kinds
use Rattle.cm_inline.specs.steps.pairing.Events.{Text}
use Rattle.cm_inline.specs.steps.pairing.Paired.{AreRuns}
use Rattle.cm_inline.specs.steps.pairing.Parts.{Pair, PairedRun, Known, events_of}
use Rattle.cm_inline.specs.steps.pairing.Passes.{number_after}
use Rattle.cm_inline.specs.steps.pairing.Readings.{starts_in}
use Rattle.cm_inline.specs.steps.pairing.Segments.{Segment, Made, items_in, all_parts, numbers_in, AreSegments}
use Rattle.cm_inline.specs.steps.Brackets.{MarkedLeaf, View, view_of, leaf_of, events_for, has_opener, AreClosed, IsOpener, opened, Level, AreOpen, IsRead, IsReadTo, Reading, closed_at, end_for}
use Rattle.cm_inline.specs.steps.Marks.{mark_at, parts_between, stays_text}
use Rattle.cm_inline.specs.steps.Pairs.{Keeps}
use Rattle.cm_inline.specs.steps.Reads.{Stands}
use Rattle.cm_inline.specs.steps.Runs.{runs_in, pairs_in}
use Rattle.cm_inline.proofs.lemmas.BracketLemmas.{closes-nothing, closes-opener, left_as_text, closed_or}
use Rattle.cm_inline.proofs.lemmas.CallerLemmas.{beyond-append, segments-append}
use Rattle.cm_inline.proofs.lemmas.KeepsLemmas.{keeps-closer, keeps-text}
use Rattle.cm_inline.proofs.lemmas.OpenLemmas.{open-more, items-append, all_parts-append, numbers-append}
use Rattle.cm_inline.proofs.lemmas.PaysLemmas.{closed-pays}
use Rattle.cm_inline.proofs.lemmas.ReaderLemmas.{IsText, text_segment, text-read, text-items}
use Rattle.cm_inline.proofs.lemmas.SliceLemmas.{one-slice}
use Rattle.cm_inline.proofs.lemmas.StandLemmas.{runs-split, runs-append, text-stands}
use Rattle.cm_inline.proofs.lemmas.WholeLemmas.{ahead-bracket}
use Rattle.cm_inline.proofs.lemmas.KeptLemmas.{segments-split}

-- a `]` as text
bracket-slice : (source : List ℕ) (at : ℕ) → Stands source at 93 → slice_range source at (at + 1) ≡ 93 ∷ []
bracket-slice source at stands = one-slice source at stands.within ∙ ap (λ b. b ∷ []) stands.byte

bracket-text : (source : List ℕ) (at : ℕ) → IsUtf8 source → Stands source at 93 → IsText source at (at + 1)
bracket-text source at utf8 stands = search (
  rules,
  (IsCharBoundary-after_ascii source at utf8 stands.within (omega (arith, stands.byte))),
  (ap (list_all (stays_text true)) (bracket-slice source at stands)),
)

-- With other items, of which it is known what a `]` makes of them.
pub goes-on : (rules : Rules) (source : List ℕ) (targets : Targets) (at end : ℕ) (old new : Reader) → Stands source at 93 → at < end → (g : Reading rules source targets at old) → (segments : List Segment) → IsReadTo source targets end new segments
    → closed_at rules (defined_in targets) source (items_in g.segments) at ≡ record { items = reverse (items_in segments); rest = drop end source } → Keeps old.runs.list.looks (items_in g.segments) new.runs.list.looks (items_in segments)
    → Reading rules source targets end new
goes-on rules source targets at end old new stands further g segments read closed keeps = search (
  read,
  (ahead-bracket rules (defined_in targets) source (items_in g.segments) (items_in segments) at end stands further closed ∙ g.goes),
  (closed-pays rules (defined_in targets) source (items_in g.segments) (items_in segments) at end old.runs.list.looks new.runs.list.looks stands g.pays further keeps closed),
)

-- No bracket is open.
no-opener : (leaf : MarkedLeaf) (segments : List Segment) (marks : List Mark) (at : ℕ) → AreOpen leaf [] segments marks at false → has_opener (items_in segments) ≡ false
no-opener leaf segments marks at h = h.none

pub nothing-closes : (rules : Rules) (source : List ℕ) (targets : Targets) (at : ℕ) (old new : Reader) → Stands source at 93 → old.brackets.items ≡ [] → new.brackets.items ≡ [] → view_of new ≡ view_of old
    → new.runs.list.looks ≡ old.runs.list.looks → Reading rules source targets at old → Reading rules source targets (at + 1) new
nothing-closes rules source targets at old new stands none still view looks g =
    let items = items_in g.segments in
    let text = slice_range source at (at + 1) in
    let more = g.segments ++ text_segment source g.segments at (at + 1) ∷ [] in
    let r : IsRead source targets at (view_of old) [] g.segments = subst (λ bs. IsRead source targets at (view_of old) (reverse bs) g.segments) none g.read in
    let t = text-read source targets (view_of old) [] g.segments at (at + 1) (bracket-text source at g.read.utf8 stands) r in
    let read : IsReadTo source targets (at + 1) new more = subst (λ bs. IsRead source targets (at + 1) (view_of new) (reverse bs) more) (sym still) (subst (λ v. IsRead source targets (at + 1) v [] more) (sym view) t) in
    let is = text-items source g.segments at (at + 1) in
    goes-on rules source targets at (at + 1) old new stands (omega arith) g more read
    (closes-nothing rules (defined_in targets) source items at (no-opener (leaf_of source targets (view_of old)) g.segments (view_of old).marks at r.open_are)
    ∙ ap (λ t. record { items = reverse (items ++ Characters t ∷ []); rest = drop (at + 1) source }) (sym (bracket-slice source at stands)) ∙ ap (λ t. record { items = reverse t; rest = drop (at + 1) source }) (sym is))
    (subst (λ t. Keeps old.runs.list.looks items new.runs.list.looks t) (sym is) (subst (λ n. Keeps old.runs.list.looks items n (items ++ Characters text ∷ [])) (sym looks) (keeps-closer old.runs.list.looks items text)))

-- The last open bracket becomes text.
abbrev pub left_segment : Bracket → ℕ → Segment
left_segment b high = Made (Known (Text (bracket_text b.image) ∷ []) ∷ []) (Characters (bracket_text b.image)) high

-- The bracket as text, with what is after it.
pub bracket-closed : (leaf : MarkedLeaf) (b : Bracket) (at to high : ℕ) (inside : List Segment) (late : List Mark) → IsOpener leaf.source b.image at b.end → AreClosed leaf b.end to inside late
    → AreClosed leaf at to (left_segment b high ∷ inside) (mark_at at b.end kinds.Plain ∷ late)
unfolding all_parts items_in has_opener parts_between
bracket-closed leaf b at to high inside late bracket closed = search rules

module _ (source : List ℕ) (targets : Targets) (at : ℕ) (v : View) (b : Bracket) (bs : List Bracket) (segments : List Segment) (r : IsRead source targets at v (b ∷ bs) segments) where
  abbrev leaf : MarkedLeaf
  leaf = leaf_of source targets v

  abbrev level : Level (AreOpen leaf bs) leaf b segments v.marks at false
  level = r.open_are

  abbrev front : List Segment
  front = level.front

  abbrev inside : List Segment
  inside = level.inside

  abbrev runs : List PairedRun
  runs = runs_in v.runs

  abbrev pairs : List Pair
  pairs = pairs_in v.pairs

  abbrev left : List Segment
  left = left_segment b level.high ∷ inside

  abbrev opener : Item
  opener = Opener b.image (drop b.end source)

  pub old-items : items_in segments ≡ items_in front ++ opener ∷ items_in inside
  unfolding items_in
  old-items = ap items_in level.whole ∙ items-append front (opened source b level.high ∷ inside)

  pub left-items : items_in (front ++ left) ≡ items_in front ++ Characters (bracket_text b.image) ∷ items_in inside
  unfolding items_in
  left-items = items-append front left

  -- the mark that it is
  abbrev opener_mark : Mark
  opener_mark = mark_at level.at b.end kinds.Plain

  pub low : level.at ≤ b.end
  low = omega (arith, level.bracket.place)

  left-closed : AreClosed leaf level.at at left (opener_mark ∷ level.late)
  left-closed = bracket-closed leaf b level.at at level.high inside level.late level.bracket level.closed

  left-open : AreOpen leaf bs (front ++ left) v.marks at false
  unfolding items_in holds_link
  left-open = subst (λ ms. AreOpen leaf bs (front ++ left) ms at false) (sym level.marks_are) (open-more leaf bs front left level.early (opener_mark ∷ level.late) level.at at false level.below left-closed)

  -- the segments before it, itself and those after it
  pub both : AreSegments runs pairs 0 front × AreSegments runs pairs (number_after 0 front) (opened source b level.high ∷ inside)
  both = segments-split 0 runs pairs front (opened source b level.high ∷ inside) (subst (AreSegments runs pairs 0) level.whole r.segments_are)

  left-segments : AreSegments runs pairs 0 (front ++ left)
  unfolding events_of
  left-segments =
      let m = both.1.0 in
      segments-append 0 runs pairs front left both.0
      (record { means = text-stands (bracket_text b.image); other = refl; marked = m.marked; rising = m.rising; under = m.under; high_is = m.high_is }, both.1.1)

  left-starts : starts_in (events_for v (front ++ left)) ≡ starts_in (events_for v segments)
  unfolding all_parts
  left-starts = ap (λ t. starts_in (events_of runs pairs t)) (all_parts-append front left ∙ sym (ap all_parts level.whole ∙ all_parts-append front (opened source b level.high ∷ inside)))

  left-numbers : numbers_in (front ++ left) ≡ numbers_in segments
  unfolding numbers_in
  left-numbers = numbers-append front left ∙ sym (ap numbers_in level.whole ∙ numbers-append front (opened source b level.high ∷ inside))

  left-high : number_after 0 (front ++ left) ≡ number_after 0 segments
  unfolding number_after
  left-high = beyond-append 0 front left ∙ sym (ap (number_after 0) level.whole ∙ beyond-append 0 front (opened source b level.high ∷ inside))

  pub left-runs : AreRuns front × AreRuns inside
  left-runs = runs-split front (opened source b level.high ∷ inside) (subst AreRuns level.whole r.runs_are)

  pub left-read : IsRead source targets at v bs (front ++ left)
  left-read = search (rules, left-open, left-segments, (runs-append front left left-runs.0 left-runs.1), (r.waiting ∙ sym left-numbers), left-high, left-starts)

-- A bracket that no link follows is left as text, as the `]` is.
pub text-closes : (rules : Rules) (source : List ℕ) (targets : Targets) (at : ℕ) (old new : Reader) (others : List Bracket) (b : Bracket) → Stands source at 93 → old.brackets.items ≡ others ++ b ∷ [] → new.brackets.items ≡ others
    → view_of new ≡ view_of old → new.runs.list.looks ≡ old.runs.list.looks → (links_end : ℕ) → links_end ≡ old.links_end → end_for rules (defined_in targets) source b links_end at ≡ None → b.end ≤ at
    → Reading rules source targets at old → Reading rules source targets (at + 1) new
text-closes rules source targets at old new others b stands had has view looks links_end same none order g =
    let v = view_of old in
    let bs = reverse others in
    let r : IsRead source targets at v (b ∷ bs) g.segments = subst (λ t. IsRead source targets at v t g.segments) (ap reverse had ∙ reverse-append others (b ∷ [])) g.read in
    let l = left-read source targets at v b bs g.segments r in
    let level = r.open_are in
    let so_far = level.front ++ left_segment b level.high ∷ level.inside in
    let outer = items_in level.front in
    let inner = items_in level.inside in
    let text = slice_range source at (at + 1) in
    let more = so_far ++ text_segment source so_far at (at + 1) ∷ [] in
    let t = text-read source targets v bs so_far at (at + 1) (bracket-text source at g.read.utf8 stands) l in
    let read : IsReadTo source targets (at + 1) new more = subst (λ t. IsRead source targets (at + 1) (view_of new) (reverse t) more) (sym has) (subst (λ w. IsRead source targets (at + 1) w bs more) (sym view) t) in
    let before = old-items source targets at v b bs g.segments r in
    let is : items_in more ≡ left_as_text outer inner b.image =
    text-items source so_far at (at + 1) ∙ ap (λ t. t ++ Characters text ∷ []) (left-items source targets at v b bs g.segments r) ∙ ap (λ t. (outer ++ Characters (bracket_text b.image) ∷ inner) ++ Characters t ∷ []) (bracket-slice source at stands)
    ∙ append_assoc outer (Characters (bracket_text b.image) ∷ inner) (Characters (93 ∷ []) ∷ []) in
    let link : holds_link inner ≡ nat_lt b.mark links_end = sym (elim (holds_link inner) as (λ u. u || false ≡ u) [ true ↦ refl | false ↦ refl ]) ∙ sym level.link ∙ ap (nat_lt b.mark) (sym same) in
    goes-on rules source targets at (at + 1) old new stands (omega arith) g more read
    (ap (λ t. closed_at rules (defined_in targets) source t at) before ∙ closes-opener rules (defined_in targets) source outer inner b at links_end level.closed.none link order stands.within
    ∙ ap (closed_or outer inner b.image (drop (at + 1) source)) none ∙ ap (λ t. record { items = reverse t; rest = drop (at + 1) source }) (sym is))
    (subst (λ t. Keeps old.runs.list.looks t new.runs.list.looks (items_in more)) (sym before) (subst (λ t. Keeps old.runs.list.looks (outer ++ Opener b.image (drop b.end source) ∷ inner) new.runs.list.looks t) (sym is)
    (subst (λ n. Keeps old.runs.list.looks (outer ++ Opener b.image (drop b.end source) ∷ inner) n (left_as_text outer inner b.image)) (sym looks)
    (keeps-text old.runs.list.looks outer inner b.image (drop b.end source) (bracket_text b.image) (93 ∷ [])))))
