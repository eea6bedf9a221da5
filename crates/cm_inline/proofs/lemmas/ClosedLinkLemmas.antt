-- A `]` that makes a link or an image.
use Rattle.cm_inline.proofs.lemmas.Words.{◌≡◌, ◌⊎◌, inl, inr, ℕ, zero, suc, ◌+◌, ◌<◌, ◌≤◌, ◌==◌, Bool, true, false, not, ◌||◌, List, [], ◌∷◌, ◌++◌, length, take, drop}
use Rattle.cm_inline.proofs.lemmas.Words.{get_or, set, reverse, Some, refl, sym, ap, subst, ◌∙◌, arith, append_assoc, append-nil, length-append, nat_lt, if◌then◌else◌}
use Rattle.cm_inline.proofs.lemmas.Words.{slice_range, IsCharBoundary, nat_tests, reverse-append, length-map, Rules, Targets, defined_in, is_linked, holds_link, made}
use Rattle.cm_inline.proofs.lemmas.Words.{Item, Finished, Opener, emphasis_of, pair_all, Bracket, Link, Reader, Mark, Kind, HeldPair, HeldRun, rules}
use Rattle.std.proofs.Math.Seq.{set-append_seam}
use Rattle.cm_inline.specs.declared.links.Target.{Target as PlacedTarget}
use Rattle.cm_inline.specs.declared.marks.Kind.TheVariants as kinds
use Rattle.cm_inline.specs.steps.pairing.Events.{Event, Rest, Start, End, Tag, LinkTag, made_of}
use Rattle.cm_inline.specs.steps.pairing.Parts.{Pair, PairedRun, Part, Known, no_run as no_paired_run, chain, ends, run_events, part_events, events_of}
use Rattle.cm_inline.specs.steps.pairing.Passes.{number_after, WaitFrom, AllPaired}
use Rattle.cm_inline.specs.steps.pairing.Readings.{is_number, AreFree, IsAlone, starts_in}
use Rattle.cm_inline.specs.steps.pairing.States.{SameRuns, AreChained}
use Rattle.cm_inline.specs.steps.pairing.Segments.{Segment, Made, items_in, all_parts, numbers_in, IsMade, AreSegments}
use Rattle.cm_inline.specs.steps.Brackets.{MarkedLeaf, View, view_of, leaf_of, is_opener, has_opener, AreClosed, opened, Level, AreOpen, IsRead, IsReadTo, Reading, closed_at, end_for}
use Rattle.cm_inline.specs.steps.Marks.{target_in, link_tag, tag_numbered, no_link, mark_at, part_of, part_of_kind, IsTargetIn, IsLinkIn, IsOfKind, texts, parts_between, AreLaid}
use Rattle.cm_inline.specs.steps.Missing.{Knows}
use Rattle.cm_inline.specs.steps.Pairs.{AreLooks, Keeps}
use Rattle.cm_inline.specs.steps.Reads.{Stands}
use Rattle.cm_inline.specs.steps.Runs.{runs_in, pairs_in, pair_in}
use Rattle.cm_inline.proofs.lemmas.BracketLemmas.{closes-opener, link_made, closed_or}
use Rattle.cm_inline.proofs.lemmas.CallerLemmas.{beyond-append, segments-append, linked_parts, link-made, made-linked}
use Rattle.cm_inline.proofs.lemmas.KeptLemmas.{beyond-after, segments-split}
use Rattle.cm_inline.proofs.lemmas.PassLemmas.{rising-lower}
use Rattle.cm_inline.proofs.lemmas.JoinLemmas.{Later, laid-join, laid-later, parts-join, parts-later, parts-one}
use Rattle.cm_inline.proofs.lemmas.KeepsLemmas.{keeps-link}
use Rattle.cm_inline.proofs.lemmas.OpenLemmas.{open-more, later_leaf, open-later, open-linked, items-append, numbers-append}
use Rattle.cm_inline.proofs.lemmas.ReaderLemmas.{starts-more, none-laid}
use Rattle.cm_inline.proofs.lemmas.EmphasisLemmas.{settled-holds}
use Rattle.cm_inline.proofs.lemmas.ReadingLemmas.{starts-append}
use Rattle.cm_inline.proofs.lemmas.RightBracketLemmas.{goes-on, old-items, both, low, left-runs}
use Rattle.cm_inline.proofs.lemmas.SliceLemmas.{slice-none}
use Rattle.cm_inline.proofs.lemmas.StandLemmas.{runs-append}
use Rattle.cm_inline.proofs.lemmas.LaidLemmas.{events-append}

pub or-none : (u : Bool) → u || false ≡ u
or-none u = grind (arith, nat_tests)

-- No link of a number ends among marks of links with lower numbers.

abbrev ArePlain : ℕ → List Pair → Type 0
ArePlain n [] = Unit {0}
ArePlain n (p ∷ ps) = (is_number n p.tag ≡ false) × ArePlain n ps

held-plain : (n : ℕ) (ps : List HeldPair) → ArePlain n (pairs_in ps)
held-plain n [] = tt
held-plain n (p ∷ ps) = search (rules, (held-plain n ps))

plain-take : (n k : ℕ) (ps : List Pair) → ArePlain n ps → ArePlain n (take k ps)
plain-take n zero ps h = tt
plain-take n (suc k) [] h = tt
plain-take n (suc k) (p ∷ ps) h = (h.0, plain-take n k ps h.1)

plain-drop : (n k : ℕ) (ps : List Pair) → ArePlain n ps → ArePlain n (drop k ps)
plain-drop n zero ps h = h
plain-drop n (suc k) [] h = tt
plain-drop n (suc k) (p ∷ ps) h = plain-drop n k ps h.1

free-append : (n : ℕ) (fs gs : List Event) → AreFree n fs → AreFree n gs → AreFree n (fs ++ gs)
free-append n [] gs h g = g
free-append n (f ∷ fs) gs h g = (h.0, free-append n fs gs h.1 g)

free-ends : (n : ℕ) (ps : List Pair) → ArePlain n ps → AreFree n (ends ps)
free-ends n [] h = tt
free-ends n (p ∷ ps) h = (h.0, free-ends n ps h.1)

free-chain : (n : ℕ) (ps : List Pair) (k : ℕ) → AreFree n (chain ps k)
unfolding chain
free-chain n [] k = tt
free-chain n (p ∷ ps) k = search (rules, (free-chain n ps p.before), (free-chain n ps k))

free-run : (n number : ℕ) (ps : List HeldPair) (x : PairedRun) → AreFree n (run_events (pairs_in ps) number x)
free-run n number ps x =
    free-append n (ends (drop x.from (take x.to (pairs_in ps)))) (Rest number x.run ∷ chain (reverse (pairs_in ps)) x.opened)
    (free-ends n (drop x.from (take x.to (pairs_in ps))) (plain-drop n x.from (take x.to (pairs_in ps)) (plain-take n x.to (pairs_in ps) (held-plain n ps)))) (tt, free-chain n (reverse (pairs_in ps)) x.opened)

free-texts : (n : ℕ) (runs : List PairedRun) (pairs : List Pair) (text : List ℕ) → AreFree n (events_of runs pairs (texts text))
unfolding events_of
free-texts n runs pairs [] = tt
free-texts n runs pairs (b ∷ bs) = search (rules, (free-texts n runs pairs bs))

not-equal : (k n : ℕ) → k < n → (k == n) ≡ false
not-equal k n h = grind (arith, nat_tests, h)

free-mark : (source : List ℕ) (targets : Targets) (held : List HeldRun) (links : List Link) (n : ℕ) (runs : List PairedRun) (ps : List HeldPair) (at end : ℕ) (kind : Kind) → length links ≤ n → IsOfKind source targets held links at end kind
    → AreFree n (part_events runs (pairs_in ps) (part_of_kind source targets links at end kind))
free-mark source targets held links n runs ps at end kinds.Nothing high is = tt
free-mark source targets held links n runs ps at end (kinds.Run number) high is = free-run n number ps (get_or runs number no_paired_run)
free-mark source targets held links n runs ps at end (kinds.End number) high is = (not-equal number n (omega (arith, is.known, high)), tt)
free-mark source targets held links n runs ps at end _ high is = (tt, tt)

free-marks : (lines : Bool) (source : List ℕ) (targets : Targets) (held : List HeldRun) (links : List Link) (n : ℕ) (runs : List PairedRun) (ps : List HeldPair) (from to : ℕ) (ms : List Mark) → length links ≤ n → AreLaid lines source targets held links from to ms
    → AreFree n (events_of runs (pairs_in ps) (parts_between source targets links from to ms))
unfolding parts_between events_of
free-marks lines source targets held links n runs ps from to [] high laid = free-texts n runs (pairs_in ps) (slice_range source from to)
free-marks lines source targets held links n runs ps from to (m ∷ ms) high laid = search
    (rules, events-append, free-append, free-texts, free-mark, (free-marks lines source targets held links n runs ps m.end to ms high laid.3))

made-lower : (runs : List PairedRun) (pairs : List Pair) (low higher : ℕ) (parts : List Part) (item : Item) (high : ℕ) → low ≤ higher → IsMade runs pairs higher parts item high → IsMade runs pairs low parts item high
made-lower runs pairs low higher parts item high p m = search (rules, low, rising-lower)

-- a link or an image, as an item
link-item : (runs : List PairedRun) (pairs : List Pair) (low : ℕ) (parts : List Part) (high n : ℕ) (image : Bool) (dest title : List ℕ) (inner : List Item)
    → IsMade runs pairs low parts (Finished (made_of (LinkTag n image dest title) (emphasis_of inner))) high → IsMade runs pairs low parts (made image dest title inner) high
link-item runs pairs low parts high n image dest title inner m = grind (arith, nat_tests, low, made-linked)

link-linked : (image : Bool) (dest title : List ℕ) (inner : List Item) → is_linked (made image dest title inner) ≡ not image || holds_link inner
link-linked image dest title inner = grind (arith, nat_tests)

link-closed : (image : Bool) (dest title : List ℕ) (inner : List Item) → is_opener (made image dest title inner) ≡ false
link-closed image dest title inner = grind (arith, nat_tests)

-- A link or an image was made of the last bracket and of all that is after it.
pub record IsLinked (source : List ℕ) (at end : ℕ) (old new : Reader) (b : Bracket) (target : PlacedTarget) : Type 0 where
  pub marks : new.marks.items ≡ set old.marks.items b.mark (mark_at (get_or old.marks.items b.mark (mark_at 0 0 kinds.Plain)).at (get_or old.marks.items b.mark (mark_at 0 0 kinds.Plain)).end (kinds.Start (length old.links.items)))
      ++ mark_at at end (kinds.End (length old.links.items)) ∷ []
  pub links : new.links.items ≡ old.links.items ++ record { image = b.image; target = target } ∷ []
  pub links_end : new.links_end ≡ (if not b.image || nat_lt b.mark old.links_end then length old.marks.items + 1 else old.links_end)
  pub lines : new.lines ≡ old.lines
  pub knows : Knows source new.ends
  pub passes : (front inside : List Segment) → WaitFrom b.waiting old.runs front inside → AllPaired old.runs new.runs front inside
  pub runs : SameRuns old.runs.list.runs new.runs.list.runs
  pub chained : AreChained (runs_in new.runs.list.runs) (pairs_in new.runs.pairs.items)

get-seam : {A : Type 0} (xs : List A) (y : A) (ys : List A) (d : A) → get_or (xs ++ y ∷ ys) (length xs) d ≡ y
get-seam [] y ys d = refl
get-seam (x ∷ xs) y ys d = get-seam xs y ys d

-- The segments before and after the last open bracket, with what the pairing of runs asks of them.
module _ (source : List ℕ) (targets : Targets) (at : ℕ) (old : Reader) (b : Bracket) (bs : List Bracket) (segments : List Segment) (r : IsRead source targets at (view_of old) (b ∷ bs) segments) where
  abbrev pub front : List Segment
  front = r.open_are.front

  abbrev pub inside : List Segment
  inside = r.open_are.inside

  abbrev pub before : List Segment
  before = front ++ opened source b r.open_are.high ∷ []

  -- all segments again
  pub again : segments ≡ before ++ inside
  again = r.open_are.whole ∙ sym (append_assoc front (opened source b r.open_are.high ∷ []) inside)

  numbers-before : numbers_in before ≡ numbers_in front
  unfolding numbers_in
  numbers-before = numbers-append front (opened source b r.open_are.high ∷ []) ∙ append-nil (numbers_in front)

  pub awaits : WaitFrom b.waiting old.runs before inside
  awaits = record {
    waiting = r.waiting ∙ ap numbers_in again ∙ numbers-append before inside;
    place = ap length numbers-before ∙ sym r.open_are.waiting;
    segments = subst (AreSegments (runs_in old.runs.list.runs) (pairs_in old.runs.pairs.items) 0) again r.segments_are;
    marked = (left-runs source targets at (view_of old) b bs segments r).1;
  }

module _ (source : List ℕ) (targets : Targets) (at end : ℕ) (old new : Reader) (b : Bracket) (bs : List Bracket) (target : PlacedTarget) (segments : List Segment) (r : IsRead source targets at (view_of old) (b ∷ bs) segments)
    (s : IsLinked source at end old new b target) (order : at < end) (boundary : IsCharBoundary source end) (there : IsTargetIn source targets target) (bracket_at : IsCharBoundary source at) where
  abbrev v : View
  v = view_of old

  abbrev leaf : MarkedLeaf
  leaf = leaf_of source targets v

  abbrev level : Level (AreOpen leaf bs) leaf b segments v.marks at false
  level = r.open_are

  abbrev outside : List Segment
  outside = front source targets at old b bs segments r

  abbrev within : List Segment
  within = inside source targets at old b bs segments r

  abbrev earlier : List Segment
  earlier = before source targets at old b bs segments r

  abbrev n : ℕ
  n = length old.links.items

  abbrev link : Link
  link = record { image = b.image; target = target }

  abbrev links : List Link
  links = old.links.items ++ link ∷ []

  abbrev dest : List ℕ
  dest = (target_in source targets target).0

  abbrev title : List ℕ
  title = (target_in source targets target).1

  abbrev tag : Tag
  tag = LinkTag n b.image dest title

  abbrev item : Item
  item = made b.image dest title (items_in within)

  abbrev runs : List PairedRun
  runs = runs_in new.runs.list.runs

  abbrev pairs : List Pair
  pairs = pairs_in new.runs.pairs.items

  abbrev segment : Segment
  segment = Made (linked_parts tag (all_parts within)) item (length new.runs.list.runs)

  abbrev held : AreSegments (runs_in v.runs) (pairs_in v.pairs) 0 outside × AreSegments (runs_in v.runs) (pairs_in v.pairs) (number_after 0 outside) (opened source b level.high ∷ within)
  held = both source targets at v b bs segments r

  abbrev p : AllPaired old.runs new.runs earlier within
  p = s.passes earlier within (awaits source targets at old b bs segments r)

  later : Later v.runs new.runs.list.runs
  later number h = (omega (arith, s.runs.long, h), (s.runs.same number).0, (s.runs.same number).1)

  high-before : number_after 0 earlier ≡ level.high
  unfolding number_after
  high-before = beyond-append 0 outside (opened source b level.high ∷ [])

  high : number_after 0 earlier ≤ length new.runs.list.runs
  unfolding number_after
  high =
      let whole = ap (number_after 0) (again source targets at old b bs segments r) ∙ beyond-append 0 earlier within in
      let after = beyond-after level.high (runs_in v.runs) (pairs_in v.pairs) within held.1.1 in
      omega (arith, r.high, whole, ap (λ k. number_after k within) high-before, high-before, after, s.runs.long)

  alone : IsAlone tag (events_of runs pairs (all_parts within))
  alone = search (rules, free-marks)

  is-made : IsMade runs pairs (number_after 0 outside) (linked_parts tag (all_parts within)) item (length new.runs.list.runs)
  is-made =
      made-lower runs pairs (number_after 0 outside) (number_after 0 earlier) (linked_parts tag (all_parts within)) item (length new.runs.list.runs) (omega (arith, high-before, held.1.0.high_is))
      (link-item runs pairs (number_after 0 earlier) (linked_parts tag (all_parts within)) (length new.runs.list.runs) n b.image dest title (items_in within) (link-made old.runs new.runs earlier within tag p high alone))

  segments-are : AreSegments runs pairs 0 (outside ++ segment ∷ [])
  segments-are =
      segments-append 0 runs pairs outside (segment ∷ []) (segments-split 0 runs pairs outside (opened source b level.high ∷ []) p.front_stays).0 (is-made, tt)

  -- its marks
  abbrev start : Mark
  start = mark_at level.at b.end (kinds.Start n)

  abbrev stop : Mark
  stop = mark_at at end (kinds.End n)

  abbrev opener : Mark
  opener = mark_at level.at b.end kinds.Plain

  marks-are : new.marks.items ≡ level.early ++ start ∷ (level.late ++ stop ∷ [])
  marks-are = search (rules, get-seam, set-append_seam, append_assoc)

  abbrev now : MarkedLeaf
  now = later_leaf leaf new.runs.list.runs (link ∷ []) new.links_end

  known : get_or links n no_link ≡ link
  known = get-seam old.links.items link [] no_link

  is-link : IsLinkIn source targets links n
  is-link = grind (arith, nat_tests, known, length-append)

  late-laid : AreLaid v.lines source targets new.runs.list.runs links b.end at level.late
  late-laid = laid-later v.lines source targets v.runs new.runs.list.runs v.links (link ∷ []) later b.end at level.late level.closed.laid

  stop-laid : AreLaid v.lines source targets new.runs.list.runs links at end (stop ∷ [])
  stop-laid = (none-laid v.lines source at bracket_at, (omega (arith, order), bracket_at, boundary), is-link, none-laid v.lines source end boundary)

  closed-parts : all_parts (segment ∷ []) ≡ parts_between source targets links level.at end (start ∷ (level.late ++ stop ∷ []))
  unfolding all_parts parts_between
  closed-parts =
      let tagged : (f : Tag → Event) → Known (f tag ∷ []) ≡ Known (f (tag_numbered source targets links n) ∷ []) = λ f. ap (λ l. Known (f (link_tag source targets n l) ∷ [])) (sym known) in
      append-nil (linked_parts tag (all_parts within))
      ∙ ap (λ t. Known (Start tag ∷ []) ∷ (t ++ Known (End tag ∷ []) ∷ [])) (level.closed.parts ∙ sym (parts-later v.lines source targets v.runs new.runs.list.runs v.links (link ∷ []) later b.end at level.late level.closed.laid))
      ∙ ap (λ t. t ∷ (parts_between source targets links b.end at level.late ++ Known (End tag ∷ []) ∷ [])) (tagged Start)
      ∙ ap (λ t. part_of source targets links start ∷ (parts_between source targets links b.end at level.late ++ t ∷ [])) (tagged End)
      ∙ ap (λ t. part_of source targets links start ∷ (parts_between source targets links b.end at level.late ++ t)) (sym (parts-one v.lines source targets new.runs.list.runs links stop))
      ∙ ap (λ t. part_of source targets links start ∷ t) (sym (parts-join v.lines source targets new.runs.list.runs links b.end at end level.late (stop ∷ []) late-laid stop-laid))
      ∙ ap (λ t. texts t ++ part_of source targets links start ∷ parts_between source targets links b.end end (level.late ++ stop ∷ [])) (sym (slice-none source level.at))

  closed : AreClosed now level.at end (segment ∷ []) (start ∷ (level.late ++ stop ∷ []))
  unfolding items_in has_opener
  closed = grind (arith, nat_tests, closed-parts, none-laid, low, is-link, laid-join, late-laid, stop-laid, link-closed)

  linked : nat_lt b.mark v.links_end ≡ holds_link (items_in within)
  linked = level.link ∙ or-none (holds_link (items_in within))

  abbrev holds : Bool
  holds = not b.image || nat_lt b.mark v.links_end

  holds-it : holds_link (items_in (segment ∷ [])) || false ≡ holds
  unfolding items_in holds_link
  holds-it = or-none (is_linked item || false) ∙ or-none (is_linked item) ∙ link-linked b.image dest title (items_in within) ∙ ap (λ u. not b.image || u) (sym linked)

  below : AreOpen now bs outside level.early level.at holds
  below = go holds refl
    where
      none : (u w : Bool) → (u || w) ≡ false → w ≡ false
      none true w e = absurd (cc e)
      none false w e = e

      go : (u : Bool) → holds ≡ u → AreOpen now bs outside level.early level.at u
      go true e =
          let beyond : new.links_end ≡ length v.marks + 1 = s.links_end ∙ ap (λ u. if u then length v.marks + 1 else v.links_end) e in
          open-linked leaf new.runs.list.runs (link ∷ []) new.links_end bs outside level.early level.at (holds_link (items_in within) || false) later
          (omega (arith, beyond, ap length level.marks_are, length-append level.early (opener ∷ level.late))) level.below
      go false e =
          let same : new.links_end ≡ v.links_end = s.links_end ∙ ap (λ u. if u then length v.marks + 1 else v.links_end) e in
          let not_linked : holds_link (items_in within) || false ≡ false = sym level.link ∙ none (not b.image) (nat_lt b.mark v.links_end) e in
          subst (λ k. AreOpen (later_leaf leaf new.runs.list.runs (link ∷ []) k) bs outside level.early level.at false) (sym same)
          (open-later leaf new.runs.list.runs (link ∷ []) bs outside level.early level.at false later (subst (AreOpen leaf bs outside level.early level.at) not_linked level.below))

  open-now : AreOpen now bs (outside ++ segment ∷ []) (level.early ++ start ∷ (level.late ++ stop ∷ [])) end false
  open-now = open-more now bs outside (segment ∷ []) level.early (start ∷ (level.late ++ stop ∷ [])) level.at end false (subst (AreOpen now bs outside level.early level.at) (sym holds-it) below) closed

  new-open : AreOpen (leaf_of source targets (view_of new)) bs (outside ++ segment ∷ []) new.marks.items end false
  new-open = search (rules, marks-are, open-now)

  starts-are : starts_in (events_of runs pairs (all_parts (outside ++ segment ∷ []))) ≤ length pairs + length links
  unfolding all_parts events_of
  starts-are =
      let olds = runs_in v.runs in
      let olds_pairs = pairs_in v.pairs in
      let ended = ap starts_in (events-append runs pairs (all_parts within) (Known (End tag ∷ []) ∷ [])) ∙ starts-append (events_of runs pairs (all_parts within)) (End tag ∷ []) in
      let one : starts_in (events_of runs pairs (all_parts (segment ∷ []))) ≡ suc (starts_in (events_of runs pairs (all_parts within))) =
      ap (λ t. starts_in (events_of runs pairs t)) (append-nil (linked_parts tag (all_parts within))) ∙ ap suc (omega (arith, ended)) in
      omega (
        arith,
        r.starts,
        ap (λ t. starts_in (events_of olds olds_pairs (all_parts t))) (again source targets at old b bs segments r),
        starts-more olds olds_pairs earlier within,
        starts-more olds olds_pairs outside (opened source b level.high ∷ []),
        starts-more runs pairs outside (opened source b level.high ∷ []),
        ap starts_in p.front_same,
        starts-more runs pairs outside (segment ∷ []),
        one,
        p.starts,
        length-map old.runs.pairs.items pair_in,
        length-map new.runs.pairs.items pair_in,
        length-append old.links.items (link ∷ []),
      )

  link-read : IsRead source targets end (view_of new) bs (outside ++ segment ∷ [])
  unfolding numbers_in number_after
  link-read = record {
    short = r.short;
    utf8 = r.utf8;
    boundary = boundary;
    knows = s.knows;
    open_are = new-open;
    segments_are = segments-are;
    runs_are = runs-append outside (segment ∷ []) (left-runs source targets at v b bs segments r).0 tt;
    waiting = p.waiting ∙ numbers-before source targets at old b bs segments r ∙ sym (numbers-append outside (segment ∷ []) ∙ append-nil (numbers_in outside));
    chained = s.chained;
    links_low = low-end holds refl;
    few_runs = omega (arith, r.few_runs, s.runs.long, order);
    few_links = omega (arith, r.few_links, ap length s.links, length-append old.links.items (link ∷ []), order);
    high = omega (arith, beyond-append 0 outside (segment ∷ []));
    starts = omega (arith, starts-are, length-map new.runs.pairs.items pair_in, ap length s.links);
  }
    where
      go : (u : Bool) → new.links_end ≡ (if u then length v.marks + 1 else v.links_end) → (new.links_end ≤ length v.marks + 1) ⊎ (new.links_end ≤ v.links_end)
      go true e = inl (omega (arith, e))
      go false e = inr (omega (arith, e))

      low-end : (u : Bool) → holds ≡ u → new.links_end ≤ length new.marks.items
      low-end u e = omega (arith, r.links_low, ap length marks-are, length-append level.early (start ∷ (level.late ++ stop ∷ [])), length-append level.late (stop ∷ []), ap length level.marks_are, length-append level.early (opener ∷ level.late), go u (s.links_end ∙ ap (λ u. if u then length v.marks + 1 else v.links_end) e))

-- the items with a link or an image for the bracket and what is after it
made-items : (front inside : List Segment) (image : Bool) (dest title : List ℕ) (high : ℕ) (parts : List Part) → items_in (front ++ Made parts (made image dest title (items_in inside)) high ∷ []) ≡ link_made (items_in front) (items_in inside) image dest title
unfolding items_in
made-items front inside image dest title high parts = items-append front (Made parts (made image dest title (items_in inside)) high ∷ [])

-- The source is read on after it.
pub link-closes : (rules : Rules) (source : List ℕ) (targets : Targets) (at end : ℕ) (was old new : Reader) (others : List Bracket) (b : Bracket) (target : PlacedTarget) → Stands source at 93 → was.brackets.items ≡ others ++ b ∷ [] → new.brackets.items ≡ others
    → view_of old ≡ view_of was → was.runs.list.looks ≡ old.runs.list.looks → at < end → IsCharBoundary source end → IsTargetIn source targets target → b.end ≤ at
    → end_for rules (defined_in targets) source b old.links_end at ≡ Some (record { dest = (target_in source targets target).0; title = (target_in source targets target).1; rest = drop end source })
    → IsLinked source at end old new b target → Reading rules source targets at was → Reading rules source targets end new
link-closes rules source targets at end was old new others b target stands had has view looks further boundary there order ends s g =
    let bs = reverse others in
    let r : IsRead source targets at (view_of old) (b ∷ bs) g.segments =
    subst (λ t. IsRead source targets at (view_of old) t g.segments) (ap reverse had ∙ reverse-append others (b ∷ [])) (subst (λ w. IsRead source targets at w (reverse was.brackets.items) g.segments) (sym view) g.read) in
    let level = r.open_are in
    let outer = items_in level.front in
    let inner = items_in level.inside in
    let dest = (target_in source targets target).0 in
    let title = (target_in source targets target).1 in
    let one = segment source targets at end old new b bs target g.segments r s further boundary there r.boundary in
    let more = level.front ++ one ∷ [] in
    let read : IsReadTo source targets end new more = subst (λ t. IsRead source targets end (view_of new) (reverse t) more) (sym has) (link-read source targets at end old new b bs target g.segments r s further boundary there r.boundary) in
    let before = old-items source targets at (view_of old) b bs g.segments r in
    let is : items_in more ≡ link_made outer inner b.image dest title = made-items level.front level.inside b.image dest title (length new.runs.list.runs) (linked_parts (LinkTag (length old.links.items) b.image dest title) (all_parts level.inside)) in
    let holds : holds_link inner ≡ nat_lt b.mark old.links_end = sym (or-none (holds_link inner)) ∙ sym level.link in
    let pass = p source targets at end old new b bs target g.segments r s further boundary there r.boundary in
    goes-on rules source targets at end was new stands further g more read
    (ap (λ t. closed_at rules (defined_in targets) source t at) before ∙ closes-opener rules (defined_in targets) source outer inner b at old.links_end level.closed.none holds order stands.within
    ∙ ap (closed_or outer inner b.image (drop (at + 1) source)) ends ∙ ap (λ t. record { items = reverse t; rest = drop end source }) (sym is))
    (subst (λ n. Keeps n (items_in g.segments) new.runs.list.looks (items_in more)) (sym looks)
    (subst (λ t. Keeps old.runs.list.looks t new.runs.list.looks (items_in more)) (sym before) (subst (λ t. Keeps old.runs.list.looks (outer ++ Opener b.image (drop b.end source) ∷ inner) new.runs.list.looks t) (sym is)
    (keeps-link old.runs.list.looks outer inner b.image (drop b.end source) dest title new.runs.list.looks (subst (AreLooks old.runs.list.looks inner new.runs.list.looks) (sym (settled-holds (pair_all inner))) pass.looks)))))
