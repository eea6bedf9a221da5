-- The loop of a pass over the code's numbers.
use Rattle.cm_inline.proofs.lemmas.Words.{◌≡◌, inl, inr, ℕ, zero, suc, ◌+◌, ◌^◌, ◌<◌, ◌≤◌, List, [], ◌∷◌, ◌++◌, length, take, drop, get_or, refl, sym, ap, subst, ◌∙◌}
use Rattle.cm_inline.proofs.lemmas.Words.{arith, append_assoc, get_or-map, length-map, drop_more, drop_all, take_all, take-append-le, drop-append-le, sum_by-cons}
use Rattle.cm_inline.proofs.lemmas.Words.{Item, Delimiters, pair_all, passed, HeldRun, Runs, rules}
use Rattle.cm_inline.specs.Closers.{all_kinds}
use Rattle.cm_inline.specs.steps.pairing.ClosingRuns.{AreUnder, State, RunComes, PassGoesOn}
use Rattle.cm_inline.specs.steps.pairing.Events.{Event}
use Rattle.cm_inline.specs.steps.pairing.Parts.{Part, PairedRun, no_run as no_paired_run, events_of}
use Rattle.cm_inline.specs.steps.pairing.Passes.{number_after, paid_by, AreNumbers, AllLeft, CanPass, WaitFrom, AllPaired}
use Rattle.cm_inline.specs.steps.pairing.Readings.{starts_in}
use Rattle.cm_inline.specs.steps.pairing.Segments.{Segment, Waiting, items_in, all_parts, numbers_in, AreSegments}
use Rattle.cm_inline.specs.steps.pairing.States.{Holding, held, no_run, run_at, SameRuns, AreChained, state_of, IsFresh, IsReady, EntriesFrom, Grows, RunSteps}
use Rattle.cm_inline.specs.steps.Depths.{items_depth}
use Rattle.cm_inline.specs.steps.Entries.{Entry, AllOpen}
use Rattle.cm_inline.specs.steps.Searching.{spent, zeros}
use Rattle.cm_inline.specs.steps.Runs.{Listing, paired_run, run_of, pair_in, runs_in, pairs_in}
use Rattle.cm_inline.proofs.lemmas.KeptLemmas.{all-parts, segments-from, segments-grow, segments-same, segments-split, segments-under, first-waits, rising-raised, parts-under}
use Rattle.cm_inline.proofs.lemmas.PassLemmas.{beginning, nothing-spent, rising-done, zeros-zero}
use Rattle.cm_inline.proofs.lemmas.ReachLemmas.{Reached, reached-first, reached-run, reached-end, reached-next, reached-starts, reached-deep, waits-fresh, run-comes, end-stands, end-looks}
use Rattle.cm_inline.proofs.lemmas.StateLemmas.{ready-raised}

-- what the runs of a leaf hold between two runs at hand
abbrev pub held_by : Runs → Holding
held_by runs = held runs.list runs.pairs.items

-- the first number that waits from a place on
abbrev pub first_from : Runs → ℕ → ℕ
first_from runs from = get_or runs.waiting.items from 0

-- the events of segments
abbrev pub events_in : Runs → List Segment → List Event
events_in runs ss = events_of (runs_in runs.list.runs) (pairs_in runs.pairs.items) (all_parts ss)

-- A pass at a place, with no segments at hand.
pub record Passing (old new : Runs) (bottoms : List ℕ) (from at : ℕ) : Type 0 where
  pub next : ℕ
  pub waiting : new.waiting.items ≡ old.waiting.items
  pub ahead : AreNumbers next (length old.list.runs) (drop at old.waiting.items)
  pub some : AllLeft old.list.runs (drop at old.waiting.items)
  pub ready : IsReady (state_of (held_by new) bottoms next).list bottoms
  pub begun : first_from old from ≤ next
  pub above : EntriesFrom (first_from old from) new.list.entries
  pub opened : AllOpen new.list.entries
  pub grows : Grows (first_from old from) next (state_of (held_by old) zeros 0) (state_of (held_by new) bottoms next)
  pub same : SameRuns old.list.runs new.list.runs
  pub chained : AreChained (runs_in old.list.runs) (pairs_in old.pairs.items) → AreChained (runs_in new.list.runs) (pairs_in new.pairs.items)
  pub paid : spent 13 (state_of (held_by new) bottoms next).list bottoms + paid_by old.list.runs (drop at old.waiting.items) ≤ old.list.looks + paid_by old.list.runs (drop from old.waiting.items)

-- and among segments
pub record Reaching (old new : Runs) (bottoms : List ℕ) (inside : List Segment) (numbers : List ℕ) : Type 0 where
  pub next : ℕ
  pub done : List Segment
  pub ahead : List Segment
  pub before : List Item
  pub left : numbers_in ahead ≡ numbers
  pub reached : Reached old.list.looks inside (state_of (held_by new) bottoms next) done ahead before
  pub starts : starts_in (events_in new inside) + length old.pairs.items ≤ starts_in (events_in old inside) + length new.pairs.items

-- at first

numbers-drop : (low high n : ℕ) (ns : List ℕ) → n < length ns → AreNumbers low high ns → AreNumbers (get_or ns n 0) high (drop n ns)
numbers-drop low high n [] h a = absurd (omega (arith, h))
numbers-drop low high zero (k ∷ ns) h a = (omega arith, a.1, a.2)
numbers-drop low high (suc n) (k ∷ ns) h a = numbers-drop (k + 1) high n ns (omega (arith, h)) a.2

ready-none : (looks n : ℕ) → IsReady (record { entries = []; looks = looks; next = n }) zeros
ready-none looks n = search (rules, zeros-zero)

-- the list without its entries
abbrev pub cleared : Runs → Runs
cleared runs = record runs { list = record { runs = runs.list.runs; entries = []; looks = runs.list.looks } }

pub is-cleared : (runs : Runs) (list : Listing) → list.runs ≡ runs.list.runs → list.entries ≡ [] → list.looks ≡ runs.list.looks → record runs { list = list } ≡ cleared runs
is-cleared runs list r e k = λ i. record runs { list = record { runs = r i; entries = e i; looks = k i } }

pub passing-first : (old : Runs) (from : ℕ) → from < length old.waiting.items → CanPass from old → Passing old (cleared old) zeros from from
passing-first old from more can = record {
  next = first_from old from;
  waiting = refl;
  ahead = numbers-drop 0 (length old.list.runs) from old.waiting.items more can.numbers;
  some = can.some;
  ready = ready-none old.list.looks (first_from old from);
  begun = omega arith;
  above = tt;
  opened = tt;
  grows = record { long = refl; others = λ n o. refl; added = []; pairs = nothing (pairs_in old.pairs.items) };
  same = record { long = refl; same = λ n. (refl, refl) };
  chained = λ c. c;
  paid = (let none = nothing-spent 13 old.list.looks (first_from old from) in omega (arith, none));
}
  where
    nothing : {A : Type 0} (xs : List A) → xs ≡ xs ++ []
    nothing [] = refl
    nothing (x ∷ xs) = ap (λ l. x ∷ l) (nothing xs)

-- what waits inside is what waits from the place on
pub inside-waits : (from : ℕ) (old : Runs) (front inside : List Segment) → WaitFrom from old front inside → drop from old.waiting.items ≡ numbers_in inside
inside-waits from old front inside a = ap (drop from) a.waiting ∙ go from (numbers_in front) a.place
  where
    go : (n : ℕ) (xs : List ℕ) → length xs ≡ n → drop n (xs ++ numbers_in inside) ≡ numbers_in inside
    go n xs e = drop-append-le n xs (numbers_in inside) (omega (arith, e)) ∙ ap (λ l. l ++ numbers_in inside) (drop_all n xs (omega (arith, e)))

pub reaching-first : (old : Runs) (from : ℕ) (front inside : List Segment) → WaitFrom from old front inside → Reaching old (cleared old) zeros inside (drop from old.waiting.items)
reaching-first old from front inside a =
    let n = number_after 0 front in
    let s = (segments-split 0 (runs_in old.list.runs) (pairs_in old.pairs.items) front inside a.segments).1 in
    let r = reached-first (runs_in old.list.runs) (pairs_in old.pairs.items) old.list.looks n inside s a.marked in
    search (rules, (sym (inside-waits from old front inside a)), r)

-- a run

grows-both : (low mid high : ℕ) (a b c : State) → mid ≤ high → Grows low mid a b → Grows low high b c → Grows low high a c
grows-both low mid high a b c h g f = search (rules, append_assoc)

same-both : (a b c : List HeldRun) → SameRuns a b → SameRuns b c → SameRuns a c
same-both a b c s t = record { long = t.long ∙ s.long; same = λ n. ((t.same n).0 ∙ (s.same n).0, (t.same n).1 ∙ (s.same n).1) }

-- what waits at a place
pub waits-at : (old : Runs) (at number : ℕ) → at < length old.waiting.items → number ≡ get_or old.waiting.items at 0 → drop at old.waiting.items ≡ number ∷ drop (at + 1) old.waiting.items
waits-at old at number h e = drop_more old.waiting.items at 0 h ∙ ap (λ n. n ∷ drop (at + 1) old.waiting.items) (sym e)

-- what is left of a run that the pass hasn't come to
left-still : (old new : Runs) (bs : List ℕ) (from at number : ℕ) → (p : Passing old new bs from at) → p.next ≤ number → number < length old.list.runs → (run_at new.list.runs number).run.left ≡ (run_at old.list.runs number).run.left
left-still old new bs from at number p ahead there =
    ap (λ (r : PairedRun). r.run.left)
    (sym (get_or-map paired_run new.list.runs number no_run no_paired_run (omega (arith, there, p.same.long))) ∙ p.grows.others number (inr ahead) ∙ get_or-map paired_run old.list.runs number no_run no_paired_run there)

-- a run can be passed
pub record CanStep (old new : Runs) (bottoms : List ℕ) (number : ℕ) : Type 0 where
  pub there : number < length new.list.runs
  pub ready : IsReady (state_of (held_by new) bottoms number).list bottoms
  pub some : 1 ≤ (run_at new.list.runs number).run.left
  pub opened : AllOpen new.list.entries
  pub few : spent 13 (state_of (held_by new) bottoms number).list bottoms < 2 ^ 127

pub can-step : (old new : Runs) (bs : List ℕ) (from at number : ℕ) → CanPass from old → (p : Passing old new bs from at) → drop at old.waiting.items ≡ number ∷ drop (at + 1) old.waiting.items → CanStep old new bs number
can-step old new bs from at number can p e =
    let a : AreNumbers p.next (length old.list.runs) (number ∷ drop (at + 1) old.waiting.items) = subst (AreNumbers p.next (length old.list.runs)) e p.ahead in
    record {
      there = omega (arith, a.1, p.same.long);
      some = omega (arith, (subst (AllLeft old.list.runs) e p.some).0, left-still old new bs from at number p a.0 a.1);
      ready = ready-raised new.list.entries new.list.looks p.next number bs a.0 p.ready;
      opened = p.opened;
      few = omega (arith, p.paid, can.few);
    }

pub passing-step : (old new now : Runs) (bs cs : List ℕ) (from at number : ℕ) → now.waiting.items ≡ new.waiting.items → (p : Passing old new bs from at) → drop at old.waiting.items ≡ number ∷ drop (at + 1) old.waiting.items
    → RunSteps (held_by new) (held_by now) bs cs number (number + 1) (all_kinds + 1 + (run_at new.list.runs number).run.left) → Passing old now cs from (at + 1)
passing-step old new now bs cs from at number w p e s =
    let a = subst (AreNumbers p.next (length old.list.runs)) e p.ahead in
    let g = s.grows (first_from old from) (omega (arith, p.begun, a.0)) p.above in
    let left = left-still old new bs from at number p a.0 a.1 in
    record {
      next = number + 1;
      waiting = w ∙ p.waiting;
      ahead = a.2;
      some = (subst (AllLeft old.list.runs) e p.some).1;
      ready = s.ready;
      begun = omega (arith, p.begun, a.0);
      above = g.0;
      opened = s.opened p.opened;
      grows = grows-both (first_from old from) p.next (number + 1) (state_of (held_by old) zeros 0) (state_of (held_by new) bs p.next) (state_of (held_by now) cs (number + 1)) (omega (arith, a.0)) p.grows (record { long = g.1.long; others = g.1.others; added = g.1.added; pairs = g.1.pairs });
      same = same-both old.list.runs new.list.runs now.list.runs p.same s.same;
      chained = λ c. s.chained (p.chained c);
      paid = omega (arith, p.paid, s.paid, left, ap (paid_by old.list.runs) e, sum_by-cons (λ number. all_kinds + 1 + (run_at old.list.runs number).run.left) number (drop (at + 1) old.waiting.items));
    }

pub reaching-step : (old new now : Runs) (bs cs : List ℕ) (inside : List Segment) (low number : ℕ) (numbers : List ℕ) → Reaching old new bs inside (number ∷ numbers)
    → ((parts : List Part) (had : List Item) → RunComes parts (state_of (held_by new) bs number) (run_of (run_at new.list.runs number).run) had → IsFresh new.list.runs number → PassGoesOn parts (state_of (held_by new) bs number) (run_of (run_at new.list.runs number).run) had (state_of (held_by now) cs (number + 1)) number)
    → Grows low (number + 1) (state_of (held_by new) bs number) (state_of (held_by now) cs (number + 1)) → Reaching old now cs inside numbers
reaching-step old new now bs cs inside low number numbers r next g =
    let a = reached-run old.list.looks inside (state_of (held_by new) bs r.next) r.done r.ahead r.before number numbers r.reached r.left in
    let s = state_of (held_by new) bs a.next in
    let w = waits-fresh new.list.runs number a.run a.reached.segments.1 a.reached.segments.2 in
    let comes = run-comes old.list.looks inside s a.done a.ahead a.before number a.run a.reached in
    let n : PassGoesOn (all_parts a.done) (state_of (held_by new) bs number) a.run a.before (state_of (held_by now) cs (number + 1)) number =
    subst (λ run. PassGoesOn (all_parts a.done) (state_of (held_by new) bs number) run a.before (state_of (held_by now) cs (number + 1)) number) (sym w.0) (next (all_parts a.done) a.before (subst (λ run. RunComes (all_parts a.done) (state_of (held_by new) bs number) run a.before) w.0 comes) w.1) in
    record {
      next = number + 1;
      done = a.done ++ Waiting number a.run ∷ [];
      ahead = a.ahead;
      before = passed a.before (Delimiters a.run);
      left = a.left;
      reached = reached-next old.list.looks inside s (state_of (held_by now) cs (number + 1)) a.done a.ahead a.before low number a.run a.reached n (record { long = g.long; others = g.others; added = g.added; pairs = g.pairs }) refl;
      starts = omega (
        arith,
        r.starts,
        reached-starts old.list.looks inside s (state_of (held_by now) cs (number + 1)) a.done a.ahead a.before low number a.run a.reached n (record { long = g.long; others = g.others; added = g.added; pairs = g.pairs }),
        length-map new.pairs.items pair_in,
        length-map now.pairs.items pair_in,
      );
    }

pub reaching-deep : (old new : Runs) (bs : List ℕ) (inside : List Segment) (number limit : ℕ) (numbers : List ℕ) → Reaching old new bs inside (number ∷ numbers)
    → ((parts : List Part) (had : List Item) → RunComes parts (state_of (held_by new) bs number) (run_of (run_at new.list.runs number).run) had → limit < items_depth (passed had (Delimiters (run_of (run_at new.list.runs number).run))))
    → limit < items_depth (pair_all (items_in inside))
reaching-deep old new bs inside number limit numbers r deep =
    let a = reached-run old.list.looks inside (state_of (held_by new) bs r.next) r.done r.ahead r.before number numbers r.reached r.left in
    let s = state_of (held_by new) bs a.next in
    let w = waits-fresh new.list.runs number a.run a.reached.segments.1 a.reached.segments.2 in
    let comes = run-comes old.list.looks inside s a.done a.ahead a.before number a.run a.reached in
    reached-deep old.list.looks inside s a.done a.ahead a.before number limit a.run a.reached
    (subst (λ run. limit < items_depth (passed a.before (Delimiters run))) (sym w.0) (deep (all_parts a.done) a.before (subst (λ run. RunComes (all_parts a.done) (state_of (held_by new) bs number) run a.before) w.0 comes)))

-- at the end

pub passes-at : (old new : Runs) (from next : ℕ) (front inside : List Segment) (before : List Item) (entries : List Entry) (bs : List ℕ) → WaitFrom from old front inside
    → Reached old.list.looks inside (record { runs = runs_in new.list.runs; pairs = pairs_in new.pairs.items; list = record { entries = entries; looks = new.list.looks; next = next }; bottoms = bs }) inside [] before
    → AreSegments (runs_in new.list.runs) (pairs_in new.pairs.items) 0 front → events_in new front ≡ events_in old front → starts_in (events_in new inside) + length old.pairs.items ≤ starts_in (events_in old inside) + length new.pairs.items
    → new.waiting.items ≡ take from old.waiting.items → AllPaired old new front inside
passes-at old new from next front inside before entries bs a r stays same starts w =
    let n = number_after 0 front in
    let runs = runs_in new.list.runs in
    let pairs = pairs_in new.pairs.items in
    let s : State = record { runs = runs; pairs = pairs; list = record { entries = entries; looks = new.list.looks; next = next }; bottoms = bs } in
    let after : AreSegments (runs_in old.list.runs) (pairs_in old.pairs.items) n inside = (segments-split 0 (runs_in old.list.runs) (pairs_in old.pairs.items) front inside a.segments).1 in
    search (
      rules,
      stays,
      same,
      (end-stands old.list.looks inside s before r),
      (rising-raised n 0 runs pairs (all_parts inside) (all-parts (λ k. n ≤ k) inside
          (segments-from n n (runs_in old.list.runs) (pairs_in old.pairs.items) inside (omega arith) after)) r.holds.marked (rising-done (all_parts inside) s before r.holds)),
      (subst (λ k. AreUnder k (all_parts inside)) (length-map new.list.runs paired_run) (parts-under runs pairs (all_parts inside) r.holds.marked)),
      starts,
      (w ∙ ap (take from) a.waiting ∙ take-append-le from (numbers_in front) (numbers_in inside) (omega (arith, a.place)) ∙ take_all from (numbers_in front) (omega (arith, a.place))),
      (end-looks old.list.looks inside s before r),
    )

-- where nothing waits
pub passes-none : (old : Runs) (from : ℕ) (front inside : List Segment) → from ≡ length old.waiting.items → WaitFrom from old front inside → AllPaired old old front inside
passes-none old from front inside e a =
    let s = segments-split 0 (runs_in old.list.runs) (pairs_in old.pairs.items) front inside a.segments in
    let n = number_after 0 front in
    let r = reached-first (runs_in old.list.runs) (pairs_in old.pairs.items) old.list.looks n inside s.1 a.marked in
    let none : numbers_in inside ≡ [] = sym (inside-waits from old front inside a) ∙ drop_all from old.waiting.items (omega (arith, e)) in
    let end = reached-end old.list.looks inside (beginning (runs_in old.list.runs) (pairs_in old.pairs.items) old.list.looks n) [] inside [] r none in
    passes-at old old from end.next front inside end.before [] zeros a end.reached s.0 refl (omega arith) (sym (take_all from old.waiting.items (omega (arith, e))))

pub passes-all : (old new : Runs) (bs : List ℕ) (from at : ℕ) (front inside : List Segment) → from < length old.waiting.items → length old.waiting.items ≤ at → WaitFrom from old front inside → Passing old new bs from at → Reaching old new bs inside (drop at old.waiting.items)
    → (now : Runs) → now.list ≡ new.list → now.pairs ≡ new.pairs → now.waiting.items ≡ take from new.waiting.items → AllPaired old now front inside
passes-all old new bs from at front inside more last a p r now il ip w =
    let none : numbers_in r.ahead ≡ [] = r.left ∙ drop_all at old.waiting.items last in
    let end = reached-end old.list.looks inside (state_of (held_by new) bs r.next) r.done r.ahead r.before r.reached none in
    let s = segments-split 0 (runs_in old.list.runs) (pairs_in old.pairs.items) front inside a.segments in
    let first = first_from old from in
    let high : number_after 0 front ≤ first = first-waits (number_after 0 front) first (drop (from + 1) old.waiting.items) (runs_in old.list.runs) (pairs_in old.pairs.items) inside s.1 (sym (inside-waits from old front inside a) ∙ drop_more old.waiting.items from 0 more) in
    let under = segments-under first 0 (runs_in old.list.runs) (pairs_in old.pairs.items) front high s.0 in
    let stays : AreSegments (runs_in new.list.runs) (pairs_in new.pairs.items) 0 front = segments-grow (λ k. k < first) first p.next 0 (state_of (held_by old) zeros 0) (state_of (held_by new) bs p.next) front p.grows (λ k h. inl h) under s.0 in
    let same : events_in new front ≡ events_in old front = segments-same (λ k. k < first) first p.next 0 (state_of (held_by old) zeros 0) (state_of (held_by new) bs p.next) front p.grows (λ k h. inl h) under s.0 in
    subst (λ (v : Runs). AllPaired old v front inside) (sym (same-runs now new il ip)) (passes-at old (record new { waiting = now.waiting }) from end.next front inside end.before new.list.entries bs a end.reached stays same r.starts (w ∙ ap (take from) p.waiting))
  where
    same-runs : (now new : Runs) → now.list ≡ new.list → now.pairs ≡ new.pairs → now ≡ record new { waiting = now.waiting }
    same-runs now new l p = λ i. record { list = l i; waiting = now.waiting; pairs = p i }
