-- How far a pass has come among segments: those that it is done with stand for items, and what is ahead waits.
use Rattle.cm_inline.proofs.lemmas.Words.{◌≡◌, inr, ℕ, ◌+◌, ◌<◌, ◌≤◌, List, [], ◌∷◌, ◌++◌, length, get_or, refl, sym, ap, subst, ◌∙◌, arith, append-nil, append_assoc}
use Rattle.cm_inline.proofs.lemmas.Words.{get_or-map, length-map, sum_by-cons, Run, Item, Delimiters, pair_all, passed, pass_from, pairs_in_one_pass, HeldRun}
use Rattle.cm_inline.specs.steps.pairing.ClosingRuns.{State, PartsHold, RunComes, PassGoesOn}
use Rattle.cm_inline.specs.steps.pairing.Paired.{AreRuns}
use Rattle.cm_inline.specs.steps.pairing.Parts.{Pair, PairedRun, Part, Numbered, no_run as no_paired_run, events_of}
use Rattle.cm_inline.specs.steps.pairing.Readings.{StandFor, starts_in}
use Rattle.cm_inline.specs.steps.pairing.Segments.{Segment, Waiting, Made, parts_in, items_in, all_parts, numbers_in, fresh, AreSegments}
use Rattle.cm_inline.specs.steps.pairing.States.{no_run, run_at, IsFresh, Grows}
use Rattle.cm_inline.specs.steps.Depths.{items_depth}
use Rattle.cm_inline.specs.steps.Searching.{spent}
use Rattle.cm_inline.specs.steps.Pairs.{items_emphases, allowed, allowance, AreOf, AreLooks}
use Rattle.cm_inline.specs.steps.Runs.{paired_run, run_of, runs_in}
use Rattle.cm_inline.proofs.lemmas.ClosingLemmas.{low-parts}
use Rattle.cm_inline.proofs.lemmas.EmphasisLemmas.{reversed-hold}
use Rattle.cm_inline.proofs.lemmas.KeptLemmas.{segments-grow, segments-same, segments-from}
use Rattle.cm_inline.proofs.lemmas.PairDepthLemmas.{pass-deeper}
use Rattle.cm_inline.proofs.lemmas.PassLemmas.{with_next, holds-raised, holds-nothing, beginning, nothing-spent, not-run, rising-join, rising-done}
use Rattle.cm_inline.proofs.lemmas.ReadingLemmas.{starts-append}
use Rattle.cm_inline.proofs.lemmas.SegmentLemmas.{pass-made, pass-pairs}
use Rattle.cm_inline.proofs.lemmas.LaidLemmas.{events-append}

-- Those that are done stand for items, the last first, of which the pass makes with those ahead what it makes of all. The looks are paid for.
pub record Reached (looks : ℕ) (inside : List Segment) (s : State) (done ahead : List Segment) (before : List Item) : Type 0 where
  pub whole : inside ≡ done ++ ahead
  pub holds : PartsHold (all_parts done) (length s.pairs) s before
  pub segments : AreSegments s.runs s.pairs s.list.next ahead
  pub runs : AreRuns ahead
  pub passes : pass_from before (items_in ahead) ≡ pass_from [] (items_in inside)
  pub are : (kinds : ℕ) → AreOf kinds (items_in inside) → AreOf kinds (items_in ahead)
  pub paid : (kinds : ℕ) → AreOf kinds (items_in inside) → spent kinds s.list s.bottoms + allowance kinds (items_in ahead) ≤ looks + allowance kinds (items_in inside)
  pub made : looks + items_emphases before + items_emphases (items_in ahead) ≤ s.list.looks + items_emphases (items_in inside)

pub reached-first : (runs : List PairedRun) (pairs : List Pair) (looks next : ℕ) (inside : List Segment) → AreSegments runs pairs next inside → AreRuns inside → Reached looks inside (beginning runs pairs looks next) [] inside []
unfolding all_parts
reached-first runs pairs looks next inside g r = record {
  whole = refl;
  holds = holds-nothing runs pairs looks next;
  segments = g;
  runs = r;
  passes = refl;
  are = λ kinds a. a;
  paid = λ kinds a. omega (arith, nothing-spent kinds looks next);
  made = omega arith;
}

parts-join : (ss ts : List Segment) → all_parts (ss ++ ts) ≡ all_parts ss ++ all_parts ts
unfolding all_parts
parts-join [] ts = refl
parts-join (s ∷ ss) ts = ap (λ t. parts_in s ++ t) (parts-join ss ts) ∙ sym (append_assoc (parts_in s) (all_parts ss) (all_parts ts))

parts-more : (done : List Segment) (s : Segment) → all_parts (done ++ s ∷ []) ≡ all_parts done ++ parts_in s
unfolding all_parts
parts-more done s = parts-join done (s ∷ []) ∙ ap (λ t. all_parts done ++ t) (append-nil (parts_in s))

-- an item that is no run
pub reached-made : (looks : ℕ) (inside : List Segment) (s : State) (done ahead : List Segment) (before : List Item) (parts : List Part) (item : Item) (high : ℕ) → Reached looks inside s done (Made parts item high ∷ ahead) before
    → Reached looks inside (with_next high s) (done ++ Made parts item high ∷ []) ahead (item ∷ before)
unfolding items_in pass_from
reached-made looks inside s done ahead before parts item high r =
    let m = r.segments.0 in
    let rising = rising-join 0 s.list.next (events_of s.runs s.pairs (all_parts done)) (events_of s.runs s.pairs parts) (omega arith) (rising-done (all_parts done) s before r.holds)
    (low-parts s.list.next s.runs s.pairs (all_parts done) r.holds.under r.holds.marked) m.rising in
    record {
      whole = r.whole ∙ sym (append_assoc done (Made parts item high ∷ []) ahead);
      holds = subst (λ ms. PartsHold ms (length s.pairs) (with_next high s) (item ∷ before)) (sym (parts-more done (Made parts item high))) (pass-made (all_parts done) parts item high s before r.holds m rising);
      segments = r.segments.1;
      runs = r.runs;
      passes = ap (λ b. pass_from b (items_in ahead)) (sym (not-run before item m.other)) ∙ r.passes;
      are = λ kinds a. (r.are kinds a).1;
      paid = λ kinds a. omega (arith, r.paid kinds a, sum_by-cons (allowed kinds) item (items_in ahead));
      made = omega (arith, r.made);
    }

-- The pass comes to the next number that waits, past those that are made.
pub record AtRun (looks : ℕ) (inside : List Segment) (s : State) (number : ℕ) (numbers : List ℕ) : Type 0 where
  pub next : ℕ
  pub done : List Segment
  pub run : Run
  pub ahead : List Segment
  pub before : List Item
  pub reached : Reached looks inside (with_next next s) done (Waiting number run ∷ ahead) before
  pub left : numbers_in ahead ≡ numbers

abbrev first_of : List ℕ → ℕ
first_of [] = 0
first_of (n ∷ ns) = n

abbrev rest_of : List ℕ → List ℕ
rest_of [] = []
rest_of (n ∷ ns) = ns

pub reached-run : (looks : ℕ) (inside : List Segment) (s : State) (done ahead : List Segment) (before : List Item) (number : ℕ) (numbers : List ℕ) → Reached looks inside s done ahead before → numbers_in ahead ≡ number ∷ numbers → AtRun looks inside s number numbers
unfolding numbers_in
reached-run looks inside s done [] before number numbers r e = absurd (cc e)
reached-run looks inside s done (Waiting k run ∷ ahead) before number numbers r e = record {
  next = s.list.next;
  done = done;
  run = run;
  ahead = ahead;
  before = before;
  reached = subst (λ n. Reached looks inside s done (Waiting n run ∷ ahead) before) (ap first_of e) r;
  left = ap rest_of e;
}
reached-run looks inside s done (Made parts item high ∷ ahead) before number numbers r e =
    let a = reached-run looks inside (with_next high s) (done ++ Made parts item high ∷ []) ahead (item ∷ before) number numbers (reached-made looks inside s done ahead before parts item high r) e in
    record { next = a.next; done = a.done; run = a.run; ahead = a.ahead; before = a.before; reached = a.reached; left = a.left }

-- And it comes to the end.
pub record AtEnd (looks : ℕ) (inside : List Segment) (s : State) : Type 0 where
  pub next : ℕ
  pub before : List Item
  pub reached : Reached looks inside (with_next next s) inside [] before

pub reached-end : (looks : ℕ) (inside : List Segment) (s : State) (done ahead : List Segment) (before : List Item) → Reached looks inside s done ahead before → numbers_in ahead ≡ [] → AtEnd looks inside s
unfolding numbers_in
reached-end looks inside s done [] before r e = record { next = s.list.next; before = before; reached = subst (λ d. Reached looks inside s d [] before) (sym (r.whole ∙ append-nil done)) r }
reached-end looks inside s done (Waiting k run ∷ ahead) before r e = absurd (cc e)
reached-end looks inside s done (Made parts item high ∷ ahead) before r e =
    let a = reached-end looks inside (with_next high s) (done ++ Made parts item high ∷ []) ahead (item ∷ before) (reached-made looks inside s done ahead before parts item high r) e in
    record { next = a.next; before = a.before; reached = a.reached }

-- a run that waits is one of the code's of which no pair was made
pub waits-fresh : (runs : List HeldRun) (number : ℕ) (run : Run) → number < length (runs_in runs) → get_or (runs_in runs) number no_paired_run ≡ fresh run → (run ≡ run_of (run_at runs number).run) × IsFresh runs number
waits-fresh runs number run h e =
    let held = get_or-map paired_run runs number no_run no_paired_run (omega (arith, h, length-map runs paired_run)) in
    let is : run ≡ run_of (run_at runs number).run = ap (λ (p : PairedRun). p.run) (sym e ∙ held) in
    (is, e ∙ ap (λ r. fresh r) is)

pub run-comes : (looks : ℕ) (inside : List Segment) (s : State) (done ahead : List Segment) (before : List Item) (number : ℕ) (run : Run) → Reached looks inside s done (Waiting number run ∷ ahead) before → RunComes (all_parts done) (with_next number s) run before
run-comes looks inside s done ahead before number run r = record { holds = holds-raised (all_parts done) (length s.pairs) number s before r.segments.0 r.holds; mark = r.runs.0; some = r.runs.1 }

-- the pass is done with a run
pub reached-next : (looks : ℕ) (inside : List Segment) (s now : State) (done ahead : List Segment) (before : List Item) (low number : ℕ) (run : Run) → Reached looks inside s done (Waiting number run ∷ ahead) before
    → PassGoesOn (all_parts done) (with_next number s) run before now number → Grows low (number + 1) s now → now.list.next ≡ number + 1
    → Reached looks inside now (done ++ Waiting number run ∷ []) ahead (passed before (Delimiters run))
unfolding items_in pass_from
reached-next looks inside s now done ahead before low number run r n g at = record {
  whole = r.whole ∙ sym (append_assoc done (Waiting number run ∷ []) ahead);
  holds = subst (λ ms. PartsHold ms (length now.pairs) now (passed before (Delimiters run))) (sym (parts-more done (Waiting number run))) n.holds;
  segments = subst (λ k. AreSegments now.runs now.pairs k ahead) (sym at)
      (segments-grow (λ k. number + 1 ≤ k) low (number + 1) (number + 1) s now ahead g (λ k p. inr p) (segments-from (number + 1) (number + 1) s.runs s.pairs ahead (omega arith) r.segments.3) r.segments.3);
  runs = r.runs.2;
  passes = r.passes;
  are = λ kinds a. (r.are kinds a).1;
  paid = λ kinds a. omega (arith, r.paid kinds a, n.paid kinds (r.are kinds a).0, sum_by-cons (allowed kinds) (Delimiters run) (items_in ahead));
  made = omega (arith, r.made, n.made);
}

-- each pair that it made adds at most one start

starts-whole : (runs : List PairedRun) (pairs : List Pair) (done ahead : List Segment) (number : ℕ) (run : Run)
    → starts_in (events_of runs pairs (all_parts (done ++ Waiting number run ∷ ahead))) ≡ starts_in (events_of runs pairs (all_parts done ++ Numbered number ∷ [])) + starts_in (events_of runs pairs (all_parts ahead))
unfolding all_parts
starts-whole runs pairs done ahead number run =
    ap (λ ms. starts_in (events_of runs pairs ms)) (parts-join done (Waiting number run ∷ ahead) ∙ sym (append_assoc (all_parts done) (Numbered number ∷ []) (all_parts ahead)))
    ∙ ap starts_in (events-append runs pairs (all_parts done ++ Numbered number ∷ []) (all_parts ahead)) ∙ starts-append (events_of runs pairs (all_parts done ++ Numbered number ∷ [])) (events_of runs pairs (all_parts ahead))

pub reached-starts : (looks : ℕ) (inside : List Segment) (s now : State) (done ahead : List Segment) (before : List Item) (low number : ℕ) (run : Run) → Reached looks inside s done (Waiting number run ∷ ahead) before
    → PassGoesOn (all_parts done) (with_next number s) run before now number → Grows low (number + 1) s now
    → starts_in (events_of now.runs now.pairs (all_parts inside)) + length s.pairs ≤ starts_in (events_of s.runs s.pairs (all_parts inside)) + length now.pairs
reached-starts looks inside s now done ahead before low number run r n g = omega (
  arith,
  n.starts,
  ap (λ ss. starts_in (events_of now.runs now.pairs (all_parts ss))) r.whole,
  ap (λ ss. starts_in (events_of s.runs s.pairs (all_parts ss))) r.whole,
  starts-whole now.runs now.pairs done ahead number run,
  starts-whole s.runs s.pairs done ahead number run,
  ap starts_in (events-append s.runs s.pairs (all_parts done) (Numbered number ∷ [])),
  starts-append (events_of s.runs s.pairs (all_parts done)) (events_of s.runs s.pairs (Numbered number ∷ [])),
  ap starts_in (segments-same (λ k. number + 1 ≤ k) low (number + 1) (number + 1) s now ahead g (λ k p. inr p) (segments-from (number + 1) (number + 1) s.runs s.pairs ahead (omega arith) r.segments.3) r.segments.3),
)

-- what is as deep as this is not less deep at the end
pub reached-deep : (looks : ℕ) (inside : List Segment) (s : State) (done ahead : List Segment) (before : List Item) (number limit : ℕ) (run : Run) → Reached looks inside s done (Waiting number run ∷ ahead) before → limit < items_depth (passed before (Delimiters run))
    → limit < items_depth (pair_all (items_in inside))
unfolding items_in pass_from
reached-deep looks inside s done ahead before number limit run r deep =
    omega (arith, deep, pass-deeper (passed before (Delimiters run)) (items_in ahead), ap items_depth r.passes, ap items_depth (pairs_in_one_pass (items_in inside)))

-- at the end the parts stand for what the items come to
pub end-stands : (looks : ℕ) (inside : List Segment) (s : State) (before : List Item) → Reached looks inside s inside [] before → StandFor (events_of s.runs s.pairs (all_parts inside)) (pair_all (items_in inside))
unfolding items_in pass_from
end-stands looks inside s before r = pass-pairs (all_parts inside) s (items_in inside) before r.holds r.passes

pub end-looks : (looks : ℕ) (inside : List Segment) (s : State) (before : List Item) → Reached looks inside s inside [] before → AreLooks looks (items_in inside) s.list.looks (items_emphases (pair_all (items_in inside)))
unfolding items_in pass_from
end-looks looks inside s before r = record {
  paid = λ kinds a. omega (arith, r.paid kinds a);
  made = omega (arith, r.made, ap items_emphases (pairs_in_one_pass (items_in inside)), ap items_emphases r.passes, reversed-hold before);
}
