-- What a pass keeps with no segments at hand: numbers fall, looks are paid for, and only the runs of entries are written to.
use Rattle.cm_inline.proofs.lemmas.Words.{◌≡◌, ℕ, ◌+◌, ◌-◌, ◌<◌, ◌≤◌, Bool, true, false, cond, nat_le, List, [], ◌∷◌, ◌++◌, length, take, get_or, set, Some, None, refl, sym}
use Rattle.cm_inline.proofs.lemmas.Words.{ap, subst, ◌∙◌, arith, append-nil, append_assoc, length-append, map-set, get_or-map, get_or-set_same, get_or-set_other}
use Rattle.cm_inline.proofs.lemmas.Words.{get_or_push, get_or_append_left, length-set, length-map, length-take, sum_by-cons, Run, used, HeldRun, HeldPair, rules}
use Rattle.std.proofs.lemmas.Bool.{leb-false}
use Rattle.cm_inline.specs.Closers.{all_kinds}
use Rattle.cm_inline.specs.steps.pairing.ClosingRuns.{State}
use Rattle.cm_inline.specs.steps.pairing.Events.{Tag}
use Rattle.cm_inline.specs.steps.pairing.Parts.{Pair, PairedRun, no_run as no_paired_run, with_pair}
use Rattle.cm_inline.specs.steps.pairing.Stacks.{taken, rest_of}
use Rattle.cm_inline.specs.steps.pairing.States.{Holding, run_at, SameRuns, AreChained, state_of, IsReady, EntriesFrom, Grows, RunSteps, with_left, no_run}
use Rattle.cm_inline.specs.steps.Entries.{Entry, Listed, AllOpen, Below, leaving, reserve}
use Rattle.cm_inline.specs.steps.Runs.{paired_run, runs_in, pairs_in, pair_in}
use Rattle.cm_inline.specs.steps.Searching.{kind, find_opener, looks_for, spent}
use Rattle.cm_inline.proofs.lemmas.BottomLemmas.{kind-small}
use Rattle.cm_inline.proofs.lemmas.NumberLemmas.{nat-split as nat_split}
use Rattle.cm_inline.proofs.lemmas.ReserveLemmas.{reserve-push}
use Rattle.cm_inline.proofs.lemmas.SearchLemmas.{FoundBy, find-found, below-more}
use Rattle.cm_inline.proofs.lemmas.WaitLemmas.{after_pair, ready-fails, paid-fails, ready-pairs, paid-pairs}

-- what the code leaves of an entry

pub leaving-rest : (n : ℕ) (e : Entry) (below : List Entry) → leaving (e.run.left - n) (e ∷ below) ≡ rest_of n e ++ below
leaving-rest n e below = search rules

-- a write to a run

abbrev pub cut_run : (left opened : ℕ) → PairedRun → PairedRun
cut_run left opened r = record { run = record r.run { left = left }; opened = opened; from = r.from; to = r.to }

pub left-in : (number left opened : ℕ) (runs : List HeldRun) → number < length runs → runs_in (with_left number left opened runs) ≡ set (runs_in runs) number (cut_run left opened (get_or (runs_in runs) number no_paired_run))
left-in number left opened runs h =
    let r = run_at runs number in
    map-set paired_run runs number (record { run = record { marker = r.run.marker; opens = r.run.opens; closes = r.run.closes; whole = r.run.whole; left = left }; opened = opened; from = r.from; to = r.to })
    ∙ ap (λ p. set (runs_in runs) number (cut_run left opened p)) (sym (get_or-map paired_run runs number no_run no_paired_run h))

pub same-write : (old runs new : List HeldRun) (number : ℕ) (x : HeldRun) → number < length runs → SameRuns old runs → new ≡ set runs number x → x.run.marker ≡ (run_at runs number).run.marker → x.run.whole ≡ (run_at runs number).run.whole → SameRuns old new
same-write old runs new number x within s e m w = search rules

pub grows-write : (low high number : ℕ) (x : PairedRun) (more : List Pair) (old s t : State) → low ≤ number → number < high → Grows low high old s → t.runs ≡ set s.runs number x → t.pairs ≡ s.pairs ++ more → Grows low high old t
grows-write low high number x more old s t l h g e p = search (rules, length-set, get_or-set_other, append_assoc)

pub grows-rest : (low high : ℕ) (old s t : State) → Grows low high old s → t.runs ≡ s.runs → t.pairs ≡ s.pairs → Grows low high old t
grows-rest low high old s t g e p = search rules

-- a pair's opener was in pairs before it

pub chained-write : (runs now : List PairedRun) (pairs more : List Pair) (number : ℕ) (x : PairedRun) (p : Pair) → number < length runs → AreChained runs pairs → now ≡ set runs number x → more ≡ pairs ++ p ∷ [] → p.before ≤ length pairs → x.opened ≤ length more → x.from ≤ x.to → x.to ≤ length more
    → AreChained now more
chained-write runs now pairs more number x p within c e m b o f t = search (rules, length-append, nat_split, get_or_push, get_or_append_left, get_or-set_same, get_or-set_other)

pub chained-put : (runs now : List PairedRun) (pairs : List Pair) (number : ℕ) (x : PairedRun) → number < length runs → AreChained runs pairs → now ≡ set runs number x → x.opened ≤ length pairs → x.from ≤ x.to → x.to ≤ length pairs → AreChained now pairs
chained-put runs now pairs number x within c e o f t = search rules

-- entries that are left

from-beyond : (low : ℕ) (xs ys : List Entry) → EntriesFrom low (xs ++ ys) → EntriesFrom low ys
from-beyond low [] ys h = h
from-beyond low (x ∷ xs) ys h = from-beyond low xs ys h.1

from-rest : (low n : ℕ) (e : Entry) (es : List Entry) → EntriesFrom low (e ∷ es) → EntriesFrom low (rest_of n e ++ es)
from-rest low n e es h = elim (nat_le e.run.left n) as (λ b. EntriesFrom low (cond b [] (record e { run = taken n e.run } ∷ []) ++ es)) [ true ↦ h.1 | false ↦ h ]

open-beyond : (xs ys : List Entry) → AllOpen (xs ++ ys) → AllOpen ys
open-beyond [] ys h = h
open-beyond (x ∷ xs) ys h = open-beyond xs ys h.2

open-rest : (n : ℕ) (e : Entry) (es : List Entry) → AllOpen (e ∷ es) → AllOpen (rest_of n e ++ es)
open-rest n e es h = go (nat_le e.run.left n) refl
  where
    go : (b : Bool) → nat_le e.run.left n ≡ b → AllOpen (cond b [] (record e { run = taken n e.run } ∷ []) ++ es)
    go true few = h.2
    go false few = (let more : n < e.run.left = leb-false e.run.left n few in (h.0, omega (arith, more), h.2))

pub from-zero : (es : List Entry) → EntriesFrom 0 es
from-zero [] = tt
from-zero (e ∷ es) = (omega arith, from-zero es)

pub below-found : (n : ℕ) (xs : List Entry) (e : Entry) (ys : List Entry) → Below n (xs ++ e ∷ ys) → e.place < n
below-found n [] e ys b = b.0
below-found n (x ∷ xs) e ys b = below-found n xs e ys b.1

pub pair-long : (old now : List HeldPair) (tag : Tag) (number : ℕ) (runs : List PairedRun) → pairs_in now ≡ with_pair tag number runs (pairs_in old) → length now ≡ length old + 1
pair-long old now tag number runs e =
    omega (arith, ap length e, length-append (pairs_in old) (record { tag = tag; before = (get_or runs number no_paired_run).opened } ∷ []), length-map old pair_in, length-map now pair_in)

-- pairs are never fewer
pub steps-longer : (old new : Holding) (had bs : List ℕ) (number : ℕ) → RunSteps old new had bs number number 0 → length old.pairs ≤ length new.pairs
steps-longer old new had bs number s =
    let g = (s.grows 0 (omega arith) (from-zero old.entries)).1 in
    omega (arith, ap length g.pairs, length-append (pairs_in old.pairs) g.added, length-map old.pairs pair_in, length-map new.pairs pair_in)

-- an entry that a search finds is below the run at hand, and the looks of a search fit
pub found-place : (c : Run) (b : ℕ) (es : List Entry) (e : Entry) (n : ℕ) → find_opener c b es ≡ Some e → Below n es → e.place < n
found-place c b es e n f h = let g = find-found c b es e f in below-found n g.passed e g.below (subst (Below n) g.whole h)

pub few-looks : (l : Listed) (bs : List ℕ) → l.looks + length l.entries ≤ spent all_kinds l bs
unfolding reserve
few-looks l bs = omega arith

-- one and the same list
pub same-list : (l m : Listed) → l.entries ≡ m.entries → l.looks ≡ m.looks → l.next ≡ m.next → l ≡ m
same-list l m e k n = λ i. record { entries = e i; looks = k i; next = n i }

pub same-state : (s t : State) → s.runs ≡ t.runs → s.pairs ≡ t.pairs → s.list ≡ t.list → s.bottoms ≡ t.bottoms → s ≡ t
same-state s t r p l b = λ i. record { runs = r i; pairs = p i; list = l i; bottoms = b i }

-- one and the same
pub same-held : (h g : Holding) → h.runs ≡ g.runs → h.pairs ≡ g.pairs → h.entries ≡ g.entries → h.looks ≡ g.looks → h ≡ g
same-held h g r p e k = λ i. record { runs = r i; pairs = p i; entries = e i; looks = k i }

-- a search in vain
pub steps-fails : (old new : Holding) (had bs : List ℕ) (number : ℕ) (c : Run) → RunSteps old new had bs number number 0 → find_opener c (get_or bs (kind c) 0) new.entries ≡ None
    → RunSteps old (record new { looks = new.looks + looks_for c (get_or bs (kind c) 0) new.entries }) had (set bs (kind c) number) number number 0
steps-fails old new had bs number c s none =
    let l : Listed = (state_of new bs number).list in
    record {
      ready = ready-fails c l bs (looks_for c (get_or bs (kind c) 0) l.entries) s.ready;
      paid = omega (arith, s.paid, paid-fails c l bs s.ready none all_kinds (kind-small c));
      grows = λ low h f. (let g = s.grows low h f in (g.0, grows-rest low (number + 1) _ _ _ g.1 refl refl));
      opened = s.opened;
      same = s.same;
      chained = s.chained;
    }

-- What the code writes for the pair of a closer with the entry that was found.
pub record MakesPair (c : Run) (e : Entry) (below : List Entry) (looks : ℕ) (tag : Tag) (old new : Holding) : Type 0 where
  pub within : e.place < length old.runs
  pub entries : new.entries ≡ leaving (e.run.left - used e.run c) (e ∷ below)
  pub looks_are : new.looks ≡ old.looks + looks
  pub pairs : pairs_in new.pairs ≡ with_pair tag e.place (runs_in old.runs) (pairs_in old.pairs)
  pub runs : new.runs ≡ with_left e.place (e.run.left - used e.run c) (length old.pairs + 1) old.runs

pub steps-pairs : (old new now : Holding) (had bs : List ℕ) (number : ℕ) (c : Run) (e : Entry) (tag : Tag) → RunSteps old new had bs number number 0 → (g : FoundBy c (get_or bs (kind c) 0) new.entries e)
    → MakesPair c e g.below (looks_for c (get_or bs (kind c) 0) new.entries) tag new now → RunSteps old now had bs number number 0
steps-pairs old new now had bs number c e tag s g m =
    let l = (state_of new bs number).list in
    let looks = looks_for c (get_or bs (kind c) 0) new.entries in
    let p : Pair = record { tag = tag; before = (get_or (runs_in new.runs) e.place no_paired_run).opened } in
    let x = cut_run (e.run.left - used e.run c) (length new.pairs + 1) (get_or (runs_in new.runs) e.place no_paired_run) in
    let place = below-found number g.passed e g.below (subst (Below number) g.whole s.ready.under) in
    let entries = m.entries ∙ leaving-rest (used e.run c) e g.below in
    let is : (state_of now bs number).list ≡ after_pair c e looks g.below l = same-list _ _ entries m.looks_are refl in
    let runs = ap runs_in m.runs ∙ left-in e.place (e.run.left - used e.run c) (length new.pairs + 1) new.runs m.within in
    let long = ap length m.pairs ∙ length-append (pairs_in new.pairs) (p ∷ []) in
    record {
      ready = subst (λ l. IsReady l bs) (sym is) (ready-pairs c e l bs looks s.ready g);
      paid = omega (arith, s.paid, paid-pairs c e l bs s.ready g all_kinds, ap (λ l. spent all_kinds l bs) is);
      grows = λ low h f. (
          let r = s.grows low h f in
          let here : EntriesFrom low (e ∷ g.below) = from-beyond low g.passed (e ∷ g.below) (subst (EntriesFrom low) g.whole r.0) in (
            subst (EntriesFrom low) (sym entries) (from-rest low (used e.run c) e g.below here),
            grows-write low (number + 1) e.place x (p ∷ []) (state_of old had number) (state_of new bs number) (state_of now bs number) here.0 (omega (arith, place)) r.1 runs m.pairs,
          )
          );
      same = same-write old.runs new.runs now.runs e.place _ m.within s.same m.runs refl refl;
      chained = λ c0. (
          let c1 = s.chained c0 in
          chained-write (runs_in new.runs) (runs_in now.runs) (pairs_in new.pairs) (pairs_in now.pairs) e.place x p (omega (arith, m.within, length-map new.runs paired_run)) c1 runs m.pairs (c1.opened e.place)
          (omega (arith, long, length-map new.pairs pair_in)) (c1.closed e.place).0 (omega (arith, long, (c1.closed e.place).1))
          );
      opened = λ o. subst AllOpen (sym entries) (open-rest (used e.run c) e g.below (open-beyond g.passed (e ∷ g.below) (subst AllOpen g.whole (s.opened o))));
    }

-- the closer's own run is written
pub steps-put : (old new now : Holding) (had bs : List ℕ) (number : ℕ) (x : HeldRun) → RunSteps old new had bs number number 0 → number < length new.runs → now.runs ≡ set new.runs number x → now.pairs ≡ new.pairs → now.entries ≡ new.entries → now.looks ≡ new.looks
    → x.run.marker ≡ (run_at new.runs number).run.marker → x.run.whole ≡ (run_at new.runs number).run.whole → (AreChained (runs_in new.runs) (pairs_in new.pairs) → x.opened ≤ length new.pairs) → x.from ≤ x.to → x.to ≤ length new.pairs → RunSteps old now had bs number number 0
steps-put old new now had bs number x s within r p e k mk wh op order to =
    let runs = ap runs_in r ∙ map-set paired_run new.runs number x in
    let pairs = ap pairs_in p in
    let is = same-list _ _ e k refl in
    record {
      ready = subst (λ l. IsReady l bs) (sym is) s.ready;
      paid = omega (arith, s.paid, ap (λ l. spent all_kinds l bs) is);
      grows = λ low h f. (
          let g = s.grows low h f in (
            subst (EntriesFrom low) (sym e) g.0,
            grows-write low (number + 1) number (paired_run x) [] (state_of old had number) (state_of new bs number) (state_of now bs number) h (omega arith) g.1 runs (pairs ∙ sym (append-nil (pairs_in new.pairs))),
          )
          );
      same = same-write old.runs new.runs now.runs number x within s.same r mk wh;
      chained = λ c0. subst (AreChained (runs_in now.runs)) (sym pairs)
          (chained-put (runs_in new.runs) (runs_in now.runs) (pairs_in new.pairs) number (paired_run x) (omega (arith, within, length-map new.runs paired_run)) (s.chained c0) runs (omega (arith, op (s.chained c0), length-map new.pairs pair_in)) order
          (omega (arith, to, length-map new.pairs pair_in)));
      opened = λ o. subst AllOpen (sym e) (s.opened o);
    }

pub ready-raised : (entries : List Entry) (looks n m : ℕ) (bs : List ℕ) → n ≤ m → IsReady (record { entries = entries; looks = looks; next = n }) bs → IsReady (record { entries = entries; looks = looks; next = m }) bs
ready-raised entries looks n m bs h r = record { falling = r.falling; under = below-more n m entries h r.under; size = r.size; low = λ k. (let q : get_or bs k 0 ≤ n = r.low k in omega (arith, q, h)) }

-- the pass goes on, and the run waits as an opener or not
pub steps-on : (old new : Holding) (had bs : List ℕ) (number due : ℕ) → RunSteps old new had bs number number 0 → RunSteps old new had bs number (number + 1) due
steps-on old new had bs number due s = record {
  ready = ready-raised new.entries new.looks number (number + 1) bs (omega arith) s.ready;
  paid = omega (arith, s.paid);
  grows = λ low h f. (let g = s.grows low h f in (g.0, grows-rest low (number + 1) _ _ _ g.1 refl refl));
  same = s.same;
  chained = s.chained;
  opened = s.opened;
}

pub steps-push : (old new : Holding) (had bs : List ℕ) (number due : ℕ) (e : Entry) → RunSteps old new had bs number number 0 → e.place ≡ number → e.run.opens ≡ true → 1 ≤ e.run.left → all_kinds + 1 + e.run.left ≤ due
    → RunSteps old (record new { entries = e ∷ new.entries }) had bs number (number + 1) due
steps-push old new had bs number due e s at may some pays =
    record {
      ready = record {
        falling = (subst (λ n. Below n new.entries) (sym at) s.ready.under, s.ready.falling);
        under = (omega (arith, at), below-more number (number + 1) new.entries (omega arith) s.ready.under);
        size = s.ready.size;
        low = λ k. (let q : get_or bs k 0 ≤ number = s.ready.low k in omega (arith, q));
      };
      paid = omega (arith, s.paid, pays, sum_by-cons (λ (x : Entry). x.run.left) e new.entries, reserve-push (take all_kinds bs) new.entries e, length-take all_kinds bs);
      grows = λ low h f. (let g = s.grows low h f in ((omega (arith, at, h), g.0), grows-rest low (number + 1) _ _ _ g.1 refl refl));
      opened = λ o. (may, some, s.opened o);
      same = s.same;
      chained = s.chained;
    }

-- nothing is done yet
pub steps-none : (held : Holding) (bs : List ℕ) (number : ℕ) → IsReady (state_of held bs number).list bs → RunSteps held held bs bs number number 0
steps-none held bs number ready = record {
  ready = ready;
  paid = omega arith;
  grows = λ low h f. (f, record { long = refl; others = λ k o. refl; added = []; pairs = sym (append-nil (pairs_in held.pairs)) });
  opened = λ o. o;
  same = record { long = refl; same = λ n. (refl, refl) };
  chained = λ c. c;
}
