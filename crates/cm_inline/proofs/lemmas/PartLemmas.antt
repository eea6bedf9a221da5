-- What the code writes for a pair is a start after what is left of its opener.
use Rattle.cm_inline.proofs.lemmas.Words.{◌≡◌, ℕ, suc, ◌+◌, ◌<◌, ◌≤◌, ◌==◌, List, [], ◌∷◌, ◌++◌, length, take, drop, reverse, get_or, refl, sym, ap, subst, ◌∙◌, arith}
use Rattle.cm_inline.proofs.lemmas.Words.{append_assoc, reverse-append, map-append, take-append-le, drop-append-le, length-reverse, get_or-set_same, get_or-set_other}
use Rattle.cm_inline.proofs.lemmas.Words.{cond-true, cond-false, eq-eqb, ne_eqb, eqb-true, Run, Item, used, rules, nat_tests}
use Rattle.cm_inline.specs.steps.Entries.{Entry}
use Rattle.cm_inline.proofs.lemmas.NumberLemmas.{nat-split as nat_split}
use Rattle.cm_inline.specs.steps.pairing.Events.{Event, Text, Rest, Whole, Tag, Start, End, tag_of}
use Rattle.cm_inline.specs.steps.pairing.Readings.{starts_in}
use Rattle.cm_inline.specs.steps.pairing.Stacks.{taken}
use Rattle.cm_inline.specs.steps.pairing.Parts.{Pair, PairedRun, Part, Numbered, Known, chain, starts, ends, ends_between, no_run, run_events, events_of, with_pair, with_opened, opened_event, open_at, Absent, Rising, HaveNoRun, AreParts}
use Rattle.cm_inline.proofs.lemmas.StackLemmas.{Found, pair_events}
use Rattle.cm_inline.specs.steps.pairing.ClosingRuns.{AreUnder}

-- chains stay when a pair comes
pub chain-stays : (p : Pair) (ps : List Pair) (n : ℕ) → n ≤ length ps → chain (p ∷ ps) n ≡ chain ps n
unfolding chain
chain-stays p ps n h = cond-false (n == suc (length ps)) (Start p.tag ∷ chain ps p.before) (chain ps n) (ne_eqb n (suc (length ps)) (λ e. absurd (omega (arith, e, h))))

pub chain-goes : (p : Pair) (ps : List Pair) (n : ℕ) → n ≡ suc (length ps) → chain (p ∷ ps) n ≡ Start p.tag ∷ chain ps p.before
unfolding chain
chain-goes p ps n h = cond-true (n == suc (length ps)) (Start p.tag ∷ chain ps p.before) (chain ps n) (eq-eqb n (suc (length ps)) h)

-- events of no run stay
open-append : (number count : ℕ) (tag : Tag) (fs gs : List Event) → open_at number count tag (fs ++ gs) ≡ open_at number count tag fs ++ open_at number count tag gs
unfolding open_at
open-append number count tag [] gs = refl
open-append number count tag (f ∷ fs) gs = search (rules, append_assoc, (open-append number count tag fs gs))

pub open-absent : (number count : ℕ) (tag : Tag) (fs : List Event) → Absent number fs → open_at number count tag fs ≡ fs
unfolding open_at
open-absent number count tag [] h = refl
open-absent number count tag (Rest n r ∷ fs) h = search (rules, cond-false, (open-absent number count tag fs h.1))
open-absent number count tag (Text t ∷ fs) h = ap (λ l. Text t ∷ l) (open-absent number count tag fs h.1)
open-absent number count tag (Whole i ∷ fs) h = ap (λ l. Whole i ∷ l) (open-absent number count tag fs h.1)
open-absent number count tag (Start s ∷ fs) h = ap (λ l. Start s ∷ l) (open-absent number count tag fs h.1)
open-absent number count tag (End s ∷ fs) h = ap (λ l. End s ∷ l) (open-absent number count tag fs h.1)

pub absent-none : (number : ℕ) (fs : List Event) → HaveNoRun fs → Absent number fs
absent-none number [] h = tt
absent-none number (Rest n r ∷ fs) h = absurd h.0
absent-none number (_ ∷ fs) h = (tt, absent-none number fs h.1)

pub ends-none : (ps : List Pair) → HaveNoRun (ends ps)
ends-none [] = tt
ends-none (p ∷ ps) = (tt, ends-none ps)

pub chain-none : (ps : List Pair) (n : ℕ) → HaveNoRun (chain ps n)
unfolding chain
chain-none [] n = tt
chain-none (p ∷ ps) n = search (rules, (chain-none ps p.before), (chain-none ps n))

-- the runs among events, with their numbers, are such
abbrev pub AreSuch : (ℕ → Run → Type 0) → List Event → Type 0
AreSuch P [] = Unit {0}
AreSuch P (Rest k r ∷ fs) = P k r × AreSuch P fs
AreSuch P (f ∷ fs) = AreSuch P fs

pub such-none : (P : ℕ → Run → Type 0) (fs : List Event) → HaveNoRun fs → AreSuch P fs
such-none P [] h = tt
such-none P (Rest k r ∷ fs) h = absurd h.0
such-none P (_ ∷ fs) h = such-none P fs h.1

pub such-append : (P : ℕ → Run → Type 0) (fs gs : List Event) → AreSuch P fs → AreSuch P gs → AreSuch P (fs ++ gs)
such-append P [] gs h g = g
such-append P (Rest k r ∷ fs) gs h g = (h.0, such-append P fs gs h.1 g)
such-append P (_ ∷ fs) gs h g = such-append P fs gs h g

-- and so are the numbers of parts
abbrev pub AllOf : (ℕ → Type 0) → List Part → Type 0
AllOf P [] = Unit {0}
AllOf P (Numbered k ∷ ms) = P k × AllOf P ms
AllOf P (Known fs ∷ ms) = AllOf P ms

pub such-parts : (P : ℕ → Run → Type 0) (runs : List PairedRun) (pairs : List Pair) (ms : List Part) → AllOf (λ k. P k (get_or runs k no_run).run) ms → AreParts runs pairs ms → AreSuch P (events_of runs pairs ms)
unfolding events_of
such-parts P runs pairs [] a h = tt
such-parts P runs pairs (Numbered k ∷ ms) a h =
    let r = get_or runs k no_run in
    such-append P (run_events pairs k r) (events_of runs pairs ms)
    (such-append P (ends (drop r.from (take r.to pairs))) (Rest k r.run ∷ _) (such-none P _ (ends-none (drop r.from (take r.to pairs)))) (a.0, such-none P _ (chain-none (reverse pairs) r.opened)))
    (such-parts P runs pairs ms a.1 h.3)
such-parts P runs pairs (Known fs ∷ ms) a h = such-append P fs (events_of runs pairs ms) (such-none P fs h.0) (such-parts P runs pairs ms a h.1)

pub under-all : (n m : ℕ) (ms : List Part) → n ≤ m → AreUnder n ms → AllOf (λ k. k < m) ms
under-all n m [] p h = tt
under-all n m (Numbered k ∷ ms) p h = (omega (arith, h.0, p), under-all n m ms p h.1)
under-all n m (Known fs ∷ ms) p h = under-all n m ms p h

-- the events of a run with its number
open-run : (number count n : ℕ) (tag : Tag) (pairs : List Pair) (r : PairedRun) →
    open_at number count tag (run_events pairs n r) ≡ ends_between pairs r.from r.to ++ (opened_event number count tag (Rest n r.run) ++ starts pairs r.opened)
unfolding open_at
open-run number count n tag pairs r =
    open-append number count tag (ends_between pairs r.from r.to) (Rest n r.run ∷ starts pairs r.opened)
    ∙ ap (λ t. t ++ (opened_event number count tag (Rest n r.run) ++ open_at number count tag (starts pairs r.opened))) (open-absent number count tag (ends_between pairs r.from r.to) (absent-none number (ends_between pairs r.from r.to) (ends-none (drop r.from (take r.to pairs)))))
    ∙ ap (λ t. ends_between pairs r.from r.to ++ (opened_event number count tag (Rest n r.run) ++ t)) (open-absent number count tag (starts pairs r.opened) (absent-none number (starts pairs r.opened) (chain-none (reverse pairs) r.opened)))

-- one part, and all
run-written : (number count : ℕ) (tag : Tag) (runs : List PairedRun) (pairs : List Pair) (n : ℕ) → n < length runs → (get_or runs n no_run).opened ≤ length pairs → (get_or runs n no_run).to ≤ length pairs
    → run_events (with_pair tag number runs pairs) n (get_or (with_opened number count runs pairs) n no_run) ≡ open_at number count tag (run_events pairs n (get_or runs n no_run))
run-written number count tag runs pairs n within opened to =
    grind (arith, nat_tests, nat_split, reverse-append, take-append-le, length-reverse, get_or-set_other, chain-stays, cond-false, ne_eqb, open-run, get_or-set_same, chain-goes, cond-true, eq-eqb)

pub pair-written : (number count : ℕ) (tag : Tag) (runs : List PairedRun) (pairs : List Pair) (parts : List Part) → AreParts runs pairs parts
    → events_of (with_opened number count runs pairs) (with_pair tag number runs pairs) parts ≡ open_at number count tag (events_of runs pairs parts)
unfolding events_of open_at
pair-written number count tag runs pairs [] h = refl
pair-written number count tag runs pairs (Numbered n ∷ ms) h = search (rules, run-written, open-append, (pair-written number count tag runs pairs ms h.3))
pair-written number count tag runs pairs (Known fs ∷ ms) h = search (rules, open-absent, absent-none, open-append, (pair-written number count tag runs pairs ms h.1))

-- where the numbers rise, each holds once
pub absent-below : (low number : ℕ) (fs : List Event) → number < low → Rising low fs → Absent number fs
absent-below low number [] h r = tt
absent-below low number (Rest n q ∷ fs) h r = (ne_eqb n number (λ e. absurd (omega (arith, e, h, r.0))), absent-below (suc n) number fs (omega (arith, h, r.0)) r.1)
absent-below low number (_ ∷ fs) h r = (tt, absent-below low number fs h r)

-- so a pair adds at most one start
pub open-starts : (low number count : ℕ) (tag : Tag) (fs : List Event) → Rising low fs → starts_in (open_at number count tag fs) ≤ starts_in fs + 1
unfolding open_at
open-starts low number count tag [] h = omega arith
open-starts low number count tag (Rest n r ∷ fs) h = search (rules, open-absent, absent-below, eqb-true, (open-starts (suc n) number count tag fs h.1))
open-starts low number count tag (Start t ∷ fs) h = omega (arith, open-starts low number count tag fs h)
open-starts low number count tag (_ ∷ fs) h = open-starts low number count tag fs h

pub record Once (low number : ℕ) (front back : List Event) : Type 0 where
  pub front_lacks : Absent number front
  pub back_lacks : Absent number back
  pub high : low ≤ number

pub rising-once : (low number : ℕ) (r : Run) (front back : List Event) → Rising low (front ++ Rest number r ∷ back) → Once low number front back
rising-once low number r [] back h = record { front_lacks = tt; back_lacks = absent-below (suc number) number back (omega arith) h.1; high = h.0 }
rising-once low number r (Rest n q ∷ front) back h = search (rules, ne_eqb, (rising-once (suc n) number r front back h.1))
rising-once low number r (Text t ∷ front) back h = let o = rising-once low number r front back h in record { front_lacks = (tt, o.front_lacks); back_lacks = o.back_lacks; high = o.high }
rising-once low number r (_ ∷ front) back h = let o = rising-once low number r front back h in record { front_lacks = (tt, o.front_lacks); back_lacks = o.back_lacks; high = o.high }

pub open-once : (low number count : ℕ) (tag : Tag) (r : Run) (front back : List Event) → Rising low (front ++ Rest number r ∷ back)
    → open_at number count tag (front ++ Rest number r ∷ back) ≡ front ++ Rest number (taken count r) ∷ Start tag ∷ back
unfolding open_at
open-once low number count tag r front back h = search (rules, rising-once, open-append, open-absent, cond-true, eq-eqb)

-- So what the code writes for a pair of a closer, whose ends from a pair on stand after the parts, is what the pair makes of the events.
pub pair-events-written : (c : Run) (e : Entry) (below : List Entry) (items : List Item) (runs : List PairedRun) (pairs : List Pair) (parts : List Part) (first : ℕ) → AreParts runs pairs parts → first ≤ length pairs
    → (f : Found c e below (events_of runs pairs parts ++ ends (drop first pairs)) items) → Rising 0 (events_of runs pairs parts ++ ends (drop first pairs))
    → (let tag = tag_of c.character (used e.run c) in events_of (with_opened e.place (used e.run c) runs pairs) (with_pair tag e.place runs pairs) parts ++ ends (drop first (with_pair tag e.place runs pairs)))
    ≡ pair_events c e below (events_of runs pairs parts ++ ends (drop first pairs)) items f
pair-events-written c e below items runs pairs parts first are h f rising =
    let count = used e.run c in
    let tag = tag_of c.character count in
    let p : Pair = record { tag = tag; before = (get_or runs e.place no_run).opened } in
    let more = with_pair tag e.place runs pairs in
    ap (λ t. t ++ ends (drop first more)) (pair-written e.place count tag runs pairs parts are)
    ∙ ap (λ t. open_at e.place count tag (events_of runs pairs parts) ++ t) (ap ends (drop-append-le first pairs (p ∷ []) h) ∙ map-append (λ (q : Pair). End q.tag) (drop first pairs) (p ∷ []))
    ∙ sym (append_assoc (open_at e.place count tag (events_of runs pairs parts)) (ends (drop first pairs)) (End tag ∷ []))
    ∙ ap (λ t. t ++ End tag ∷ [])
    (ap (λ t. open_at e.place count tag (events_of runs pairs parts) ++ t) (sym (open-absent e.place count tag (ends (drop first pairs)) (absent-none e.place (ends (drop first pairs)) (ends-none (drop first pairs)))))
    ∙ sym (open-append e.place count tag (events_of runs pairs parts) (ends (drop first pairs)))
    ∙ ap (open_at e.place count tag) f.events
    ∙ open-once 0 e.place count tag e.run f.front f.back (subst (Rising 0) f.events rising))
    ∙ append_assoc f.front (Rest e.place (taken count e.run) ∷ Start tag ∷ f.back) (End tag ∷ [])
    ∙ sym (append_assoc f.front (Rest e.place (taken count e.run) ∷ []) (Start tag ∷ f.back ++ End tag ∷ []))
