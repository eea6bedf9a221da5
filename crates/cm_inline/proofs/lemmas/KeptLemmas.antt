-- Segments stay where only other runs are written to, and pairs are added.
use Rattle.cm_inline.proofs.lemmas.Words.{◌≡◌, ◌⊎◌, ℕ, ◌+◌, ◌<◌, ◌≤◌, List, [], ◌∷◌, ◌++◌, length, take, drop, reverse, get_or, refl, ap, subst, ◌∙◌, arith}
use Rattle.cm_inline.proofs.lemmas.Words.{append-nil, append_assoc, length-append, reverse-append, take-append-le, length-reverse, rules, nat_tests}
use Rattle.cm_inline.specs.steps.pairing.ClosingRuns.{AreUnder, State}
use Rattle.cm_inline.specs.steps.pairing.Events.{Event, Rest}
use Rattle.cm_inline.specs.steps.pairing.Parts.{Pair, PairedRun, Part, Numbered, Known, chain, ends, no_run, run_events, events_of, Rising, AreParts, starts, ends_between}
use Rattle.cm_inline.specs.steps.pairing.Passes.{number_after}
use Rattle.cm_inline.specs.steps.pairing.Segments.{Segment, Waiting, Made, all_parts, numbers_in, AreSegments}
use Rattle.cm_inline.specs.steps.pairing.States.{Grows}
use Rattle.cm_inline.proofs.lemmas.ClosingLemmas.{parts-append}
use Rattle.cm_inline.proofs.lemmas.PartLemmas.{chain-stays, rising-once, AreSuch, AllOf, such-parts, under-all}
use Rattle.cm_inline.proofs.lemmas.PassLemmas.{rising-beyond-of}

-- the numbers of segments are such
abbrev pub AllIn : (ℕ → Type 0) → List Segment → Type 0
AllIn P [] = Unit {0}
AllIn P (Waiting k run ∷ ss) = P k × AllIn P ss
AllIn P (Made parts item high ∷ ss) = AllOf P parts × AllIn P ss

pub all-append : (P : ℕ → Type 0) (ms ns : List Part) → AllOf P ms → AllOf P ns → AllOf P (ms ++ ns)
all-append P [] ns h g = g
all-append P (Numbered k ∷ ms) ns h g = (h.0, all-append P ms ns h.1 g)
all-append P (Known fs ∷ ms) ns h g = all-append P ms ns h g

pub all-parts : (P : ℕ → Type 0) (ss : List Segment) → AllIn P ss → AllOf P (all_parts ss)
unfolding all_parts
all-parts P [] h = tt
all-parts P (Waiting k run ∷ ss) h = (h.0, all-parts P ss h.1)
all-parts P (Made parts item high ∷ ss) h = all-append P parts (all_parts ss) h.0 (all-parts P ss h.1)

chain-more : (qs ps : List Pair) (n : ℕ) → n ≤ length ps → chain (qs ++ ps) n ≡ chain ps n
chain-more [] ps n h = refl
chain-more (q ∷ qs) ps n h = chain-stays q (qs ++ ps) n (omega (arith, h, length-append qs ps)) ∙ chain-more qs ps n h

run-kept : (pairs added : List Pair) (k : ℕ) (r : PairedRun) → r.opened ≤ length pairs → r.to ≤ length pairs → run_events (pairs ++ added) k r ≡ run_events pairs k r
run-kept pairs added k r opened to =
    ap (λ t. ends (drop r.from t) ++ Rest k r.run ∷ starts (pairs ++ added) r.opened) (take-append-le r.to pairs added to)
    ∙ ap (λ t. ends_between pairs r.from r.to ++ Rest k r.run ∷ t) (ap (λ t. chain t r.opened) (reverse-append pairs added) ∙ chain-more (reverse added) (reverse pairs) r.opened (omega (arith, opened, length-reverse pairs)))

pub events-kept : (P : ℕ → Type 0) (runs now : List PairedRun) (pairs added : List Pair) (ms : List Part) → ((k : ℕ) → P k → get_or now k no_run ≡ get_or runs k no_run) → AllOf P ms → AreParts runs pairs ms → events_of now (pairs ++ added) ms ≡ events_of runs pairs ms
unfolding events_of
events-kept P runs now pairs added [] same a h = refl
events-kept P runs now pairs added (Numbered k ∷ ms) same a h = search (rules, run-kept, (events-kept P runs now pairs added ms same a.1 h.3))
events-kept P runs now pairs added (Known fs ∷ ms) same a h = ap (λ t. fs ++ t) (events-kept P runs now pairs added ms same a h.1)

pub all-kept : (P : ℕ → Type 0) (runs now : List PairedRun) (pairs added : List Pair) (ms : List Part) → length runs ≤ length now → ((k : ℕ) → P k → get_or now k no_run ≡ get_or runs k no_run) → AllOf P ms → AreParts runs pairs ms → AreParts now (pairs ++ added) ms
all-kept P runs now pairs added [] long same a h = tt
all-kept P runs now pairs added (Numbered k ∷ ms) long same a h = grind (arith, nat_tests, length-append, (all-kept P runs now pairs added ms long same a.1 h.3))
all-kept P runs now pairs added (Known fs ∷ ms) long same a h = (h.0, all-kept P runs now pairs added ms long same a h.1)

pub segments-kept : (P : ℕ → Type 0) (low : ℕ) (runs now : List PairedRun) (pairs added : List Pair) (ss : List Segment) → length runs ≤ length now → ((k : ℕ) → P k → get_or now k no_run ≡ get_or runs k no_run) → AllIn P ss → AreSegments runs pairs low ss
    → AreSegments now (pairs ++ added) low ss
segments-kept P low runs now pairs added [] long same a h = tt
segments-kept P low runs now pairs added (Waiting k run ∷ ss) long same a h = (h.0, omega (arith, h.1, long), same k a.0 ∙ h.2, segments-kept P (k + 1) runs now pairs added ss long same a.1 h.3)
segments-kept P low runs now pairs added (Made parts item high ∷ ss) long same a h = search (rules, events-kept, all-kept, (segments-kept P high runs now pairs added ss long same a.1 h.1))

pub segments-more : (P : ℕ → Type 0) (low : ℕ) (runs now : List PairedRun) (pairs : List Pair) (ss : List Segment) → length runs ≤ length now → ((k : ℕ) → P k → get_or now k no_run ≡ get_or runs k no_run) → AllIn P ss → AreSegments runs pairs low ss → AreSegments now pairs low ss
segments-more P low runs now pairs ss long same a h = subst (λ ps. AreSegments now ps low ss) (append-nil pairs) (segments-kept P low runs now pairs [] ss long same a h)

pub segments-grow : (P : ℕ → Type 0) (low high from : ℕ) (old new : State) (ss : List Segment) → Grows low high old new → ((k : ℕ) → P k → (k < low) ⊎ (high ≤ k)) → AllIn P ss → AreSegments old.runs old.pairs from ss → AreSegments new.runs new.pairs from ss
segments-grow P low high from old new ss g out a h = search (rules, segments-kept)

-- and so do their events

pub segments-parts : (low : ℕ) (runs : List PairedRun) (pairs : List Pair) (ss : List Segment) → AreSegments runs pairs low ss → AreParts runs pairs (all_parts ss)
unfolding all_parts
segments-parts low runs pairs [] h = tt
segments-parts low runs pairs (Waiting k run ∷ ss) h = search (rules, (segments-parts (k + 1) runs pairs ss h.3))
segments-parts low runs pairs (Made parts item high ∷ ss) h = parts-append runs pairs parts (all_parts ss) h.0.marked (segments-parts high runs pairs ss h.1)

pub segments-same : (P : ℕ → Type 0) (low high from : ℕ) (old new : State) (ss : List Segment) → Grows low high old new → ((k : ℕ) → P k → (k < low) ⊎ (high ≤ k)) → AllIn P ss → AreSegments old.runs old.pairs from ss
    → events_of new.runs new.pairs (all_parts ss) ≡ events_of old.runs old.pairs (all_parts ss)
segments-same P low high from old new ss g out a h = search (rules, events-kept, all-parts, segments-parts)

-- the numbers of segments are from the one on that they begin with, and below the one after them

pub rising-numbers : (n low : ℕ) (runs : List PairedRun) (pairs : List Pair) (ms : List Part) → n ≤ low → Rising low (events_of runs pairs ms) → AllOf (λ k. n ≤ k) ms
unfolding events_of
rising-numbers n low runs pairs [] h r = tt
rising-numbers n low runs pairs (Numbered k ∷ ms) h r =
    let p = get_or runs k no_run in
    let o = rising-once low k p.run (ends (drop p.from (take p.to pairs))) (chain (reverse pairs) p.opened ++ events_of runs pairs ms)
    (subst (Rising low) (append_assoc (ends (drop p.from (take p.to pairs))) (Rest k p.run ∷ chain (reverse pairs) p.opened) (events_of runs pairs ms)) r) in
    (omega (arith, h, o.high), rising-numbers n low runs pairs ms h (rising-beyond-of low (run_events pairs k p) (events_of runs pairs ms) r))
rising-numbers n low runs pairs (Known fs ∷ ms) h r = rising-numbers n low runs pairs ms h (rising-beyond-of low fs (events_of runs pairs ms) r)

pub segments-from : (n low : ℕ) (runs : List PairedRun) (pairs : List Pair) (ss : List Segment) → n ≤ low → AreSegments runs pairs low ss → AllIn (λ k. n ≤ k) ss
segments-from n low runs pairs [] h g = tt
segments-from n low runs pairs (Waiting k run ∷ ss) h g = (omega (arith, h, g.0), segments-from n (k + 1) runs pairs ss (omega (arith, h, g.0)) g.3)
segments-from n low runs pairs (Made parts item high ∷ ss) h g = (rising-numbers n low runs pairs parts h g.0.rising, segments-from n high runs pairs ss (omega (arith, h, g.0.high_is)) g.1)

pub beyond-after : (low : ℕ) (runs : List PairedRun) (pairs : List Pair) (ss : List Segment) → AreSegments runs pairs low ss → low ≤ number_after low ss
unfolding number_after
beyond-after low runs pairs [] g = omega arith
beyond-after low runs pairs (Waiting k run ∷ ss) g = omega (arith, g.0, beyond-after (k + 1) runs pairs ss g.3)
beyond-after low runs pairs (Made parts item high ∷ ss) g = omega (arith, g.0.high_is, beyond-after high runs pairs ss g.1)

pub segments-under : (m low : ℕ) (runs : List PairedRun) (pairs : List Pair) (ss : List Segment) → number_after low ss ≤ m → AreSegments runs pairs low ss → AllIn (λ k. k < m) ss
unfolding number_after
segments-under m low runs pairs [] h g = tt
segments-under m low runs pairs (Waiting k run ∷ ss) h g = (omega (arith, h, beyond-after (k + 1) runs pairs ss g.3), segments-under m (k + 1) runs pairs ss h g.3)
segments-under m low runs pairs (Made parts item high ∷ ss) h g = (under-all high m parts (omega (arith, h, beyond-after high runs pairs ss g.1)) g.0.under, segments-under m high runs pairs ss h g.1)

pub segments-split : (low : ℕ) (runs : List PairedRun) (pairs : List Pair) (ss ts : List Segment) → AreSegments runs pairs low (ss ++ ts) → AreSegments runs pairs low ss × AreSegments runs pairs (number_after low ss) ts
unfolding number_after
segments-split low runs pairs [] ts g = (tt, g)
segments-split low runs pairs (Waiting k run ∷ ss) ts g = let r = segments-split (k + 1) runs pairs ss ts g.3 in ((g.0, g.1, g.2, r.0), r.1)
segments-split low runs pairs (Made parts item high ∷ ss) ts g = let r = segments-split high runs pairs ss ts g.1 in ((g.0, r.0), r.1)

-- the first number that waits is not below
abbrev first_or : ℕ → List ℕ → ℕ
first_or n [] = n
first_or n (k ∷ ks) = k

pub first-waits : (low n : ℕ) (ns : List ℕ) (runs : List PairedRun) (pairs : List Pair) (ss : List Segment) → AreSegments runs pairs low ss → numbers_in ss ≡ n ∷ ns → low ≤ n
unfolding numbers_in
first-waits low n ns runs pairs [] g e = absurd (cc e)
first-waits low n ns runs pairs (Waiting k run ∷ ss) g e = omega (arith, g.0, ap (first_or 0) e)
first-waits low n ns runs pairs (Made parts item high ∷ ss) g e = omega (arith, g.0.high_is, first-waits high n ns runs pairs ss g.1 e)

-- events whose runs are of numbers from one on rise from it on

abbrev Highs : ℕ → List Event → Type 0
Highs n fs = AreSuch (λ k r. n ≤ k) fs

raise : (n low : ℕ) (fs : List Event) → Highs n fs → Rising low fs → Rising n fs
raise n low [] h r = tt
raise n low (Rest k q ∷ fs) h r = (h.0, r.1)
raise n low (_ ∷ fs) h r = raise n low fs h r

pub rising-raised : (n low : ℕ) (runs : List PairedRun) (pairs : List Pair) (ms : List Part) → AllOf (λ k. n ≤ k) ms → AreParts runs pairs ms → Rising low (events_of runs pairs ms) → Rising n (events_of runs pairs ms)
rising-raised n low runs pairs ms a h r = raise n low (events_of runs pairs ms) (such-parts (λ k r. n ≤ k) runs pairs ms a h) r

pub parts-under : (runs : List PairedRun) (pairs : List Pair) (ms : List Part) → AreParts runs pairs ms → AreUnder (length runs) ms
parts-under runs pairs [] h = tt
parts-under runs pairs (Numbered k ∷ ms) h = (h.0, parts-under runs pairs ms h.3)
parts-under runs pairs (Known fs ∷ ms) h = parts-under runs pairs ms h.1
