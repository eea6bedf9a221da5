-- What reading needs of runs and their pairs: a run that is added, and what a pass made as one segment.
use Rattle.cm_inline.proofs.lemmas.Words.{◌≡◌, ℕ, suc, ◌+◌, ◌<◌, ◌≤◌, List, [], ◌∷◌, ◌++◌, length, refl, sym, subst, arith, length-append, get_or_append_left}
use Rattle.cm_inline.proofs.lemmas.Words.{get_or_push, ltb-true, ltb-false, Inline, Run, Finished, Linked, emphasis_of, Runs, rules}
use Rattle.std.proofs.lemmas.List.{get_or_past}
use Rattle.cm_inline.specs.steps.pairing.Events.{Event, Rest, Tag, Start, End, made_of}
use Rattle.cm_inline.specs.steps.pairing.Parts.{Pair, PairedRun, Part, Known, no_run as no_paired_run, events_of, Rising}
use Rattle.cm_inline.specs.steps.pairing.Passes.{number_after, AllPaired}
use Rattle.cm_inline.specs.steps.pairing.Readings.{IsAlone}
use Rattle.cm_inline.specs.steps.pairing.Segments.{Segment, Waiting, Made, items_in, all_parts, fresh, IsMade, AreSegments}
use Rattle.cm_inline.specs.steps.pairing.States.{AreChained}
use Rattle.cm_inline.specs.steps.Runs.{runs_in, pairs_in}
use Rattle.cm_inline.proofs.lemmas.ClosingLemmas.{parts-append, under-append}
use Rattle.cm_inline.proofs.lemmas.KeptLemmas.{segments-more, segments-under}
use Rattle.cm_inline.proofs.lemmas.NumberLemmas.{nat-split as nat_split}
use Rattle.cm_inline.proofs.lemmas.SegmentLemmas.{link-means}
use Rattle.cm_inline.proofs.lemmas.LaidLemmas.{events-append}

-- a run is pushed

pub chained-none : AreChained [] []
chained-none = record { before = λ place h. absurd (omega (arith, h)); opened = λ number. omega arith; closed = λ number. (omega arith, omega arith) }

pub chained-push : (runs : List PairedRun) (pairs : List Pair) (run : Run) → AreChained runs pairs → AreChained (runs ++ fresh run ∷ []) pairs
chained-push runs pairs run c = search (rules, ltb-true, ltb-false, get_or_push, get_or_past, length-append, get_or_append_left, nat_split)

-- and becomes a segment after the others

pub beyond-append : (low : ℕ) (ss ts : List Segment) → number_after low (ss ++ ts) ≡ number_after (number_after low ss) ts
unfolding number_after
beyond-append low [] ts = refl
beyond-append low (Waiting k run ∷ ss) ts = beyond-append (k + 1) ss ts
beyond-append low (Made parts item high ∷ ss) ts = beyond-append high ss ts

pub segments-append : (low : ℕ) (runs : List PairedRun) (pairs : List Pair) (ss ts : List Segment) → AreSegments runs pairs low ss → AreSegments runs pairs (number_after low ss) ts → AreSegments runs pairs low (ss ++ ts)
unfolding number_after
segments-append low runs pairs [] ts g h = h
segments-append low runs pairs (Waiting k run ∷ ss) ts g h = (g.0, g.1, g.2, segments-append (k + 1) runs pairs ss ts g.3 h)
segments-append low runs pairs (Made parts item high ∷ ss) ts g h = (g.0, segments-append high runs pairs ss ts g.1 h)

pub segments-push : (runs : List PairedRun) (pairs : List Pair) (run : Run) (ss : List Segment) → number_after 0 ss ≤ length runs → AreSegments runs pairs 0 ss → AreSegments (runs ++ fresh run ∷ []) pairs 0 (ss ++ Waiting (length runs) run ∷ [])
segments-push runs pairs run ss h g =
    segments-append 0 (runs ++ fresh run ∷ []) pairs ss (Waiting (length runs) run ∷ [])
    (segments-more (λ k. k < length runs) 0 runs (runs ++ fresh run ∷ []) pairs ss (omega (arith, length-append runs (fresh run ∷ []))) (λ k p. get_or_append_left runs (fresh run ∷ []) no_paired_run k p) (segments-under (length runs) 0 runs pairs ss h g) g)
    (h, omega (arith, length-append runs (fresh run ∷ [])), get_or_push runs (fresh run) no_paired_run (length runs) refl, tt)

-- What a pass made of the segments after the front becomes the content of a link or an image, as one segment.

rising-ended : (low : ℕ) (fs : List Event) (tag : Tag) → Rising low fs → Rising low (fs ++ End tag ∷ [])
rising-ended low [] tag h = tt
rising-ended low (Rest n r ∷ fs) tag h = (h.0, rising-ended (suc n) fs tag h.1)
rising-ended low (_ ∷ fs) tag h = rising-ended low fs tag h

abbrev pub linked_parts : Tag → List Part → List Part
linked_parts tag parts = (Known (Start tag ∷ []) ∷ parts) ++ Known (End tag ∷ []) ∷ []

pub link-made : (old new : Runs) (front inside : List Segment) (tag : Tag) → AllPaired old new front inside → number_after 0 front ≤ length new.list.runs → IsAlone tag (events_of (runs_in new.list.runs) (pairs_in new.pairs.items) (all_parts inside))
    → IsMade (runs_in new.list.runs) (pairs_in new.pairs.items) (number_after 0 front) (linked_parts tag (all_parts inside)) (Finished (made_of tag (emphasis_of (items_in inside)))) (length new.list.runs)
unfolding events_of
link-made old new front inside tag p high alone =
    let runs = runs_in new.list.runs in
    let pairs = pairs_in new.pairs.items in
    let parts = all_parts inside in
    let low = number_after 0 front in
    record {
      means = link-means runs pairs parts (items_in inside) tag p.reads alone;
      other = refl;
      marked = ((tt, tt), parts-append runs pairs parts (Known (End tag ∷ []) ∷ []) p.parts ((tt, tt), tt));
      rising = subst (λ fs. Rising low (Start tag ∷ fs)) (sym (events-append runs pairs parts (Known (End tag ∷ []) ∷ []))) (rising-ended low (events_of runs pairs parts) tag p.rising);
      under = under-append (length new.list.runs) (length new.list.runs) parts (Known (End tag ∷ []) ∷ []) (omega arith) p.under tt;
      high_is = high;
    }

-- an image that holds a link stands for the same
pub made-linked : (runs : List PairedRun) (pairs : List Pair) (low : ℕ) (parts : List Part) (inline : Inline) (high : ℕ) → IsMade runs pairs low parts (Finished inline) high → IsMade runs pairs low parts (Linked inline) high
made-linked runs pairs low parts inline high m = search rules
