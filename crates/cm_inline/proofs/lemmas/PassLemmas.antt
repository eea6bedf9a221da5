-- What a pass begins with, and numbers that rise from one part to the next.
use Rattle.cm_inline.proofs.lemmas.Words.{◌≡◌, ℕ, suc, ◌≤◌, false, List, [], ◌∷◌, ◌++◌, length, take, drop, get_or, refl, arith, sum_by-cons, Item, passed, rules}
use Rattle.cm_inline.proofs.lemmas.Words.{nat_tests}
use Rattle.cm_inline.specs.steps.Searching.{spent, zeros}
use Rattle.cm_inline.specs.steps.Entries.{above, reserve}
use Rattle.cm_inline.specs.steps.pairing.ClosingRuns.{AreUnder, State, PartsHold}
use Rattle.cm_inline.specs.steps.pairing.Events.{Event, Rest}
use Rattle.cm_inline.specs.steps.pairing.Parts.{Pair, PairedRun, Part, Numbered, Known, ends, events_of, Rising}
use Rattle.cm_inline.specs.steps.pairing.Segments.{is_run}
use Rattle.cm_inline.specs.steps.pairing.Stacks.{NoneOpens}
use Rattle.cm_inline.proofs.lemmas.ClosingLemmas.{AreLow, rising-front, drop-all}
use Rattle.cm_inline.proofs.lemmas.ReadingLemmas.{reads-none}
use Rattle.cm_inline.proofs.lemmas.SegmentLemmas.{waits-raised}

pub rising-beyond-of : (low : ℕ) (fs gs : List Event) → Rising low (fs ++ gs) → Rising low gs
rising-beyond-of low fs gs h = go fs low h
  where
    lower : (n m : ℕ) (gs : List Event) → n ≤ m → Rising m gs → Rising n gs
    lower n m [] p h = tt
    lower n m (Rest k r ∷ gs) p h = (omega (arith, p, h.0), h.1)
    lower n m (_ ∷ gs) p h = lower n m gs p h

    go : (fs : List Event) (low : ℕ) → Rising low (fs ++ gs) → Rising low gs
    go [] low h = h
    go (Rest k r ∷ fs) low h = lower low (suc k) gs (omega (arith, h.0)) (go fs (suc k) h.1)
    go (_ ∷ fs) low h = go fs low h

pub rising-lower : (n m : ℕ) (gs : List Event) → n ≤ m → Rising m gs → Rising n gs
rising-lower n m [] p h = tt
rising-lower n m (Rest k r ∷ gs) p h = (omega (arith, p, h.0), h.1)
rising-lower n m (_ ∷ gs) p h = rising-lower n m gs p h

pub rising-join : (low n : ℕ) (fs gs : List Event) → low ≤ n → Rising low fs → AreLow n fs → Rising n gs → Rising low (fs ++ gs)
rising-join low n [] gs p h a g = rising-lower low n gs p g
rising-join low n (Rest k r ∷ fs) gs p h a g = (h.0, rising-join (suc k) n fs gs (omega (arith, a.0)) h.1 a.1 g)
rising-join low n (_ ∷ fs) gs p h a g = rising-join low n fs gs p h a g

-- the next number may be a higher one
under-more : (n m : ℕ) (ms : List Part) → n ≤ m → AreUnder n ms → AreUnder m ms
under-more n m [] p h = tt
under-more n m (Numbered k ∷ ms) p h = (omega (arith, h.0, p), under-more n m ms p h.1)
under-more n m (Known fs ∷ ms) p h = under-more n m ms p h

abbrev pub with_next : ℕ → State → State
with_next n s = record s { list = record s.list { next = n } }

pub holds-raised : (parts : List Part) (first n : ℕ) (s : State) (before : List Item) → s.list.next ≤ n → PartsHold parts first s before → PartsHold parts first (with_next n s) before
holds-raised parts first n s before h w = record { waits = waits-raised n h w.waits; marked = w.marked; under = under-more s.list.next n parts h w.under; rising = w.rising; early = w.early }

pub rising-done : (done : List Part) (s : State) (before : List Item) → PartsHold done (length s.pairs) s before → Rising 0 (events_of s.runs s.pairs done)
rising-done done s before w = rising-front 0 (events_of s.runs s.pairs done) (ends (drop (length s.pairs) s.pairs)) w.rising

pub not-run : (before : List Item) (item : Item) → is_run item ≡ false → passed before item ≡ item ∷ before
not-run before item h = grind (arith, nat_tests)

-- at first nothing waits, and no bottom is known
abbrev pub beginning : List PairedRun → List Pair → (looks next : ℕ) → State
beginning runs pairs looks next = record { runs = runs; pairs = pairs; list = record { entries = []; looks = looks; next = next }; bottoms = zeros }

pub zeros-zero : (k : ℕ) → get_or zeros k 0 ≤ 0
zeros-zero k = search rules

no-looks : (bottoms : List ℕ) → reserve bottoms [] ≡ 0
unfolding reserve
no-looks [] = refl
no-looks (b ∷ bottoms) = omega (arith, sum_by-cons (λ (n : ℕ). above n []) b bottoms, no-looks bottoms)

pub nothing-spent : (kinds looks low : ℕ) → spent kinds (record { entries = []; looks = looks; next = low }) zeros ≤ looks
nothing-spent kinds looks low = omega (arith, no-looks (take kinds zeros))

pub holds-nothing : (runs : List PairedRun) (pairs : List Pair) (looks next : ℕ) → PartsHold [] (length pairs) (beginning runs pairs looks next) []
unfolding events_of NoneOpens
holds-nothing runs pairs looks next = search (rules, drop-all, reads-none, zeros-zero)
