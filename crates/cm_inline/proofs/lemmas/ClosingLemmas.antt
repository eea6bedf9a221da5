-- The steps of the loops of the code.
use Rattle.cm_inline.proofs.lemmas.Words.{◌≡◌, inr, ℕ, suc, ◌+◌, ◌<◌, ◌≤◌, Bool, true, false, cond, ◌==◌, nat_le, List, [], ◌∷◌, ◌++◌, length, drop, reverse, get_or}
use Rattle.cm_inline.proofs.lemmas.Words.{set, Some, None, refl, sym, ap, subst, ◌∙◌, arith, append-nil, append_assoc, length-append, reverse-append, get_or-set_same}
use Rattle.cm_inline.proofs.lemmas.Words.{get_or-set_other, length-set, take_all, cond-false, ne_eqb, leb-true, le-leb, Run, Item, Delimiters, Opened, nearest_opener}
use Rattle.cm_inline.proofs.lemmas.Words.{used, without, up_to_pair, passed, opened_at, rules, nat_tests, Finished, emphasised, settled}
use Rattle.cm_inline.specs.steps.Entries.{Entry, Listed}
use Rattle.cm_inline.specs.steps.Pairs.{items_emphases}
use Rattle.cm_inline.specs.steps.Searching.{kind, IsMarked, find_opener, looks_for, spent}
use Rattle.cm_inline.proofs.lemmas.NumberLemmas.{nat-split as nat_split}
use Rattle.cm_inline.specs.steps.Depths.{items_depth}
use Rattle.cm_inline.proofs.lemmas.InlineDepthLemmas.{emphasised-depth}
use Rattle.cm_inline.proofs.lemmas.PairDepthLemmas.{reverse-depth, settled-items, closer-deeper}
use Rattle.cm_inline.proofs.lemmas.EmphasisLemmas.{pair-holds, reversed-hold}
use Rattle.cm_inline.proofs.lemmas.CloserLemmas.{pass-other, pass-further, pass-ends, pass-stays}
use Rattle.cm_inline.proofs.lemmas.SearchLemmas.{FoundBy}
use Rattle.cm_inline.specs.steps.pairing.ClosingRuns.{AreUnder, State, so_far, PartsHold, last_depth, CloserGoesOn, CloserDone, PartAdded, PassGoesOn}
use Rattle.cm_inline.specs.steps.pairing.Events.{Event, Rest, Tag, Start, tag_of}
use Rattle.cm_inline.specs.steps.pairing.Parts.{Pair, PairedRun, Part, Numbered, Known, chain, ends, no_run, events_of, with_pair, with_opened, opened_event, open_at, Rising, HaveNoRun, AreParts}
use Rattle.cm_inline.specs.steps.pairing.Readings.{starts_in}
use Rattle.cm_inline.specs.steps.pairing.WaitingOpeners.{WaitAsOpeners}
use Rattle.cm_inline.proofs.lemmas.PartLemmas.{ends-none, pair-written, open-starts, pair-events-written, AreSuch, such-none, such-append, such-parts, under-all}
use Rattle.cm_inline.proofs.lemmas.ReadingLemmas.{starts-append}
use Rattle.cm_inline.proofs.lemmas.WaitLemmas.{after_pair, waits-pairs, with_looks, waits-fails, passed_by, waits-opener, waits-text, waits-gone}
use Rattle.cm_inline.proofs.lemmas.LaidLemmas.{events-append}
use Rattle.cm_inline.specs.steps.pairing.Stacks.{taken}

-- the numbers stay
rising-put : (low number count n : ℕ) (tag : Tag) (r : Run) (fs : List Event) → low ≤ n → Rising (suc n) fs → Rising low (opened_event number count tag (Rest n r) ++ fs)
rising-put low number count n tag r fs h g =
    elim (n == number) as (λ b. Rising low (cond b (Rest n (taken count r) ∷ Start tag ∷ []) (Rest n r ∷ []) ++ fs)) [ true ↦ (h, g) | false ↦ (h, g) ]

pub rising-open : (low number count : ℕ) (tag : Tag) (fs : List Event) → Rising low fs → Rising low (open_at number count tag fs)
unfolding open_at
rising-open low number count tag [] h = tt
rising-open low number count tag (Rest n r ∷ fs) h = rising-put low number count n tag r (open_at number count tag fs) h.0 (rising-open (suc n) number count tag fs h.1)
rising-open low number count tag (_ ∷ fs) h = rising-open low number count tag fs h

rising-none : (low : ℕ) (fs : List Event) → HaveNoRun fs → Rising low fs
rising-none low [] h = tt
rising-none low (Rest n r ∷ fs) h = absurd h.0
rising-none low (_ ∷ fs) h = rising-none low fs h.1

rising-more : (low : ℕ) (fs gs : List Event) → Rising low fs → HaveNoRun gs → Rising low (fs ++ gs)
rising-more low [] gs h g = rising-none low gs g
rising-more low (Rest n r ∷ fs) gs h g = (h.0, rising-more (suc n) fs gs h.1 g)
rising-more low (_ ∷ fs) gs h g = rising-more low fs gs h g

pub rising-front : (low : ℕ) (fs gs : List Event) → Rising low (fs ++ gs) → Rising low fs
rising-front low [] gs h = tt
rising-front low (Rest n r ∷ fs) gs h = (h.0, rising-front (suc n) fs gs h.1)
rising-front low (_ ∷ fs) gs h = rising-front low fs gs h

-- parts stay well made
run-kept : (number count n : ℕ) (tag : Tag) (runs : List PairedRun) (pairs : List Pair) → n < length runs → (get_or runs n no_run).opened ≤ length pairs → (get_or runs n no_run).to ≤ length pairs
    → ((get_or (with_opened number count runs pairs) n no_run).opened ≤ length (with_pair tag number runs pairs)) × ((get_or (with_opened number count runs pairs) n no_run).to ≤ length (with_pair tag number runs pairs))
run-kept number count n tag runs pairs within opened to = search (rules, nat_split, length-append, get_or-set_other, get_or-set_same)

pub parts-kept : (number count : ℕ) (tag : Tag) (runs : List PairedRun) (pairs : List Pair) (parts : List Part) → AreParts runs pairs parts → AreParts (with_opened number count runs pairs) (with_pair tag number runs pairs) parts
parts-kept number count tag runs pairs [] h = tt
parts-kept number count tag runs pairs (Numbered n ∷ ms) h = search (rules, run-kept, length-set, (parts-kept number count tag runs pairs ms h.3))
parts-kept number count tag runs pairs (Known fs ∷ ms) h = (h.0, parts-kept number count tag runs pairs ms h.1)

-- the code's writes for a pair
abbrev pub pair_written : Run → Entry → ℕ → List Entry → State → State
pair_written c e looks below s = record {
  runs = with_opened e.place (used e.run c) s.runs s.pairs;
  pairs = with_pair (tag_of c.character (used e.run c)) e.place s.runs s.pairs;
  list = after_pair c e looks below s.list;
  bottoms = s.bottoms;
}

pub record Pairing (parts : List Part) (first : ℕ) (c : Run) (s new : State) (before : List Item) (e : Entry) : Type 0 where
  pub low : List Item
  pub inside : List Item
  pub nearest : nearest_opener c before [] ≡ Some (opened_at e.run low inside)
  pub holds : PartsHold parts first new (reverse (up_to_pair (opened_at e.run low inside) c))
  pub paid : (kinds : ℕ) → spent kinds new.list new.bottoms ≤ spent kinds s.list s.bottoms
  pub made : s.list.looks + 1 ≤ new.list.looks
  pub nested : last_depth before ≤ items_depth inside
  pub starts : starts_in (events_of new.runs new.pairs parts) + length s.pairs ≤ starts_in (events_of s.runs s.pairs parts) + length new.pairs

last-inside : (before inside low : List Item) (r : Run) → before ≡ inside ++ Delimiters r ∷ low → last_depth before ≤ items_depth inside
last-inside before [] low r e = omega (arith, ap last_depth e)
last-inside before (item ∷ inside) low r e = omega (arith, ap last_depth e)

pub holds-pairs : (parts : List Part) (first : ℕ) (c : Run) (s : State) (before : List Item) (e : Entry) → PartsHold parts first s before → (g : FoundBy c (get_or s.bottoms (kind c) 0) s.list.entries e)
    → Pairing parts first c s (pair_written c e (looks_for c (get_or s.bottoms (kind c) 0) s.list.entries) g.below s) before e
holds-pairs parts first c s before e w g =
    let count = used e.run c in
    let tag = tag_of c.character count in
    let p = waits-pairs (so_far parts first s) before c e s.list s.bottoms w.waits g in
    let new = pair_written c e (looks_for c (get_or s.bottoms (kind c) 0) s.list.entries) g.below s in
    let opened = pair-written e.place count tag s.runs s.pairs parts w.marked in
    let rising = rising-front 0 (events_of s.runs s.pairs parts) (ends (drop first s.pairs)) w.rising in
    let written = pair-events-written c e p.below before s.runs s.pairs parts first w.marked w.early p.found w.rising in
    grind (arith, nat_tests, opened_at, parts-kept, rising-more, rising-open, ends-none, length-append, last-inside, reverse-depth, open-starts)

pub same-kind : (left : ℕ) (run c : Run) → record run { left = left } ≡ c → kind run ≡ kind c
unfolding kind
same-kind left run c e = ap kind e

last-made : (found : Opened) (c : Run) → last_depth (reverse (up_to_pair found c)) ≡ items_depth found.inside + 1
last-made found c =
    let n = used found.opener c in
    ap last_depth (reverse-append (found.before ++ without n found.opener) (Finished (emphasised c.character n (settled found.inside)) ∷ [])) ∙ emphasised-depth c.character n (settled found.inside) ∙ ap (λ d. d + 1) (settled-items found.inside)

-- a pair that leaves something of the closer
pub closing-further : (parts : List Part) (old : State) (run c rest : Run) (had : List Item) (s : State) (e : Entry) → c.closes ≡ true → CloserGoesOn parts old run had s c → (g : FoundBy c (get_or s.bottoms (kind c) 0) s.list.entries e)
    → Delimiters rest ∷ [] ≡ without (used e.run c) c → record c { left = rest.left } ≡ rest → CloserGoesOn parts old run had (pair_written c e (looks_for c (get_or s.bottoms (kind c) 0) s.list.entries) g.below s) rest
closing-further parts old run c rest had s e h go g left is =
    let w = go.closing in
    let p = holds-pairs parts (length old.pairs) c s go.before e w.holds g in
    let found = opened_at e.run p.low p.inside in
    let now = reverse (up_to_pair found c) in
    record {
      before = now;
      closing = record {
        holds = p.holds;
        same = ap with_left w.same ∙ is;
        goes = sym (pass-further go.before c rest found h p.nearest left) ∙ w.goes;
        paid = λ kinds known. omega (arith, p.paid kinds, w.paid kinds known);
        made = omega (arith, w.made, p.made, pair-holds go.before c found p.nearest, reversed-hold (up_to_pair found c));
        next = w.next;
        long = length-set s.runs e.place _ ∙ w.long;
        starts = omega (arith, w.starts, p.starts);
      };
      nested = omega (arith, go.nested, p.nested, last-made found c, length-append s.pairs (record { tag = tag_of c.character (used e.run c); before = (get_or s.runs e.place no_run).opened } ∷ []));
    }
  where
    with_left : Run → Run
    with_left r = record r { left = rest.left }

-- so many pairs of one closer nest so deep
pub closing-deep : (parts : List Part) (old : State) (run c : Run) (had : List Item) (s : State) (e : Entry) → c.closes ≡ true → CloserGoesOn parts old run had s c → FoundBy c (get_or s.bottoms (kind c) 0) s.list.entries e
    → length s.pairs + 1 ≤ length old.pairs + items_depth (passed had (Delimiters run))
closing-deep parts old run c had s e h go g =
    let p = holds-pairs parts (length old.pairs) c s go.before e go.closing.holds g in
    omega (arith, go.nested, p.nested, closer-deeper go.before c (opened_at e.run p.low p.inside) h p.nearest, ap items_depth go.closing.goes)

-- a pair that leaves nothing of it
pub closing-ends : (parts : List Part) (old : State) (run c : Run) (had : List Item) (s : State) (e : Entry) → c.closes ≡ true → CloserGoesOn parts old run had s c → (g : FoundBy c (get_or s.bottoms (kind c) 0) s.list.entries e) → [] ≡ without (used e.run c) c
    → CloserDone parts old run had (pair_written c e (looks_for c (get_or s.bottoms (kind c) 0) s.list.entries) g.below s) 0
closing-ends parts old run c had s e h go g left =
    let w = go.closing in
    let p = holds-pairs parts (length old.pairs) c s go.before e w.holds g in
    let found = opened_at e.run p.low p.inside in
    search (
      rules,
      (reverse (up_to_pair found c)),
      (sym (pass-ends go.before c found h p.nearest left) ∙ w.goes),
      pair-holds go.before c found p.nearest,
      reversed-hold (up_to_pair found c),
    )

not-none : (n : ℕ) → 1 ≤ n → nat_le n 0 ≡ false
not-none n p =
    (elim (nat_le n 0) as (λ b. nat_le n 0 ≡ b → nat_le n 0 ≡ false) [ true ↦ λ h. let few : n ≤ 0 = leb-true n 0 h in absurd (omega (arith, few, p)) | false ↦ λ h. h ]) refl

-- no opener is left: its bottom is raised
abbrev pub raised : Run → State → State
raised c s = record { runs = s.runs; pairs = s.pairs; list = with_looks s.list (looks_for c (get_or s.bottoms (kind c) 0) s.list.entries); bottoms = set s.bottoms (kind c) s.list.next }

pub closing-fails : (parts : List Part) (old : State) (run c : Run) (had : List Item) (s : State) → IsMarked c → c.closes ≡ true → 1 ≤ c.left → CloserGoesOn parts old run had s c
    → find_opener c (get_or s.bottoms (kind c) 0) s.list.entries ≡ None → CloserDone parts old run had (raised c s) c.left
closing-fails parts old run c had s m h some go none =
    let w = go.closing in
    let f = waits-fails (so_far parts (length old.pairs) s) go.before c s.list s.bottoms w.holds.waits m h none in
    record {
      before = go.before;
      rest = Delimiters c ∷ [];
      holds = record { waits = f.waits; marked = w.holds.marked; under = w.holds.under; rising = w.holds.rising; early = w.holds.early };
      goes = sym (pass-stays go.before c (inr f.nearest)) ∙ w.goes;
      rest_is = ap (λ r. Delimiters r ∷ []) (sym w.same) ∙ sym (cond-false (nat_le c.left 0) [] (Delimiters (record run { left = c.left }) ∷ []) (not-none c.left some));
      paid = λ kinds known. omega (arith, f.paid kinds (omega (arith, known, same-kind c.left run c w.same)), w.paid kinds known);
      made = omega (arith, w.made);
      starts = w.starts;
    }

pub drop-all : (ps : List Pair) → drop (length ps) ps ≡ []
drop-all [] = refl
drop-all (p ∷ ps) = drop-all ps

-- The ends of a closer's pairs are no starts.

ends-starts : (ps : List Pair) → starts_in (ends ps) ≡ 0
ends-starts [] = refl
ends-starts (p ∷ ps) = ends-starts ps

so-far-starts : (parts : List Part) (first : ℕ) (s : State) → starts_in (so_far parts first s) ≡ starts_in (events_of s.runs s.pairs parts)
so-far-starts parts first s = omega (arith, starts-append (events_of s.runs s.pairs parts) (ends (drop first s.pairs)), ends-starts (drop first s.pairs))

-- The closer's part is put after.

pub events-elsewhere : (n : ℕ) (now : PairedRun) (runs : List PairedRun) (pairs : List Pair) (ms : List Part) → AreUnder n ms → events_of (set runs n now) pairs ms ≡ events_of runs pairs ms
unfolding events_of
events-elsewhere n now runs pairs [] h = refl
events-elsewhere n now runs pairs (Numbered k ∷ ms) h = search (rules, get_or-set_other, (events-elsewhere n now runs pairs ms h.1))
events-elsewhere n now runs pairs (Known fs ∷ ms) h = ap (λ t. fs ++ t) (events-elsewhere n now runs pairs ms h)

pub parts-elsewhere : (n : ℕ) (now : PairedRun) (runs : List PairedRun) (pairs : List Pair) (ms : List Part) → AreUnder n ms → AreParts runs pairs ms → AreParts (set runs n now) pairs ms
parts-elsewhere n now runs pairs [] u h = tt
parts-elsewhere n now runs pairs (Numbered k ∷ ms) u h = search (rules, get_or-set_other, length-set, (parts-elsewhere n now runs pairs ms u.1 h.3))
parts-elsewhere n now runs pairs (Known fs ∷ ms) u h = (h.0, parts-elsewhere n now runs pairs ms u h.1)

pub parts-append : (runs : List PairedRun) (pairs : List Pair) (ms ns : List Part) → AreParts runs pairs ms → AreParts runs pairs ns → AreParts runs pairs (ms ++ ns)
parts-append runs pairs [] ns h g = g
parts-append runs pairs (Numbered k ∷ ms) ns h g = (h.0, h.1, h.2, parts-append runs pairs ms ns h.3 g)
parts-append runs pairs (Known fs ∷ ms) ns h g = (h.0, parts-append runs pairs ms ns h.1 g)

pub under-append : (n k : ℕ) (ms ns : List Part) → n ≤ k → AreUnder n ms → AreUnder k ns → AreUnder k (ms ++ ns)
under-append n k [] ns p h g = g
under-append n k (Numbered j ∷ ms) ns p h g = (omega (arith, h.0, p), under-append n k ms ns p h.1 g)
under-append n k (Known fs ∷ ms) ns p h g = under-append n k ms ns p h g

pub chain-zero : (ps : List Pair) → chain ps 0 ≡ []
unfolding chain
chain-zero [] = refl
chain-zero (p ∷ ps) = cond-false (0 == suc (length ps)) (Start p.tag ∷ chain ps p.before) (chain ps 0) (ne_eqb 0 (suc (length ps)) (λ e. absurd (omega (arith, e)))) ∙ chain-zero ps

abbrev pub closed_run : Run → (from to : ℕ) → PairedRun
closed_run run from to = record { run = run; opened = 0; from = from; to = to }

-- what the code writes at the end of a closer's loop
abbrev pub finished : (number first left : ℕ) → Run → Listed → State → State
finished number first left run list s = record { runs = set s.runs number (closed_run (record run { left = left }) first (length s.pairs)); pairs = s.pairs; list = list; bottoms = s.bottoms }

so-far-finished : (parts : List Part) (number first left : ℕ) (run : Run) (list : Listed) (s : State) → number < length s.runs → AreUnder number parts
    → so_far (parts ++ Numbered number ∷ []) (length s.pairs) (finished number first left run list s) ≡ so_far parts first s ++ Rest number (record run { left = left }) ∷ []
unfolding events_of
so-far-finished parts number first left run list s within under =
    let now = closed_run (record run { left = left }) first (length s.pairs) in
    let runs = set s.runs number now in
    search (rules, drop-all, append-nil, events-append, events-elsewhere, get_or-set_same, take_all, chain-zero, append_assoc)

-- the numbers among events are below this one
abbrev pub AreLow : ℕ → List Event → Type 0
AreLow n fs = AreSuch (λ k r. k < n) fs

rising-beyond : (low n : ℕ) (r : Run) (fs : List Event) → Rising low fs → low ≤ n → AreLow n fs → Rising low (fs ++ Rest n r ∷ [])
rising-beyond low n r [] h p a = (p, tt)
rising-beyond low n r (Rest k q ∷ fs) h p a = (h.0, rising-beyond (suc k) n r fs h.1 (omega (arith, a.0)) a.1)
rising-beyond low n r (_ ∷ fs) h p a = rising-beyond low n r fs h p a

pub low-parts : (n : ℕ) (runs : List PairedRun) (pairs : List Pair) (ms : List Part) → AreUnder n ms → AreParts runs pairs ms → AreLow n (events_of runs pairs ms)
low-parts n runs pairs ms u h = such-parts (λ k r. k < n) runs pairs ms (under-all n n ms (omega arith) u) h

low-so-far : (n first : ℕ) (s : State) (parts : List Part) → AreUnder n parts → AreParts s.runs s.pairs parts → AreLow n (so_far parts first s)
low-so-far n first s parts u h =
    such-append (λ k r. k < n) (events_of s.runs s.pairs parts) (ends (drop first s.pairs)) (low-parts n s.runs s.pairs parts u h) (such-none (λ k r. k < n) _ (ends-none (drop first s.pairs)))

-- So its part is put after.
pub put-finished : (parts : List Part) (old : State) (number left : ℕ) (run : Run) (had : List Item) (s : State) → number < length s.runs → number ≡ s.list.next → CloserDone parts old run had s left
    → PartAdded parts old run had (finished number (length old.pairs) left run s.list s) number left
put-finished parts old number left run had s within at d =
    let first = length old.pairs in
    let w = d.holds in
    let now = closed_run (record run { left = left }) first (length s.pairs) in
    let is = get_or-set_same s.runs number now no_run within in
    let under = subst (λ n. AreUnder n parts) (sym at) w.under in
    record {
      events = so_far parts first s;
      before = d.before;
      rest = d.rest;
      waits = w.waits;
      whole = so-far-finished parts number first left run s.list s within under;
      marked = parts-append (set s.runs number now) s.pairs parts (Numbered number ∷ []) (parts-elsewhere number now s.runs s.pairs parts under w.marked)
          (omega (arith, within, length-set s.runs number now), omega (arith, ap (λ (p : PairedRun). p.opened) is), omega (arith, ap (λ (p : PairedRun). p.to) is), tt);
      under = under;
      rising = rising-beyond 0 number (record run { left = left }) (so_far parts first s) w.rising (omega arith) (low-so-far number first s parts under w.marked);
      goes = d.goes;
      rest_is = d.rest_is;
      paid = d.paid;
      made = d.made;
      starts = omega (arith, d.starts, so-far-starts parts first s);
    }

-- a run that closes nothing is put after as it is
pub put-other : (parts : List Part) (s : State) (number : ℕ) (run : Run) (had : List Item) → number < length s.runs → number ≡ s.list.next → get_or s.runs number no_run ≡ closed_run run 0 0 → run.closes ≡ false → 1 ≤ run.left → PartsHold parts (length s.pairs) s had
    → PartAdded parts s run had s number run.left
unfolding events_of
put-other parts s number run had within at is other some w = search (rules, drop-all, append-nil, events-append, chain-zero, parts-append, rising-beyond, low-so-far, pass-other, cond-false, not-none, so-far-starts)

-- The pass goes on, and the list is as waits-opener, waits-text or waits-gone has it.
pub next-put : (parts : List Part) (old : State) (run : Run) (had : List Item) (s : State) (number left : ℕ) (list : Listed) (after : List Item) → (p : PartAdded parts old run had s number left) → list.next ≡ number + 1 → after ≡ passed had (Delimiters run)
    → WaitAsOpeners (p.events ++ Rest number (record run { left = left }) ∷ []) after list s.bottoms → ((kinds : ℕ) → kind run < kinds → spent kinds list s.bottoms ≤ spent kinds old.list old.bottoms + (kinds + 1 + run.left))
    → old.list.looks + items_emphases after ≤ list.looks + items_emphases had → PassGoesOn parts old run had (record s { list = list }) number
next-put parts old run had s number left list after p next is waits paid made = search (
  rules,
  (subst (PartsHold (parts ++ Numbered number ∷ []) (length s.pairs) (record s { list = list })) is
      (record {
        waits = subst (λ fs. WaitAsOpeners fs after list s.bottoms) (sym p.whole) waits;
        marked = p.marked;
        under = under-append number list.next parts (Numbered number ∷ [])
            (omega (arith, next)) p.under (omega (arith, next), tt);
        rising = subst (Rising 0) (sym p.whole) p.rising;
        early = omega arith;
      })),
  paid,
  made,
  ap items_emphases (sym is),
  ap starts_in p.whole,
  so-far-starts (parts ++ Numbered number ∷ []) (length s.pairs) s,
  starts-append p.events (Rest number (record run { left = left }) ∷ []),
)

left-over : (parts : List Part) (old : State) (run : Run) (had : List Item) (s : State) (number left : ℕ) (p : PartAdded parts old run had s number left) (b : Bool) → nat_le left 0 ≡ b → cond b [] (Delimiters (record run { left = left }) ∷ []) ++ p.before ≡ passed had (Delimiters run)
left-over parts old run had s number left p b h = ap (λ k. cond k [] (Delimiters (record run { left = left }) ∷ []) ++ p.before) (sym h) ∙ ap (λ t. t ++ p.before) (sym p.rest_is) ∙ p.goes

-- nothing is left of it
pub next-gone : (parts : List Part) (old : State) (run : Run) (had : List Item) (s : State) (number left : ℕ) → s.list.next ≡ number → left ≡ 0 → PartAdded parts old run had s number left → PassGoesOn parts old run had (record s { list = passed_by s.list s.list.entries }) number
next-gone parts old run had s number left at none p =
    next-put parts old run had s number left (passed_by s.list s.list.entries) p.before p (ap (λ n. n + 1) at) (left-over parts old run had s number left p true (le-leb left 0 (omega (arith, none))))
    (waits-gone p.events p.before number (record run { left = left }) s.list s.bottoms p.waits none) (λ kinds known. omega (arith, p.paid kinds known)) (omega (arith, p.made))

-- it doesn't open
pub next-text : (parts : List Part) (old : State) (run : Run) (had : List Item) (s : State) (number left : ℕ) → s.list.next ≡ number → 1 ≤ left → run.opens ≡ false → PartAdded parts old run had s number left → PassGoesOn parts old run had (record s { list = passed_by s.list s.list.entries }) number
next-text parts old run had s number left at some other p =
    next-put parts old run had s number left (passed_by s.list s.list.entries) (Delimiters (record run { left = left }) ∷ p.before) p (ap (λ n. n + 1) at) (left-over parts old run had s number left p false (not-none left some))
    (waits-text p.events p.before number (record run { left = left }) s.list s.bottoms p.waits other) (λ kinds known. omega (arith, p.paid kinds known)) (omega (arith, p.made))

-- it waits as an opener
pub next-opener : (parts : List Part) (old : State) (run : Run) (had : List Item) (s : State) (number left : ℕ) → s.list.next ≡ number → 1 ≤ left → left ≤ run.left → run.opens ≡ true → PartAdded parts old run had s number left
    → PassGoesOn parts old run had (record s { list = passed_by s.list (record { place = number; run = record run { left = left } } ∷ s.list.entries) }) number
next-opener parts old run had s number left at some fewer may p =
    let e : Entry = record { place = number; run = record run { left = left } } in
    let o = waits-opener p.events p.before e s.list s.bottoms p.waits may (sym at) in
    next-put parts old run had s number left (passed_by s.list (e ∷ s.list.entries)) (Delimiters (record run { left = left }) ∷ p.before) p (ap (λ n. n + 1) at) (left-over parts old run had s number left p false (not-none left some)) o.0
    (λ kinds known. omega (arith, o.1 kinds, p.paid kinds known, fewer)) (omega (arith, p.made))
