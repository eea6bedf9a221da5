-- What the code writes while a closer makes its pairs is what the steps of the closer's loop say.
use Rattle.cm_inline.proofs.lemmas.Words.{◌≡◌, ◌⊎◌, inl, inr, ℕ, zero, suc, ◌+◌, ◌-◌, ◌<◌, ◌≤◌, Bool, true, false, nat_le, List, [], ◌∷◌, ◌++◌, length, drop, get_or}
use Rattle.cm_inline.proofs.lemmas.Words.{set, Some, None, refl, sym, ap, subst, ◌∙◌, arith, length-map, map-set, get_or-map, get_or-set_other, get_or-set_same, cond-true, cond-false, le-leb, leb-true, Run, Item}
use Rattle.cm_inline.proofs.lemmas.Words.{Delimiters, used, HeldPair, HeldRun, rules}
use Rattle.cm_inline.specs.steps.pairing.ClosingRuns.{State, so_far, PartsHold, CloserGoesOn, CloserDone, PartAdded, PassGoesOn}
use Rattle.cm_inline.specs.steps.pairing.Events.{Event, Rest, tag_of}
use Rattle.cm_inline.specs.steps.pairing.Parts.{PairedRun, Part, Numbered, Known, ends, no_run as no_paired_run, events_of, with_pair}
use Rattle.cm_inline.specs.steps.pairing.Stacks.{Stacked, taken}
use Rattle.cm_inline.specs.steps.pairing.States.{Holding, IsFresh, closed_at, held, held_before, left_at, no_run, run_at, state_of, RunSteps, with_closed, with_left}
use Rattle.cm_inline.specs.steps.Entries.{Entry, Below, Falling, last_entry, before_last, leaving}
use Rattle.cm_inline.specs.steps.Runs.{Listing, entry_of, paired_run, run_of, pair_in, runs_in, pairs_in}
use Rattle.cm_inline.specs.steps.Slots.{first_up, removed, rewritten}
use Rattle.cm_inline.specs.steps.Searching.{kind, IsMarked, find_opener, looks_for, from_found}
use Rattle.cm_inline.proofs.lemmas.ClosingLemmas.{pair_written, closing-further, closing-ends, closing-fails, closed_run, put-finished, next-gone, next-text, next-opener}
use Rattle.cm_inline.proofs.lemmas.PartLemmas.{ends-none, AreSuch, AllOf, such-none, such-append, such-parts}
use Rattle.cm_inline.proofs.lemmas.SearchLemmas.{FoundBy, find-found}
use Rattle.cm_inline.proofs.lemmas.SlotLemmas.{last-removed, last-rewritten}
use Rattle.cm_inline.proofs.lemmas.StackLemmas.{Found, stacked-found}
use Rattle.cm_inline.proofs.lemmas.StateLemmas.{MakesPair, steps-fails, leaving-rest, left-in, cut_run, same-held, same-list, same-state}
use Rattle.cm_inline.proofs.lemmas.WaitLemmas.{below-beyond, falling-beyond}

-- what is left of a run among events is what is left of the run of that number
abbrev pub AreHeld : List PairedRun → List Event → Type 0
AreHeld runs fs = AreSuch (λ n r. r ≡ (get_or runs n no_paired_run).run) fs

held-at : (runs : List PairedRun) (fs gs : List Event) (n : ℕ) (r : Run) → AreHeld runs (fs ++ Rest n r ∷ gs) → r ≡ (get_or runs n no_paired_run).run
held-at runs [] gs n r h = h.0
held-at runs (Rest k q ∷ fs) gs n r h = held-at runs fs gs n r h.1
held-at runs (_ ∷ fs) gs n r h = held-at runs fs gs n r h

all-held : (runs : List PairedRun) (ms : List Part) → AllOf (λ k. (get_or runs k no_paired_run).run ≡ (get_or runs k no_paired_run).run) ms
all-held runs [] = tt
all-held runs (Numbered k ∷ ms) = (refl, all-held runs ms)
all-held runs (Known fs ∷ ms) = all-held runs ms

pub held-run : (parts : List Part) (first : ℕ) (c : Run) (s : State) (before : List Item) (e : Entry) → PartsHold parts first s before → FoundBy c (get_or s.bottoms (kind c) 0) s.list.entries e → e.run ≡ (get_or s.runs e.place no_paired_run).run
held-run parts first c s before e w g =
    let fs = so_far parts first s in
    let f : Found c e g.below fs before = stacked-found c g.passed e g.below fs before (subst (λ es. Stacked es fs before) g.whole w.waits.stacked) g.none in
    let such = λ (n : ℕ) (r : Run). r ≡ (get_or s.runs n no_paired_run).run in
    let all : AreHeld s.runs fs = such-append such (events_of s.runs s.pairs parts) (ends (drop first s.pairs)) (such-parts such s.runs s.pairs parts (all-held s.runs parts) w.marked)
    (such-none such _ (ends-none (drop first s.pairs))) in
    held-at s.runs f.front f.back e.place e.run (subst (AreHeld s.runs) f.events all)

-- so the pair is written as the definition has it
pair-state : (new now : Holding) (bs : List ℕ) (number : ℕ) (c : Run) (e : Entry) (g : FoundBy c (get_or bs (kind c) 0) new.entries e)
    → MakesPair c e g.below (looks_for c (get_or bs (kind c) 0) new.entries) (tag_of c.character (used e.run c)) new now → e.run ≡ (get_or (runs_in new.runs) e.place no_paired_run).run
    → state_of now bs number ≡ pair_written c e (looks_for c (get_or bs (kind c) 0) new.entries) g.below (state_of new bs number)
pair-state new now bs number c e g m is = search (rules, same-state, same-list, leaving-rest, left-in, cut_run, length-map)

-- the pair that the code makes of what its search finds
pub record MadePair (new now : Holding) (bs : List ℕ) (c : Run) (e : Entry) : Type 0 where
  pub found : FoundBy c (get_or bs (kind c) 0) new.entries e
  pub makes : MakesPair c e found.below (looks_for c (get_or bs (kind c) 0) new.entries) (tag_of c.character (used e.run c)) new now

made-pair : (new now : Holding) (bs : List ℕ) (k : ℕ) (c : Run) (e : Entry) → k ≡ kind c → e.place < length new.runs
    → find_opener c (get_or bs k 0) new.entries ≡ Some e → now.entries ≡ leaving (e.run.left - used e.run c) (from_found c (get_or bs k 0) new.entries)
    → now.looks ≡ new.looks + looks_for c (get_or bs k 0) new.entries → pairs_in now.pairs ≡ with_pair (tag_of c.character (used e.run c)) e.place (runs_in new.runs) (pairs_in new.pairs)
    → now.runs ≡ with_left e.place (e.run.left - used e.run c) (length new.pairs + 1) new.runs → MadePair new now bs c e
made-pair new now bs k c e same within f entries looks pairs runs =
    let bottom = ap (λ j. get_or bs j 0) same in
    let found = find-found c (get_or bs (kind c) 0) new.entries e (sym (ap (λ b. find_opener c b new.entries) bottom) ∙ f) in
    record {
      found = found;
      makes = record {
        within = within;
        entries = entries ∙ ap (leaving (e.run.left - used e.run c)) (ap (λ b. from_found c b new.entries) bottom ∙ found.left);
        looks_are = looks ∙ ap (λ b. new.looks + looks_for c b new.entries) bottom;
        pairs = pairs;
        runs = runs;
      };
    }

-- a search in vain is counted
abbrev pub looked_for : Run → ℕ → Holding → Holding
looked_for c bottom h = record h { looks = h.looks + looks_for c bottom h.entries }

-- the last entry stays while those before it change
after-last : (n : ℕ) (es more : List Entry) → first_up es ≡ suc n → (before_last (last_entry es ++ more) ≡ more) × (last_entry (last_entry es ++ more) ≡ last_entry es) × (first_up (last_entry es ++ more) ≡ suc n)
after-last n [] more h = absurd (omega (arith, h))
after-last n (e ∷ es) more h = (refl, refl, h)

-- a search, in the program, that fails
pub search-failed : (list after : Listing) (ps : List HeldPair) (bs : List ℕ) (k b : ℕ) (c : Run) → b ≡ get_or bs k 0 → after.runs ≡ list.runs → after.entries ≡ list.entries → after.looks ≡ list.looks + looks_for c b (before_last list.entries)
    → held_before after ps ≡ looked_for c (get_or bs k 0) (held_before list ps)
search-failed list after ps bs k b c bottom runs entries looks =
    same-held (held_before after ps) (looked_for c (get_or bs k 0) (held_before list ps)) runs refl (ap before_last entries) (looks ∙ ap (λ n. list.looks + looks_for c n (before_last list.entries)) bottom)

-- and one that finds an opener, with the entries before the closer
pub found-first : (list after : Listing) (number b n : ℕ) (c : Run) (r : HeldRun) → first_up list.entries ≡ suc number → find_opener c b (before_last list.entries) ≡ Some (entry_of n r) → after.entries ≡ last_entry list.entries ++ from_found c b (before_last list.entries)
    → last_entry (before_last after.entries) ≡ entry_of n r ∷ []
found-first list after number b n c r top found is =
    ap (λ l. last_entry (before_last l)) is ∙ ap last_entry ((after-last number list.entries (from_found c b (before_last list.entries)) top).0 ∙ (find-found c b (before_last list.entries) (entry_of n r) found).left)

pub found-falls : (list after : Listing) (number b : ℕ) (c : Run) (e : Entry) → first_up list.entries ≡ suc number → Falling (before_last list.entries) → Below number (before_last list.entries) → find_opener c b (before_last list.entries) ≡ Some e
    → after.entries ≡ last_entry list.entries ++ from_found c b (before_last list.entries) → Falling after.entries
found-falls list after number b c e top falling under found is = subst Falling (sym is) (go list.entries top falling under (find-found c b (before_last list.entries) e found))
  where
    go : (es : List Entry) → first_up es ≡ suc number → Falling (before_last es) → Below number (before_last es) → FoundBy c b (before_last es) e → Falling (last_entry es ++ from_found c b (before_last es))
    go [] h f u g = absurd (omega (arith, h))
    go (x ∷ es) h f u g =
        let place : number ≡ x.place = omega (arith, h) in
        subst (λ l. Falling (x ∷ l)) (sym g.left)
        (subst (λ n. Below n (e ∷ g.below)) place (below-beyond number g.passed (e ∷ g.below) (subst (Below number) g.whole u)), falling-beyond g.passed (e ∷ g.below) (subst Falling g.whole f))

pub pair-made : (list after now : Listing) (ps qs : List HeldPair) (bs : List ℕ) (number k b n : ℕ) (c : Run) (r : HeldRun) → k ≡ kind c → b ≡ get_or bs k 0 → first_up list.entries ≡ suc number → n < length list.runs
    → find_opener c b (before_last list.entries) ≡ Some (entry_of n r) → after.entries ≡ last_entry list.entries ++ from_found c b (before_last list.entries) → after.looks ≡ list.looks + looks_for c b (before_last list.entries) → after.runs ≡ list.runs
    → now.entries ≡ last_entry after.entries ++ leaving (r.run.left - used (run_of r.run) c) (before_last after.entries) → now.looks ≡ after.looks
    → pairs_in qs ≡ with_pair (tag_of c.character (used (run_of r.run) c)) n (runs_in after.runs) (pairs_in ps) → now.runs ≡ with_left n (r.run.left - used (run_of r.run) c) (length ps + 1) after.runs
    → MadePair (held_before list ps) (held_before now qs) bs c (entry_of n r)
pair-made list after now ps qs bs number k b n c r same bottom top there found entries looks runs left steady pairs written =
    let all = before_last list.entries in
    let gone = r.run.left - used (run_of r.run) c in
    let first = after-last number list.entries (from_found c b all) top in
    let next = after-last number after.entries (leaving gone (before_last after.entries)) (ap first_up entries ∙ first.2) in
    made-pair (held_before list ps) (held_before now qs) bs k c (entry_of n r) same there (sym (ap (λ m. find_opener c m all) bottom) ∙ found)
    (ap before_last left ∙ next.0 ∙ ap (leaving gone) (ap before_last entries ∙ first.0 ∙ ap (λ m. from_found c m all) bottom))
    (steady ∙ looks ∙ ap (λ m. list.looks + looks_for c m all) bottom) (pairs ∙ ap (λ rs. with_pair (tag_of c.character (used (run_of r.run) c)) n (runs_in rs) (pairs_in ps)) runs) (written ∙ ap (with_left n gone (length ps + 1)) runs)

-- the closer stays the last entry
pub last-kept : (list after now : Listing) (number : ℕ) (more others : List Entry) → first_up list.entries ≡ suc number → after.entries ≡ last_entry list.entries ++ more → now.entries ≡ last_entry after.entries ++ others
    → (last_entry now.entries ≡ last_entry list.entries) × (first_up now.entries ≡ suc number)
last-kept list after now number more others top entries left =
    let first = after-last number list.entries more top in
    let next = after-last number after.entries others (ap first_up entries ∙ first.2) in
    (ap last_entry left ∙ next.1 ∙ ap last_entry entries ∙ first.1, ap first_up left ∙ next.2)

-- and its own run stays
pub own-stays : (list after now : Listing) (number n left opened : ℕ) → n < number → after.runs ≡ list.runs → now.runs ≡ with_left n left opened after.runs → run_at now.runs number ≡ run_at list.runs number
own-stays list after now number n left opened h runs is =
    ap (λ rs. run_at rs number) is ∙ get_or-set_other after.runs n number (left_at left opened (run_at after.runs n)) no_run (λ e. absurd (omega (arith, e, h))) ∙ ap (λ rs. run_at rs number) runs

pub going-pairs : (parts : List Part) (old : State) (run c : Run) (had : List Item) (new now : Holding) (bs : List ℕ) (number left : ℕ) (e : Entry) → c.closes ≡ true → CloserGoesOn parts old run had (state_of new bs number) c
    → (g : FoundBy c (get_or bs (kind c) 0) new.entries e) → MakesPair c e g.below (looks_for c (get_or bs (kind c) 0) new.entries) (tag_of c.character (used e.run c)) new now
    → left + used e.run c ≡ c.left → 1 ≤ left → CloserGoesOn parts old run had (state_of now bs number) (record c { left = left })
going-pairs parts old run c had new now bs number left e h go g m less some =
    let rest = ap (λ k. Delimiters (record c { left = k }) ∷ []) (omega (arith, less)) ∙ sym (cond-false (nat_le c.left n) [] (Delimiters (taken n c) ∷ []) (more (nat_le c.left n) refl)) in
    subst (λ s. CloserGoesOn parts old run had s (record c { left = left })) (sym (pair-state new now bs number c e g m (held-run parts (length old.pairs) c (state_of new bs number) go.before e go.closing.holds g)))
    (closing-further parts old run c (record c { left = left }) had (state_of new bs number) e h go g rest refl)
  where
    n : ℕ
    n = used e.run c

    more : (b : Bool) → nat_le c.left n ≡ b → nat_le c.left n ≡ false
    more true k = let few : c.left ≤ n = leb-true c.left n k in absurd (omega (arith, few, less, some))
    more false k = k

pub done-pairs : (parts : List Part) (old : State) (run c : Run) (had : List Item) (new now : Holding) (bs : List ℕ) (number : ℕ) (e : Entry) → c.closes ≡ true → CloserGoesOn parts old run had (state_of new bs number) c
    → (g : FoundBy c (get_or bs (kind c) 0) new.entries e) → MakesPair c e g.below (looks_for c (get_or bs (kind c) 0) new.entries) (tag_of c.character (used e.run c)) new now
    → used e.run c ≡ c.left → CloserDone parts old run had (state_of now bs number) 0
done-pairs parts old run c had new now bs number e h go g m none =
    subst (λ s. CloserDone parts old run had s 0) (sym (pair-state new now bs number c e g m (held-run parts (length old.pairs) c (state_of new bs number) go.before e go.closing.holds g)))
    (closing-ends parts old run c had (state_of new bs number) e h go g (sym (cond-true (nat_le c.left (used e.run c)) [] (Delimiters (taken (used e.run c) c) ∷ []) (le-leb c.left (used e.run c) (omega (arith, none))))))

done-fails : (parts : List Part) (old : State) (run c : Run) (had : List Item) (new : Holding) (bs : List ℕ) (number : ℕ) → IsMarked c → c.closes ≡ true → 1 ≤ c.left → CloserGoesOn parts old run had (state_of new bs number) c
    → find_opener c (get_or bs (kind c) 0) new.entries ≡ None → CloserDone parts old run had (state_of (looked_for c (get_or bs (kind c) 0) new) (set bs (kind c) number) number) c.left
done-fails parts old run c had new bs number mark h some go none = closing-fails parts old run c had (state_of new bs number) mark h some go none

-- the same where the code has the number of the kind
pub done-none : (parts : List Part) (old : State) (run c : Run) (had : List Item) (new now : Holding) (bs : List ℕ) (number k : ℕ) → k ≡ kind c → now ≡ looked_for c (get_or bs k 0) new → IsMarked c → c.closes ≡ true → 1 ≤ c.left
    → CloserGoesOn parts old run had (state_of new bs number) c → find_opener c (get_or bs k 0) new.entries ≡ None → CloserDone parts old run had (state_of now (set bs k number) number) c.left
done-none parts old run c had new now bs number k same is mark h some go none =
    subst (λ n. CloserDone parts old run had (state_of n (set bs k number) number) c.left) (sym is)
    (subst (λ j. CloserDone parts old run had (state_of (looked_for c (get_or bs j 0) new) (set bs j number) number) c.left) (sym same)
    (done-fails parts old run c had new bs number mark h some go (sym (ap (λ j. find_opener c (get_or bs j 0) new.entries) same) ∙ none)))

pub steps-search-fails : (old new now : Holding) (had bs : List ℕ) (number k : ℕ) (c : Run) → k ≡ kind c → now ≡ looked_for c (get_or bs k 0) new → RunSteps old new had bs number number 0 → find_opener c (get_or bs k 0) new.entries ≡ None
    → RunSteps old now had (set bs k number) number number 0
steps-search-fails old new now had bs number k c same is s none =
    subst (λ n. RunSteps old n had (set bs k number) number number 0) (sym is)
    (subst (λ j. RunSteps old (looked_for c (get_or bs j 0) new) had (set bs j number) number number 0) (sym same)
    (steps-fails old new had bs number c s (sym (ap (λ j. find_opener c (get_or bs j 0) new.entries) same) ∙ none)))

-- the closer's own run is written
pub put-closed : (parts : List Part) (old : State) (run : Run) (had : List Item) (mid : Holding) (bs : List ℕ) (number left : ℕ) (x : HeldRun) → number < length mid.runs → CloserDone parts old run had (state_of mid bs number) left
    → run_of x.run ≡ record run { left = left } → x.opened ≡ 0 → x.from ≡ length old.pairs → x.to ≡ length mid.pairs → PartAdded parts old run had (record (state_of mid bs number) { runs = runs_in (set mid.runs number x) }) number left
put-closed parts old run had mid bs number left x within d is none from to =
    let s = state_of mid bs number in
    let runs = map-set paired_run mid.runs number x
    ∙ ap (λ (q : Run). set (runs_in mid.runs) number (record { run = q; opened = x.opened; from = x.from; to = x.to })) is
    ∙ ap (λ k. set (runs_in mid.runs) number (record { run = record run { left = left }; opened = k; from = x.from; to = x.to })) none
    ∙ ap (λ k. set (runs_in mid.runs) number (closed_run (record run { left = left }) k x.to)) from
    ∙ ap (λ k. set (runs_in mid.runs) number (closed_run (record run { left = left }) (length old.pairs) k)) (to ∙ sym (length-map mid.pairs pair_in)) in
    subst (λ rs. PartAdded parts old run had (record (state_of mid bs number) { runs = rs }) number left) (sym runs) (put-finished parts old number left run had s (omega (arith, within, length-map mid.runs paired_run)) refl d)

-- and the closer is the last entry with what is left of it
top-of : (es fs : List Entry) → last_entry es ≡ last_entry fs → first_up es ≡ first_up fs
top-of es fs h = sym (one es) ∙ ap first_up h ∙ one fs
  where
    one : (es : List Entry) → first_up (last_entry es) ≡ first_up es
    one [] = refl
    one (e ∷ es) = refl

pub top-is : (es : List Entry) (e : Entry) → last_entry es ≡ e ∷ [] → first_up es ≡ suc e.place
top-is es e h = top-of es (e ∷ []) h

whole-is : (es : List Entry) (e : Entry) → last_entry es ≡ e ∷ [] → es ≡ e ∷ before_last es
whole-is [] e h = absurd (omega (arith, ap length h))
whole-is (x ∷ es) e h = ap (λ l. get_or l 0 x ∷ es) h

pub last-written : (list after now : Listing) (number left from to : ℕ) → number < length after.runs → first_up list.entries ≡ suc number → last_entry after.entries ≡ last_entry list.entries → Below number (before_last after.entries)
    → run_at after.runs number ≡ run_at list.runs number → now.runs ≡ with_closed number left from to after.runs → now.entries ≡ rewritten number (run_at now.runs number) after.entries
    → now.entries ≡ entry_of number (closed_at left from to (run_at list.runs number)) ∷ before_last after.entries
last-written list after now number left from to there top kept under own runs is =
    let x = ap (λ rs. run_at rs number) runs ∙ get_or-set_same after.runs number (closed_at left from to (run_at after.runs number)) no_run there ∙ ap (closed_at left from to) own in
    is ∙ ap (λ r. rewritten number r after.entries) x ∙ last-rewritten number (closed_at left from to (run_at list.runs number)) after.entries (top-of after.entries list.entries kept ∙ top) under

-- no pair was made of a run
pub fresh-opened : (runs : List HeldRun) (number : ℕ) → number < length runs → IsFresh runs number → (run_at runs number).opened ≡ 0
fresh-opened runs number there fresh = ap (λ (r : PairedRun). r.opened) (sym (get_or-map paired_run runs number no_run no_paired_run there) ∙ fresh)

-- the pass goes on after a run that has nothing left, or that doesn't open
pub next-rest : (parts : List Part) (old : State) (run : Run) (had : List Item) (new : Holding) (bs : List ℕ) (number left : ℕ) → (run.opens ≡ false) ⊎ (left ≡ 0) → PartAdded parts old run had (state_of new bs number) number left
    → PassGoesOn parts old run had (state_of new bs (number + 1)) number
next-rest parts old run had new bs number left (inr none) p = next-gone parts old run had (state_of new bs number) number left refl none p
next-rest parts old run had new bs number zero (inl other) p = next-gone parts old run had (state_of new bs number) number 0 refl refl p
next-rest parts old run had new bs number (suc n) (inl other) p = next-text parts old run had (state_of new bs number) number (suc n) refl (omega arith) other p

-- and after one that waits
pub next-waits : (parts : List Part) (old : State) (run : Run) (had : List Item) (new : Holding) (bs : List ℕ) (number left : ℕ) → 1 ≤ left → left ≤ run.left → run.opens ≡ true → PartAdded parts old run had (state_of new bs number) number left
    → PassGoesOn parts old run had (state_of (record new { entries = record { place = number; run = record run { left = left } } ∷ new.entries }) bs (number + 1)) number
next-waits parts old run had new bs number left some fewer may p = next-opener parts old run had (state_of new bs number) number left refl some fewer may p

-- the run at hand is entered, and taken out or not

pub entered-before : (list now : Listing) (ps : List HeldPair) (e : Entry) → now.entries ≡ e ∷ list.entries → now.runs ≡ list.runs → now.looks ≡ list.looks → held_before now ps ≡ held list ps
entered-before list now ps e entries runs looks = same-held (held_before now ps) (held list ps) runs refl (ap before_last entries) looks

pub entered-held : (list now : Listing) (ps : List HeldPair) (e : Entry) → now.entries ≡ e ∷ list.entries → now.runs ≡ list.runs → now.looks ≡ list.looks → held now ps ≡ record (held list ps) { entries = e ∷ list.entries }
entered-held list now ps e entries runs looks = same-held (held now ps) (record (held list ps) { entries = e ∷ list.entries }) runs refl entries looks

pub removed-held : (list now : Listing) (ps : List HeldPair) (e : Entry) → last_entry list.entries ≡ e ∷ [] → now.entries ≡ removed e.place list.entries → now.runs ≡ list.runs → now.looks ≡ list.looks → held now ps ≡ held_before list ps
removed-held list now ps e last entries runs looks = same-held (held now ps) (held_before list ps) runs refl (entries ∙ last-removed e.place list.entries (top-is list.entries e last)) looks

pub kept-held : (list : Listing) (ps : List HeldPair) (e : Entry) → last_entry list.entries ≡ e ∷ [] → held list ps ≡ record (held_before list ps) { entries = e ∷ before_last list.entries }
kept-held list ps e last = same-held (held list ps) (record (held_before list ps) { entries = e ∷ before_last list.entries }) refl refl (whole-is list.entries e last) refl
