-- What a search, a pair, and a run that is passed do to the runs that wait, and to the looks.
use Rattle.cm_inline.proofs.lemmas.Words.{◌≡◌, ℕ, zero, ◌+◌, ◌<◌, ◌≤◌, Bool, true, false, cond, nat_le, List, [], ◌∷◌, ◌++◌, length, reverse, take, get_or, set, Some}
use Rattle.cm_inline.proofs.lemmas.Words.{None, refl, sym, ap, subst, ◌∙◌, arith, get_or-set_same, get_or-set_other, get_or-take, length-set, length-take}
use Rattle.cm_inline.proofs.lemmas.Words.{sum_by-append, sum_by-cons, Run, delimiters_match, Item, Delimiters, nearest_opener, used, up_to_pair, opened_at, rules}
use Rattle.std.proofs.lemmas.Bool.{leb-false}
use Rattle.std.proofs.Math.Seq.{take-set-lt}
use Rattle.std.proofs.lemmas.List.Sums.{sum_by-set}
use Rattle.cm_scan.proofs.lemmas.inlines.PairingLemmas.{used-some}
use Rattle.cm_inline.specs.steps.Entries.{Entry, Listed, answers, above, reserve, Below, Falling}
use Rattle.cm_inline.specs.steps.Searching.{kind, IsMarked, find_opener, looks_for, AreSound, characters, spent}
use Rattle.cm_inline.proofs.lemmas.BottomLemmas.{kind-small}
use Rattle.cm_inline.proofs.lemmas.NumberLemmas.{nat-split as nat_split}
use Rattle.cm_inline.proofs.lemmas.ReserveLemmas.{reserve-push, reserve-remove, above-all}
use Rattle.cm_inline.proofs.lemmas.SearchLemmas.{FoundBy, none-looks, find-none, sound-raise, sound-push, sound-below, below-more}
use Rattle.cm_inline.specs.steps.pairing.Events.{Event, Rest}
use Rattle.cm_inline.specs.steps.pairing.Readings.{StandFor}
use Rattle.cm_inline.specs.steps.pairing.Stacks.{NoneOpens, Stacked, taken, rest_of}
use Rattle.cm_inline.specs.steps.pairing.States.{IsReady}
use Rattle.cm_inline.specs.steps.pairing.WaitingOpeners.{WaitAsOpeners}
use Rattle.cm_inline.proofs.lemmas.ReadingLemmas.{reads-rest, reads-empty}
use Rattle.cm_inline.proofs.lemmas.StackLemmas.{Found, stacked-found, stacked-more, stacked-push, found-nearest, none-nearest, pair_events, pair-stacked, pair-items}

abbrev pub with_looks : Listed → ℕ → Listed
with_looks l n = record { entries = l.entries; looks = l.looks + n; next = l.next }

-- a search in vain: the bottom pays for it
reserve-raised : (bs : List ℕ) (k n : ℕ) (es : List Entry) → k < length bs → Below n es → reserve (set bs k n) es + above (get_or bs k 0) es ≤ reserve bs es
unfolding reserve
reserve-raised bs k n es h b = omega (arith, sum_by-set (λ (b : ℕ). above b es) bs k n 0 h, above-all n es b)

pub waits-ready : {fs : List Event} {before : List Item} {l : Listed} {bs : List ℕ} → WaitAsOpeners fs before l bs → IsReady l bs
waits-ready w = record { falling = w.falling; under = w.under; size = w.size; low = w.low }

pub ready-fails : (c : Run) (l : Listed) (bs : List ℕ) (n : ℕ) → IsReady l bs → IsReady (with_looks l n) (set bs (kind c) l.next)
ready-fails c l bs n w = search (rules, length-set, kind-small, nat_split, get_or-set_same, get_or-set_other)

pub paid-fails : (c : Run) (l : Listed) (bs : List ℕ) → IsReady l bs → find_opener c (get_or bs (kind c) 0) l.entries ≡ None → (kinds : ℕ) → kind c < kinds
    → spent kinds (with_looks l (looks_for c (get_or bs (kind c) 0) l.entries)) (set bs (kind c) l.next) ≤ spent kinds l bs
paid-fails c l bs w f kinds known =
    let few = take kinds bs in
    let bottom = get_or bs (kind c) 0 in
    let within : kind c < length bs = omega (arith, kind-small c, w.size) in
    let same : get_or few (kind c) 0 ≡ bottom = get_or-take kinds bs (kind c) 0 known in
    let raised = reserve-raised few (kind c) l.next l.entries (omega (arith, known, within, length-take kinds bs)) w.under in
    let seen = ap (λ b. above b l.entries) same in
    let now = ap (λ t. reserve t l.entries) (take-set-lt kinds bs (kind c) l.next known) in
    omega (arith, raised, seen, now, none-looks c bottom l.entries f)

pub record Fails (fs : List Event) (before : List Item) (c : Run) (l new : Listed) (bs : List ℕ) : Type 0 where
  pub waits : WaitAsOpeners fs before new (set bs (kind c) l.next)
  pub nearest : nearest_opener c before [] ≡ None
  pub paid : (kinds : ℕ) → kind c < kinds → spent kinds new (set bs (kind c) l.next) ≤ spent kinds l bs

pub waits-fails : (fs : List Event) (before : List Item) (c : Run) (l : Listed) (bs : List ℕ) → WaitAsOpeners fs before l bs → IsMarked c → c.closes ≡ true → find_opener c (get_or bs (kind c) 0) l.entries ≡ None
    → Fails fs before c l (with_looks l (looks_for c (get_or bs (kind c) 0) l.entries)) bs
waits-fails fs before c l bs w m h f =
    let none = find-none c (get_or bs (kind c) 0) l.entries w.falling (w.sound c m h) f in
    let ready = ready-fails c l bs (looks_for c (get_or bs (kind c) 0) l.entries) (waits-ready w) in
    record {
      waits = record { stacked = w.stacked; falling = w.falling; under = w.under; size = ready.size; low = ready.low; sound = sound-raise bs c l.next l.entries (omega (arith, kind-small c, w.size)) m h none w.sound };
      nearest = none-nearest c l.entries fs before w.stacked none;
      paid = paid-fails c l bs (waits-ready w) f;
    }

-- entries after others
pub falling-beyond : (xs ys : List Entry) → Falling (xs ++ ys) → Falling ys
falling-beyond [] ys f = f
falling-beyond (x ∷ xs) ys f = falling-beyond xs ys f.1

pub below-beyond : (n : ℕ) (xs ys : List Entry) → Below n (xs ++ ys) → Below n ys
below-beyond n [] ys b = b
below-beyond n (x ∷ xs) ys b = below-beyond n xs ys b.1

-- what is left of an entry in its place
answers-taken : (c : Run) (n : ℕ) (e : Entry) → answers c (record e { run = taken n e.run }) ≡ answers c e
unfolding delimiters_match
answers-taken c n e = refl

same_reserve : (bs : List ℕ) (e : Entry) (es : List Entry) (n : ℕ) → reserve bs (record e { run = taken n e.run } ∷ es) ≡ reserve bs (e ∷ es)
unfolding reserve
same_reserve bs e es n = refl

pub record Remains (n kinds : ℕ) (bs : List ℕ) (e : Entry) (es now : List Entry) : Type 0 where
  pub falling : Falling now
  pub under : (m : ℕ) → Below m (e ∷ es) → Below m now
  pub sound : AreSound bs (e ∷ es) → AreSound bs now
  pub paid : reserve (take kinds bs) now + characters now + 1 ≤ reserve (take kinds bs) (e ∷ es) + characters (e ∷ es)

rest-fits : (n kinds : ℕ) (bs : List ℕ) (e : Entry) (es : List Entry) → 1 ≤ n → Falling (e ∷ es) → Remains n kinds bs e es (rest_of n e ++ es)
rest-fits n kinds bs e es some f = go (nat_le e.run.left n) refl
  where
    cut : Entry
    cut = record e { run = taken n e.run }

    same : reserve (take kinds bs) (cut ∷ es) ≡ reserve (take kinds bs) (e ∷ es)
    same = same_reserve (take kinds bs) e es n

    go : (b : Bool) → nat_le e.run.left n ≡ b → Remains n kinds bs e es (cond b [] (cut ∷ []) ++ es)
    go true h = record {
      falling = f.1;
      under = λ m b. b.1;
      sound = sound-below bs (e ∷ []) es;
      paid = omega (arith, reserve-remove (take kinds bs) [] (e ∷ []) es, sum_by-cons (λ (x : Entry). x.run.left) e es);
    }
    go false h = record {
      falling = f;
      under = λ m b. b;
      sound = λ s c m k. (λ p. answers-taken c n e ∙ (s c m k).0 p, (s c m k).1);
      paid = (let more : n < e.run.left = leb-false e.run.left n h in omega (arith, same, sum_by-cons (λ (x : Entry). x.run.left) e es, sum_by-cons (λ (x : Entry). x.run.left) cut es, more, some));
    }

abbrev pub after_pair : Run → Entry → ℕ → List Entry → Listed → Listed
after_pair c e looks below l = record { entries = rest_of (used e.run c) e ++ below; looks = l.looks + looks; next = l.next }

pub remains : (kinds : ℕ) (c : Run) (e : Entry) (l : Listed) (bs : List ℕ) → IsReady l bs → (g : FoundBy c (get_or bs (kind c) 0) l.entries e) → Remains (used e.run c) kinds bs e g.below (rest_of (used e.run c) e ++ g.below)
remains kinds c e l bs w g = rest-fits (used e.run c) kinds bs e g.below (used-some e.run c) (falling-beyond g.passed (e ∷ g.below) (subst Falling g.whole w.falling))

pub ready-pairs : (c : Run) (e : Entry) (l : Listed) (bs : List ℕ) (looks : ℕ) → IsReady l bs → (g : FoundBy c (get_or bs (kind c) 0) l.entries e) → IsReady (after_pair c e looks g.below l) bs
ready-pairs c e l bs looks w g =
    let r = remains 0 c e l bs w g in
    record { falling = r.falling; under = r.under l.next (below-beyond l.next g.passed (e ∷ g.below) (subst (Below l.next) g.whole w.under)); size = w.size; low = w.low }

pub paid-pairs : (c : Run) (e : Entry) (l : Listed) (bs : List ℕ) → IsReady l bs → (g : FoundBy c (get_or bs (kind c) 0) l.entries e) → (kinds : ℕ)
    → spent kinds (after_pair c e (looks_for c (get_or bs (kind c) 0) l.entries) g.below l) bs ≤ spent kinds l bs
paid-pairs c e l bs w g kinds = omega (
  arith,
  (remains kinds c e l bs w g).paid,
  g.looks,
  ap (reserve (take kinds bs)) g.whole,
  ap characters g.whole,
  reserve-remove (take kinds bs) [] g.passed (e ∷ g.below),
  sum_by-append (λ (x : Entry). x.run.left) g.passed (e ∷ g.below),
)

-- the pair of a closer with the entry that its search finds
pub record Pairs (fs : List Event) (before : List Item) (c : Run) (e : Entry) (l new : Listed) (bs : List ℕ) : Type 0 where
  pub below : List Entry
  pub entries : new.entries ≡ rest_of (used e.run c) e ++ below
  pub found : Found c e below fs before
  pub waits : WaitAsOpeners (pair_events c e below fs before found) (reverse (up_to_pair (opened_at e.run found.low (reverse found.inside)) c)) new bs
  pub nearest : nearest_opener c before [] ≡ Some (opened_at e.run found.low (reverse found.inside))
  pub paid : (kinds : ℕ) → spent kinds new bs ≤ spent kinds l bs
  pub made : l.looks + 1 ≤ new.looks

pub waits-pairs : (fs : List Event) (before : List Item) (c : Run) (e : Entry) (l : Listed) (bs : List ℕ) → WaitAsOpeners fs before l bs → (g : FoundBy c (get_or bs (kind c) 0) l.entries e)
    → Pairs fs before c e l (after_pair c e (looks_for c (get_or bs (kind c) 0) l.entries) g.below l) bs
waits-pairs fs before c e l bs w g =
    let found = stacked-found c g.passed e g.below fs before (subst (λ es. Stacked es fs before) g.whole w.stacked) g.none in
    let ready = ready-pairs c e l bs (looks_for c (get_or bs (kind c) 0) l.entries) (waits-ready w) g in
    record {
      below = g.below;
      entries = refl;
      found = found;
      waits = record {
        stacked = subst (Stacked (rest_of (used e.run c) e ++ g.below) (pair_events c e g.below fs before found)) (sym (pair-items c e.run found.low found.inside)) (pair-stacked c e g.below fs before found);
        falling = ready.falling;
        under = ready.under;
        size = w.size;
        low = w.low;
        sound = (remains 0 c e l bs (waits-ready w) g).sound (sound-below bs g.passed (e ∷ g.below) (subst (AreSound bs) g.whole w.sound));
      };
      nearest = found-nearest c e g.below fs before found g.opens;
      paid = paid-pairs c e l bs (waits-ready w) g;
      made = omega (arith, g.looks);
    }

-- a run that was passed: it waits, stays as it is, or is gone
abbrev pub passed_by : Listed → List Entry → Listed
passed_by l entries = record { entries = entries; looks = l.looks; next = l.next + 1 }

pub waits-opener : (fs : List Event) (before : List Item) (e : Entry) (l : Listed) (bs : List ℕ) → WaitAsOpeners fs before l bs → e.run.opens ≡ true → e.place ≡ l.next
    → WaitAsOpeners (fs ++ Rest e.place e.run ∷ []) (Delimiters e.run ∷ before) (passed_by l (e ∷ l.entries)) bs × ((kinds : ℕ) → spent kinds (passed_by l (e ∷ l.entries)) bs ≤ spent kinds l bs + (kinds + 1 + e.run.left))
waits-opener fs before e l bs w h at = (
  record {
    stacked = stacked-push e l.entries fs before w.stacked h;
    falling = (subst (λ n. Below n l.entries) (sym at) w.under, w.falling);
    under = (omega (arith, at), below-more l.next (l.next + 1) l.entries (omega arith) w.under);
    size = w.size;
    low = λ k. (let q : get_or bs k 0 ≤ l.next = w.low k in omega (arith, q));
    sound = sound-push bs e l.entries (λ k. (let q : get_or bs k 0 ≤ l.next = w.low k in omega (arith, q, at))) w.sound;
  },
  λ kinds. omega (arith, sum_by-cons (λ (x : Entry). x.run.left) e l.entries, reserve-push (take kinds bs) l.entries e, length-take kinds bs),
)

pub waits-others : (fs gs : List Event) (before more : List Item) (l : Listed) (bs : List ℕ) → WaitAsOpeners fs before l bs → StandFor gs (reverse more) → NoneOpens more → WaitAsOpeners (fs ++ gs) (more ++ before) l bs
waits-others fs gs before more l bs w g n = search (rules, stacked-more)

waits-next : (fs : List Event) (before : List Item) (l : Listed) (bs : List ℕ) → WaitAsOpeners fs before l bs → WaitAsOpeners fs before (passed_by l l.entries) bs
waits-next fs before l bs w = search (rules, below-more)

pub waits-text : (fs : List Event) (before : List Item) (number : ℕ) (r : Run) (l : Listed) (bs : List ℕ) → WaitAsOpeners fs before l bs → r.opens ≡ false
    → WaitAsOpeners (fs ++ Rest number r ∷ []) (Delimiters r ∷ before) (passed_by l l.entries) bs
unfolding NoneOpens
waits-text fs before number r l bs w h = waits-next (fs ++ Rest number r ∷ []) (Delimiters r ∷ before) l bs (waits-others fs (Rest number r ∷ []) before (Delimiters r ∷ []) l bs w (reads-rest number r) (h, tt))

pub waits-gone : (fs : List Event) (before : List Item) (number : ℕ) (r : Run) (l : Listed) (bs : List ℕ) → WaitAsOpeners fs before l bs → r.left ≡ zero → WaitAsOpeners (fs ++ Rest number r ∷ []) before (passed_by l l.entries) bs
unfolding NoneOpens
waits-gone fs before number r l bs w h = waits-next (fs ++ Rest number r ∷ []) before l bs (waits-others fs (Rest number r ∷ []) before [] l bs w (reads-empty number r h) tt)
