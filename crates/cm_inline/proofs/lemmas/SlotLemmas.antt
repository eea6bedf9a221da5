-- The entries that the links of the slots make, and what a write to the slots makes of them.
use Rattle.cm_inline.proofs.lemmas.Words.{◌≡◌, ◌≢◌, ◌⊎◌, inl, inr, ℕ, zero, suc, ◌-◌, ◌<◌, ◌≤◌, ◌^◌, true, false, Bool, cond, ◌==◌, nat_lt, List, [], ◌∷◌, ◌++◌, length}
use Rattle.cm_inline.proofs.lemmas.Words.{length-append, get_or, set, refl, sym, ap, subst, ◌∙◌, arith, length-set, cond-true, cond-false, get_or-set_same, get_or-set_other, get_or_read}
use Rattle.cm_inline.proofs.lemmas.Words.{eq-eqb, ne_eqb, eqb-true, eqb-false, ltb-true, ltb-false, Run}
use Rattle.std.proofs.lemmas.Bool.{lt-ltb, le-ltb}
use Rattle.cm_inline.specs.declared.runs.Slot.{Slot}
use Rattle.cm_inline.specs.declared.runs.Run.{Run as HeldRun}
use Rattle.cm_inline.specs.steps.Runs.{entry_of, run_of}
use Rattle.cm_inline.specs.steps.pairing.States.{closed_at, left_at, no_run, run_at, with_left}
use Rattle.cm_inline.specs.steps.Entries.{Entry, Below, Falling, last_entry, before_last, leaving}
use Rattle.cm_inline.specs.steps.Slots.{slot_at, entry_at, chain, upto, first_up, IsAt, no_slot, held_in, Linked, AreLinked, removed, rewritten, with_after, with_before}

-- the chain of a link, and the entries that are linked from it on

chain-at : (n : ℕ) (slots : List Slot) → chain (suc n) slots (suc n) ≡ entry_at slots n ∷ chain n slots (slot_at slots n).before
unfolding chain
chain-at n slots = cond-true (suc n == suc n) (entry_at slots n ∷ chain n slots (slot_at slots n).before) (chain n slots (suc n)) (eq-eqb (suc n) (suc n) refl)

chain-past : (n : ℕ) (slots : List Slot) (up : ℕ) → up ≤ n → chain (suc n) slots up ≡ chain n slots up
unfolding chain
chain-past n slots up h = cond-false (up == suc n) (entry_at slots n ∷ chain n slots (slot_at slots n).before) (chain n slots up) (ne_eqb up (suc n) (λ e. absurd (omega (arith, e, h))))

linked-chain : (n : ℕ) (slots : List Slot) (next up : ℕ) (es : List Entry) → Linked slots next up es → up ≤ n → chain n slots up ≡ es
unfolding chain
linked-chain zero slots next up [] l h = refl
linked-chain zero slots next up (e ∷ es) l h = absurd (omega (arith, l.0, h))
linked-chain (suc n) slots next up [] l h = chain-past n slots up (omega (arith, l)) ∙ linked-chain n slots next up [] l (omega (arith, l))
linked-chain (suc n) slots next up (e ∷ es) l h = go (up == suc n) refl (λ k. linked-chain n slots (suc e.place) (slot_at slots e.place).before es l.4 k) (λ k. linked-chain n slots next up (e ∷ es) l k)
  where
    b : ℕ
    b = (slot_at slots e.place).before

    go : (q : Bool) → (up == suc n) ≡ q → (b ≤ n → chain n slots b ≡ es) → (up ≤ n → chain n slots up ≡ e ∷ es) → chain (suc n) slots up ≡ e ∷ es
    go true q rest other =
        let top = eqb-true up (suc n) q in
        let at : e.place ≡ n = omega (arith, l.0, top) in
        ap (chain (suc n) slots) top ∙ chain-at n slots ∙ ap (λ k. entry_at slots k ∷ chain n slots (slot_at slots k).before) (sym at)
        ∙ ap (λ t. t ∷ chain n slots b) (sym l.1) ∙ ap (λ t. e ∷ t) (rest (omega (arith, l.3, at)))
    go false q rest other =
        let not_top : up ≢ suc n = eqb-false up (suc n) q in
        chain-past n slots up (omega (arith, h, not_top)) ∙ other (omega (arith, h, not_top))

-- the entries of the slots, from the last on
abbrev pub listed : List Slot → ℕ → List Entry
listed slots last = chain (length slots) slots last

abbrev pub IsList : List Slot → (last : ℕ) → List Entry → Type 0
IsList slots last es = AreLinked slots last × (listed slots last ≡ es)

linked-list : (slots : List Slot) (last : ℕ) (es : List Entry) → Linked slots 0 last es → last ≤ length slots → length slots < 2 ^ 32 → IsList slots last es
linked-list slots last es l h few =
    let is = linked-chain (length slots) slots 0 last es l h in
    (record { linked = subst (Linked slots 0 last) (sym is) l; within = h; few = few }, is)

-- numbers fall
linked-below : (n : ℕ) (slots : List Slot) (next up : ℕ) (es : List Entry) → Linked slots next up es → up ≤ n → Below n es
linked-below n slots next up [] l h = tt
linked-below n slots next up (e ∷ es) l h = (omega (arith, l.0, h), linked-below n slots (suc e.place) (slot_at slots e.place).before es l.4 (omega (arith, l.0, l.3, h)))

pub linked-first : (slots : List Slot) (next up : ℕ) (es : List Entry) → Linked slots next up es → first_up es ≡ up
linked-first slots next up [] l = sym l
linked-first slots next up (e ∷ es) l = sym l.0

first-under : (n : ℕ) (es : List Entry) → Below n es → first_up es ≤ n
first-under n [] h = omega arith
first-under n (e ∷ es) h = omega (arith, h.0)

-- entries below a number

upto-more : (up : ℕ) (e : Entry) (es : List Entry) → up ≤ e.place → upto up (e ∷ es) ≡ upto up es
unfolding upto
upto-more up e es h = cond-false (nat_lt e.place up) (e ∷ es) (upto up es) (le-ltb e.place up h)

upto-whole : (up : ℕ) (e : Entry) (es : List Entry) → e.place < up → upto up (e ∷ es) ≡ e ∷ es
unfolding upto
upto-whole up e es h = cond-true (nat_lt e.place up) (e ∷ es) (upto up es) (lt-ltb e.place up h)

upto-below : (up : ℕ) (es : List Entry) → Below up es → upto up es ≡ es
unfolding upto
upto-below up [] h = refl
upto-below up (e ∷ es) h = upto-whole up e es h.0

upto-upto : (low up : ℕ) (es : List Entry) → low ≤ up → upto low (upto up es) ≡ upto low es
unfolding upto
upto-upto low up [] h = refl
upto-upto low up (e ∷ es) h = go (nat_lt e.place up) refl (upto-upto low up es h)
  where
    go : (b : Bool) → nat_lt e.place up ≡ b → upto low (upto up es) ≡ upto low es → upto low (upto up (e ∷ es)) ≡ upto low (e ∷ es)
    go true l ih = ap (upto low) (cond-true (nat_lt e.place up) (e ∷ es) (upto up es) l)
    go false l ih =
        ap (upto low) (cond-false (nat_lt e.place up) (e ∷ es) (upto up es) l) ∙ ih
        ∙ sym (upto-more low e es (omega (arith, h, ltb-false e.place up l)))

pub first-low : (k : ℕ) (es : List Entry) → first_up (upto k es) ≤ k
unfolding upto
first-low k [] = omega arith
first-low k (e ∷ es) = go (nat_lt e.place k) refl (first-low k es)
  where
    go : (b : Bool) → nat_lt e.place k ≡ b → first_up (upto k es) ≤ k → first_up (upto k (e ∷ es)) ≤ k
    go true l ih = omega (arith, ap first_up (cond-true (nat_lt e.place k) (e ∷ es) (upto k es) l), ltb-true e.place k l)
    go false l ih = omega (arith, ap first_up (cond-false (nat_lt e.place k) (e ∷ es) (upto k es) l), ih)

-- a link to the first of the entries below a number
pub at-first : (k : ℕ) (es : List Entry) → IsAt (first_up (upto k es)) es
unfolding upto
at-first k [] = refl
at-first k (e ∷ es) = go (nat_lt e.place k) refl (at-first k es)
  where
    go : (b : Bool) → nat_lt e.place k ≡ b → IsAt (first_up (upto k es)) es → IsAt (first_up (upto k (e ∷ es))) (e ∷ es)
    go true l ih =
        let is : first_up (upto k (e ∷ es)) ≡ suc e.place = ap first_up (cond-true (nat_lt e.place k) (e ∷ es) (upto k es) l) in
        is ∙ sym (ap (λ u. first_up (upto u (e ∷ es))) is ∙ ap first_up (upto-whole (suc e.place) e es (omega arith)))
    go false l ih =
        let u = first_up (upto k es) in
        let is : first_up (upto k (e ∷ es)) ≡ u = ap first_up (cond-false (nat_lt e.place k) (e ∷ es) (upto k es) l) in
        is ∙ ih ∙ sym (ap (λ u. first_up (upto u (e ∷ es))) is ∙ ap first_up (upto-more u e es (omega (arith, first-low k es, ltb-false e.place k l))))

pub upto-first : (k : ℕ) (es : List Entry) → upto (first_up (upto k es)) es ≡ upto k es
unfolding upto
upto-first k [] = refl
upto-first k (e ∷ es) = go (nat_lt e.place k) refl (upto-first k es)
  where
    go : (b : Bool) → nat_lt e.place k ≡ b → upto (first_up (upto k es)) es ≡ upto k es → upto (first_up (upto k (e ∷ es))) (e ∷ es) ≡ upto k (e ∷ es)
    go true l ih =
        let is : upto k (e ∷ es) ≡ e ∷ es = cond-true (nat_lt e.place k) (e ∷ es) (upto k es) l in
        ap (λ t. upto (first_up t) (e ∷ es)) is ∙ upto-whole (suc e.place) e es (omega arith) ∙ sym is
    go false l ih =
        let is : upto k (e ∷ es) ≡ upto k es = cond-false (nat_lt e.place k) (e ∷ es) (upto k es) l in
        ap (λ t. upto (first_up t) (e ∷ es)) is ∙ upto-more (first_up (upto k es)) e es (omega (arith, first-low k es, ltb-false e.place k l)) ∙ ih ∙ sym is

-- the last of the entries
pub at-last : (n : ℕ) (es : List Entry) → first_up es ≡ suc n → IsAt (suc n) es
unfolding upto
at-last n [] h = absurd (omega (arith, h))
at-last n (e ∷ es) h = sym (ap first_up (upto-whole (suc n) e es (omega (arith, h))) ∙ h)

-- those before it are those below its number
pub before-is : (n : ℕ) (es : List Entry) → first_up es ≡ suc n → Below n (before_last es) → upto n es ≡ before_last es
unfolding upto
before-is n [] h b = refl
before-is n (e ∷ es) h b = upto-more n e es (omega (arith, h)) ∙ upto-below n es b

-- entries from one in the middle on

pub record From (slots : List Slot) (up : ℕ) (es : List Entry) : Type 0 where
  pub next : ℕ
  pub linked : Linked slots next up (upto up es)

linked-from : (slots : List Slot) (next up k : ℕ) (es : List Entry) → Linked slots next up es → IsAt k es → From slots k es
unfolding upto
linked-from slots next up k [] l at = record { next = 0; linked = at }
linked-from slots next up k (e ∷ es) l at = go (nat_lt e.place k) refl (λ a. linked-from slots (suc e.place) (slot_at slots e.place).before k es l.4 a)
  where
    go : (b : Bool) → nat_lt e.place k ≡ b → (IsAt k es → From slots k es) → From slots k (e ∷ es)
    go true q ih =
        let is = upto-whole k e es (ltb-true e.place k q) in
        let top : up ≡ k = l.0 ∙ sym (at ∙ ap first_up is) in
        record { next = next; linked = subst (λ t. Linked slots next k t) (sym is) (subst (λ u. Linked slots next u (e ∷ es)) top l) }
    go false q ih =
        let is = upto-more k e es (ltb-false e.place k q) in
        let f = ih (at ∙ ap first_up is) in
        record { next = f.next; linked = subst (λ t. Linked slots f.next k t) (sym is) f.linked }

-- an entry, and those before it
pub record ReadAt (slots : List Slot) (number : ℕ) (es : List Entry) : Type 0 where
  pub whole : upto (suc number) es ≡ entry_at slots number ∷ upto number es
  pub before : (slot_at slots number).before ≡ first_up (upto number es)
  pub down : (slot_at slots number).before ≤ number
  pub linked : Linked slots (suc number) (slot_at slots number).before (upto number es)

pub read-at : (slots : List Slot) (next up number : ℕ) (es : List Entry) → Linked slots next up es → IsAt (suc number) es → ReadAt slots number es
read-at slots next up number es l at = go (upto (suc number) es) refl (linked-from slots next up (suc number) es l at)
  where
    go : (t : List Entry) → upto (suc number) es ≡ t → From slots (suc number) es → ReadAt slots number es
    go [] is f = absurd (omega (arith, at, ap first_up is))
    go (e ∷ below) is f =
        let r : Linked slots f.next (suc number) (e ∷ below) = subst (Linked slots f.next (suc number)) is f.linked in
        let same : e.place ≡ number = omega (arith, r.0) in
        let b = (slot_at slots e.place).before in
        let low : upto number es ≡ below =
        sym (upto-upto number (suc number) es (omega arith)) ∙ ap (upto number) is ∙ upto-more number e below (omega (arith, same))
        ∙ upto-below number below (linked-below number slots (suc e.place) b below r.4 (omega (arith, r.3, same))) in
        let tail : Linked slots (suc number) (slot_at slots number).before below = subst (λ k. Linked slots (suc k) (slot_at slots k).before below) same r.4 in
        record {
          whole = is ∙ ap (λ t. t ∷ below) (r.1 ∙ ap (entry_at slots) same) ∙ ap (λ t. entry_at slots number ∷ t) (sym low);
          before = sym (linked-first slots (suc number) (slot_at slots number).before below tail) ∙ ap first_up (sym low);
          down = subst (λ k. (slot_at slots k).before ≤ k) same r.3;
          linked = subst (Linked slots (suc number) (slot_at slots number).before) (sym low) tail;
        }

-- an entry has a slot
has-slot : (n number : ℕ) (es : List Entry) → Below n es → IsAt (suc number) es → number < n
unfolding upto
has-slot n number [] b at = absurd (omega (arith, at))
has-slot n number (e ∷ es) b at = go (nat_lt e.place (suc number)) refl (λ a. has-slot n number es b.1 a)
  where
    go : (q : Bool) → nat_lt e.place (suc number) ≡ q → (IsAt (suc number) es → number < n) → number < n
    go true q ih = omega (arith, b.0, at ∙ ap first_up (upto-whole (suc number) e es (ltb-true e.place (suc number) q)))
    go false q ih = ih (at ∙ ap first_up (upto-more (suc number) e es (ltb-false e.place (suc number) q)))

pub list-slot : (slots : List Slot) (last number : ℕ) → AreLinked slots last → IsAt (suc number) (listed slots last) → number < length slots
list-slot slots last number l at = has-slot (length slots) number (listed slots last) (linked-below (length slots) slots 0 last (listed slots last) l.linked l.within) at

-- writes that leave the slots of entries as they are

linked-frame : (n : ℕ) (slots new : List Slot) (next up : ℕ) (es : List Entry) → ((k : ℕ) → k < n → slot_at new k ≡ slot_at slots k) → Below n es → Linked slots next up es → Linked new next up es
linked-frame n slots new next up [] same b l = l
linked-frame n slots new next up (e ∷ es) same b l =
    let is : slot_at new e.place ≡ slot_at slots e.place = same e.place b.0 in (
      l.0,
      l.1 ∙ ap (λ (s : Slot). entry_of e.place s.run) (sym is),
      ap (λ (s : Slot). s.after) is ∙ l.2,
      omega (arith, ap (λ (s : Slot). s.before) is, l.3),
      subst (λ (s : Slot). Linked new (suc e.place) s.before es) (sym is) (linked-frame n slots new (suc e.place) (slot_at slots e.place).before es same b.1 l.4),
    )

set-others : (slots : List Slot) (place : ℕ) (x : Slot) (n : ℕ) → n ≤ place → (k : ℕ) → k < n → slot_at (set slots place x) k ≡ slot_at slots k
set-others slots place x n h k p = get_or-set_other slots place k x no_slot (λ e. absurd (omega (arith, e, h, p)))

after-others : (slots : List Slot) (link after k : ℕ) → link ≢ suc k → slot_at (with_after link after slots) k ≡ slot_at slots k
after-others slots zero after k h = refl
after-others slots (suc n) after k h = get_or-set_other slots n k (record { run = (slot_at slots n).run; before = (slot_at slots n).before; after = after }) no_slot (λ e. h (ap suc (sym e)))

before-others : (slots : List Slot) (link before k : ℕ) → link ≢ suc k → slot_at (with_before link before slots) k ≡ slot_at slots k
before-others slots zero before k h = refl
before-others slots (suc n) before k h = get_or-set_other slots n k (record { run = (slot_at slots n).run; before = before; after = (slot_at slots n).after }) no_slot (λ e. h (ap suc (sym e)))

pub after-length : (slots : List Slot) (link after : ℕ) → length (with_after link after slots) ≡ length slots
after-length slots zero after = refl
after-length slots (suc n) after = length-set slots n (record { run = (slot_at slots n).run; before = (slot_at slots n).before; after = after })

before-length : (slots : List Slot) (link before : ℕ) → length (with_before link before slots) ≡ length slots
before-length slots zero before = refl
before-length slots (suc n) before = length-set slots n (record { run = (slot_at slots n).run; before = before; after = (slot_at slots n).after })

-- another entry follows the first
linked-after : (slots : List Slot) (next up after : ℕ) (es : List Entry) → Linked slots next up es → up ≤ length slots → Linked (with_after up after slots) after up es
linked-after slots next up after [] l h = l
linked-after slots next up after (e ∷ es) l h = subst (λ u. Linked (with_after u after slots) after u (e ∷ es)) (sym l.0) (refl, same, ap (λ (s : Slot). s.after) is, omega (arith, ap (λ (s : Slot). s.before) is, l.3), rest)
  where
    n : ℕ
    n = e.place

    x : Slot
    x = record { run = (slot_at slots n).run; before = (slot_at slots n).before; after = after }

    new : List Slot
    new = set slots n x

    is : slot_at new n ≡ x
    is = get_or-set_same slots n x no_slot (omega (arith, l.0, h))

    same : e ≡ entry_at new n
    same = l.1 ∙ ap (λ (s : Slot). entry_of n s.run) (sym is)

    rest : Linked new (suc n) (slot_at new n).before es
    rest = subst (λ (s : Slot). Linked new (suc n) s.before es) (sym is)
        (linked-frame n slots new (suc n) (slot_at slots n).before es (set-others slots n x n (omega arith)) (linked-below n slots (suc n) (slot_at slots n).before es l.4 l.3) l.4)

-- a run becomes the last entry
abbrev pub entered : (last number : ℕ) → List Slot → List Slot
entered last number slots = with_after last (suc number) (set slots number (record { run = (slot_at slots number).run; before = last; after = 0 }))

linked-enter : (slots : List Slot) (next last number : ℕ) (es : List Entry) → Linked slots next last es → last ≤ number → number < length slots → Linked (entered last number slots) 0 (suc number) (entry_at slots number ∷ es)
linked-enter slots next last number es l low there =
    let x : Slot = record { run = (slot_at slots number).run; before = last; after = 0 } in
    let one = set slots number x in
    let two = with_after last (suc number) one in
    let at : slot_at two number ≡ x = after-others one last (suc number) number (λ e. absurd (omega (arith, e, low))) ∙ get_or-set_same slots number x no_slot there in
    let below = linked-below number slots next last es l low in
    let was : Linked one next last es = linked-frame number slots one next last es (set-others slots number x number (omega arith)) below l in
    let now : Linked two (suc number) last es = linked-after one next last (suc number) es was (omega (arith, low, there, length-set slots number x)) in (
      refl,
      ap (λ (s : Slot). entry_of number s.run) (sym at),
      ap (λ (s : Slot). s.after) at,
      omega (arith, ap (λ (s : Slot). s.before) at, low),
      subst (λ (s : Slot). Linked two (suc number) s.before es) (sym at) now,
    )

-- the entries between one and the last are taken out
abbrev pub joined : (number last : ℕ) → List Slot → List Slot
joined number last slots = with_before (suc last) (suc number) (with_after (suc number) (suc last) slots)

linked-between : (slots : List Slot) (up number last : ℕ) (e : Entry) (es : List Entry) → Linked slots 0 up (e ∷ es) → e.place ≡ last → number < last → IsAt (suc number) (e ∷ es) → last < length slots
    → Linked (joined number last slots) 0 (suc last) (e ∷ upto (suc number) (e ∷ es))
linked-between slots up number last e es l is early at there =
    let f = linked-from slots 0 up (suc number) (e ∷ es) l at in
    let rest = upto (suc number) (e ∷ es) in
    let one = with_after (suc number) (suc last) slots in
    let two = with_before (suc last) (suc number) one in
    let other : slot_at one last ≡ slot_at slots last = after-others slots (suc number) (suc last) last (λ q. absurd (omega (arith, q, early))) in
    let x : Slot = record { run = (slot_at one last).run; before = suc number; after = (slot_at one last).after } in
    let here : slot_at two last ≡ x = get_or-set_same one last x no_slot (omega (arith, there, after-length slots (suc number) (suc last))) in
    let low = linked-below last slots f.next (suc number) rest f.linked (omega (arith, early)) in
    let was : Linked one (suc last) (suc number) rest = linked-after slots f.next (suc number) (suc last) rest f.linked (omega (arith, early, there)) in
    let now : Linked two (suc last) (suc number) rest = linked-frame last one two (suc last) (suc number) rest (λ k p. before-others one (suc last) (suc number) k (λ q. absurd (omega (arith, q, p)))) low was in
    let end : (slot_at slots last).after ≡ 0 = subst (λ k. (slot_at slots k).after ≡ 0) is l.2 in (
      ap suc (sym is),
      l.1 ∙ ap (entry_at slots) is ∙ ap (λ (s : Slot). entry_of last s.run) (sym other) ∙ ap (λ (s : Slot). entry_of last s.run) (sym here) ∙ ap (entry_at two) (sym is),
      subst (λ k. (slot_at two k).after ≡ 0) (sym is) (ap (λ (s : Slot). s.after) here ∙ ap (λ (s : Slot). s.after) other ∙ end),
      subst (λ k. (slot_at two k).before ≤ k) (sym is) (omega (arith, ap (λ (s : Slot). s.before) here, early)),
      subst (λ k. Linked two (suc k) (slot_at two k).before rest) (sym is) (subst (λ (s : Slot). Linked two (suc last) s.before rest) (sym here) now),
    )

-- an entry is taken out

abbrev pub unlinked : ℕ → List Slot → List Slot
unlinked number slots =
    let s = slot_at slots number in
    with_before s.after s.before (with_after s.before s.after slots)

removed-here : (number : ℕ) (e : Entry) (es : List Entry) → e.place ≡ number → removed number (e ∷ es) ≡ es
unfolding removed
removed-here number e es h = cond-true (e.place == number) es (e ∷ removed number es) (eq-eqb e.place number h)

removed-later : (number : ℕ) (e : Entry) (es : List Entry) → e.place ≢ number → removed number (e ∷ es) ≡ e ∷ removed number es
unfolding removed
removed-later number e es h = cond-false (e.place == number) es (e ∷ removed number es) (ne_eqb e.place number h)

-- an entry is below those that come later
at-later : (number : ℕ) (e : Entry) (es : List Entry) → e.place ≢ number → IsAt (suc number) (e ∷ es) → (number < e.place) × IsAt (suc number) es
unfolding upto
at-later number e es other at = go (nat_lt e.place (suc number)) refl
  where
    go : (q : Bool) → nat_lt e.place (suc number) ≡ q → (number < e.place) × IsAt (suc number) es
    go true q = absurd (other (omega (arith, at ∙ ap first_up (upto-whole (suc number) e es (ltb-true e.place (suc number) q)))))
    go false q = (omega (arith, ltb-false e.place (suc number) q), at ∙ ap first_up (upto-more (suc number) e es (ltb-false e.place (suc number) q)))

-- what follows the entry before one that comes first
follows : (slots : List Slot) (later up number : ℕ) (es : List Entry) → Linked slots later up es → up ≡ suc number → (slot_at slots number).after ≡ later
follows slots later up number [] l h = absurd (omega (arith, l, h))
follows slots later up number (e ∷ es) l h = subst (λ k. (slot_at slots k).after ≡ later) (omega (arith, l.0, h)) l.2

-- what follows an entry that isn't the first is one of the entries
after-within : (slots : List Slot) (next up number : ℕ) (es : List Entry) → Linked slots next up es → IsAt (suc number) es → up ≢ suc number → (0 < (slot_at slots number).after) × ((slot_at slots number).after ≤ up)
unfolding upto
after-within slots next up number [] l at other = absurd (omega (arith, at))
after-within slots next up number (e ∷ es) l at other = go (b == suc number) refl (λ p. after-within slots (suc e.place) b number es l.4 later.1 p)
  where
    a : ℕ
    a = (slot_at slots number).after

    b : ℕ
    b = (slot_at slots e.place).before

    later : (number < e.place) × IsAt (suc number) es
    later = at-later number e es (λ q. other (l.0 ∙ ap suc q)) at

    go : (q : Bool) → (b == suc number) ≡ q → (b ≢ suc number → (0 < a) × (a ≤ b)) → (0 < a) × (a ≤ up)
    go true q ih = let is = follows slots (suc e.place) b number es l.4 (eqb-true b (suc number) q) in (omega (arith, is), omega (arith, is, l.0))
    go false q ih = let w = ih (eqb-false b (suc number) q) in (w.0, omega (arith, w.1, l.3, l.0))

-- the first link, where the first entry may be the one that is taken out
abbrev pub past : (number up before : ℕ) → ℕ
past number up before = cond (up == suc number) before up

-- an entry that comes later keeps its place
remove-later : (slots : List Slot) (next up number : ℕ) (e : Entry) (es : List Entry) → Linked slots next up (e ∷ es) → up ≤ length slots → number < e.place → IsAt (suc number) es
    → Linked (unlinked number slots) (suc e.place) (past number (slot_at slots e.place).before (slot_at slots number).before) (removed number es) → Linked (unlinked number slots) next up (e ∷ removed number es)
remove-later slots next up number e es l h early at tail = go (s.after == suc e.place) refl (b == suc number) refl
  where
    s : Slot
    s = slot_at slots number

    b : ℕ
    b = (slot_at slots e.place).before

    one : List Slot
    one = with_after s.before s.after slots

    new : List Slot
    new = unlinked number slots

    down : s.before ≤ number
    down = (read-at slots (suc e.place) b number es l.4 at).down

    still : slot_at one e.place ≡ slot_at slots e.place
    still = after-others slots s.before s.after e.place (λ k. absurd (omega (arith, k, down, early)))

    made : (slot_at new e.place).run ≡ (slot_at slots e.place).run → (slot_at new e.place).after ≡ (slot_at slots e.place).after → (slot_at new e.place).before ≡ past number b s.before → past number b s.before ≤ e.place
        → Linked new next up (e ∷ removed number es)
    made r a c low = (
      l.0,
      l.1 ∙ ap (entry_of e.place) (sym r),
      a ∙ l.2,
      omega (arith, c, low),
      subst (λ u. Linked new (suc e.place) u (removed number es)) (sym c) tail,
    )

    go : (q : Bool) → (s.after == suc e.place) ≡ q → (p : Bool) → (b == suc number) ≡ p → Linked new next up (e ∷ removed number es)
    go true q true p =
        let next_is : s.after ≡ suc e.place = eqb-true s.after (suc e.place) q in
        let x : Slot = record { run = (slot_at one e.place).run; before = s.before; after = (slot_at one e.place).after } in
        let is : slot_at new e.place ≡ x = subst (λ u. slot_at (with_before u s.before one) e.place ≡ x) (sym next_is) (get_or-set_same one e.place x no_slot (omega (arith, l.0, h, after-length slots s.before s.after))) in
        let v : past number b s.before ≡ s.before = cond-true (b == suc number) s.before b p in
        made (ap (λ (t : Slot). t.run) is ∙ ap (λ (t : Slot). t.run) still) (ap (λ (t : Slot). t.after) is ∙ ap (λ (t : Slot). t.after) still) (ap (λ (t : Slot). t.before) is ∙ sym v) (omega (arith, v, down, early))
    go true q false p =
        let next_is : s.after ≡ suc e.place = eqb-true s.after (suc e.place) q in
        absurd (omega (arith, next_is, (after-within slots (suc e.place) b number es l.4 at (eqb-false b (suc number) p)).1, l.3))
    go false q true p = absurd (eqb-false s.after (suc e.place) q (follows slots (suc e.place) b number es l.4 (eqb-true b (suc number) p)))
    go false q false p =
        let is : slot_at new e.place ≡ slot_at slots e.place = before-others one s.after s.before e.place (eqb-false s.after (suc e.place) q) ∙ still in
        let v : past number b s.before ≡ b = cond-false (b == suc number) s.before b p in
        made (ap (λ (t : Slot). t.run) is) (ap (λ (t : Slot). t.after) is) (ap (λ (t : Slot). t.before) is ∙ sym v) (omega (arith, v, l.3))

-- the entries below a number aren't at the next link
apart : (next up number k : ℕ) → (next ≡ 0) ⊎ (up < next) → up ≡ suc number → k < number → next ≢ suc k
apart next up number k (inl z) top h q = absurd (omega (arith, z, q))
apart next up number k (inr m) top h q = absurd (omega (arith, m, q, top, h))

linked-remove : (slots : List Slot) (next up number : ℕ) (es : List Entry) → Linked slots next up es → IsAt (suc number) es → up ≤ length slots → (next ≡ 0) ⊎ (up < next)
    → Linked (unlinked number slots) next (past number up (slot_at slots number).before) (removed number es)
unfolding upto
linked-remove slots next up number [] l at h o = absurd (omega (arith, at))
linked-remove slots next up number (e ∷ es) l at h o =
    go (e.place == number) refl (λ a. linked-remove slots (suc e.place) (slot_at slots e.place).before number es l.4 a (omega (arith, l.3, l.0, h)) (inr (omega (arith, l.3))))
  where
    s : Slot
    s = slot_at slots number

    one : List Slot
    one = with_after s.before s.after slots

    new : List Slot
    new = unlinked number slots

    go : (q : Bool) → (e.place == number) ≡ q → (IsAt (suc number) es → Linked new (suc e.place) (past number (slot_at slots e.place).before s.before) (removed number es))
        → Linked new next (past number up s.before) (removed number (e ∷ es))
    go true q ih =
        let is = eqb-true e.place number q in
        let top : up ≡ suc number = l.0 ∙ ap suc is in
        let b : s.before ≤ number = subst (λ k. (slot_at slots k).before ≤ k) is l.3 in
        let a : s.after ≡ next = subst (λ k. (slot_at slots k).after ≡ next) is l.2 in
        let rest : Linked slots (suc number) s.before es = subst (λ k. Linked slots (suc k) (slot_at slots k).before es) is l.4 in
        let was : Linked one s.after s.before es = linked-after slots (suc number) s.before s.after es rest (omega (arith, b, top, h)) in
        let now : Linked new s.after s.before es = linked-frame number one new s.after s.before es (λ k p. before-others one s.after s.before k (λ m. apart next up number k o top p (sym a ∙ m))) (linked-below number slots (suc number) s.before es rest b) was in
        subst (λ t. Linked new next (past number up s.before) t) (sym (removed-here number e es is))
        (subst (λ u. Linked new next u es) (sym (cond-true (up == suc number) s.before up (eq-eqb up (suc number) top))) (subst (λ n. Linked new n s.before es) a now))
    go false q ih =
        let other : e.place ≢ number = eqb-false e.place number q in
        let later = at-later number e es other at in
        subst (λ t. Linked new next (past number up s.before) t) (sym (removed-later number e es other))
        (subst (λ u. Linked new next u (e ∷ removed number es)) (sym (cond-false (up == suc number) s.before up (ne_eqb up (suc number) (λ k. other (omega (arith, k, l.0))))))
        (remove-later slots next up number e es l h later.0 later.1 (ih later.1)))

-- a run is written down anew

abbrev pub with_run : ℕ → HeldRun → List Slot → List Slot
with_run number run slots = set slots number (record { run = run; before = (slot_at slots number).before; after = (slot_at slots number).after })

linked-rewrite : (slots : List Slot) (next up number : ℕ) (run : HeldRun) (es : List Entry) → Linked slots next up es → number < length slots → Linked (with_run number run slots) next up (rewritten number run es)
unfolding rewritten
linked-rewrite slots next up number run [] l h = l
linked-rewrite slots next up number run (e ∷ es) l h = go (e.place == number) refl (linked-rewrite slots (suc e.place) (slot_at slots e.place).before number run es l.4 h)
  where
    s : Slot
    s = slot_at slots number

    x : Slot
    x = record { run = run; before = s.before; after = s.after }

    new : List Slot
    new = with_run number run slots

    here : slot_at new number ≡ x
    here = get_or-set_same slots number x no_slot h

    rest : List Entry
    rest = rewritten number run es

    go : (q : Bool) → (e.place == number) ≡ q → Linked new (suc e.place) (slot_at slots e.place).before rest → Linked new next up (cond (e.place == number) (entry_of number run) e ∷ rest)
    go true q ih =
        let is = eqb-true e.place number q in
        let tail : Linked new (suc number) s.before rest = subst (λ k. Linked new (suc k) (slot_at slots k).before rest) is ih in
        subst (λ y. Linked new next up (y ∷ rest)) (sym (cond-true (e.place == number) (entry_of number run) e q)) (
          l.0 ∙ ap suc is,
          ap (λ (t : Slot). entry_of number t.run) (sym here),
          ap (λ (t : Slot). t.after) here ∙ subst (λ k. (slot_at slots k).after ≡ next) is l.2,
          omega (arith, ap (λ (t : Slot). t.before) here, subst (λ k. (slot_at slots k).before ≤ k) is l.3),
          subst (λ (t : Slot). Linked new (suc number) t.before rest) (sym here) tail,
        )
    go false q ih =
        let other = eqb-false e.place number q in
        let is : slot_at new e.place ≡ slot_at slots e.place = get_or-set_other slots number e.place x no_slot other in
        subst (λ y. Linked new next up (y ∷ rest)) (sym (cond-false (e.place == number) (entry_of number run) e q)) (
          l.0,
          l.1 ∙ ap (λ (t : Slot). entry_of e.place t.run) (sym is),
          ap (λ (t : Slot). t.after) is ∙ l.2,
          omega (arith, ap (λ (t : Slot). t.before) is, l.3),
          subst (λ (t : Slot). Linked new (suc e.place) t.before rest) (sym is) ih,
        )

-- one more slot

slot-front : (slots : List Slot) (x : Slot) (k : ℕ) → k < length slots → slot_at (slots ++ x ∷ []) k ≡ slot_at slots k
slot-front [] x k h = absurd (omega (arith, h))
slot-front (s ∷ slots) x zero h = refl
slot-front (s ∷ slots) x (suc k) h = slot-front slots x k (omega (arith, h))

-- what each call makes of the list

pub list-empty : (slots : List Slot) → length slots < 2 ^ 32 → IsList slots 0 []
list-empty slots few = linked-list slots 0 [] refl (omega arith) few

pub list-push : (slots : List Slot) (last : ℕ) (x : Slot) → AreLinked slots last → length slots < 2 ^ 32 - 1 → IsList (slots ++ x ∷ []) last (listed slots last)
list-push slots last x l short =
    let new = slots ++ x ∷ [] in
    let es = listed slots last in
    let long = length-append slots (x ∷ []) in
    linked-list new last es (linked-frame (length slots) slots new 0 last es (slot-front slots x) (linked-below (length slots) slots 0 last es l.linked l.within) l.linked) (omega (arith, long, l.within)) (omega (arith, long, short))

pub list-enter : (slots : List Slot) (last number : ℕ) → AreLinked slots last → number < length slots → Below number (listed slots last) → IsList (entered last number slots) (suc number) (entry_at slots number ∷ listed slots last)
list-enter slots last number l there under =
    let es = listed slots last in
    let x : Slot = record { run = (slot_at slots number).run; before = last; after = 0 } in
    let long = after-length (set slots number x) last (suc number) ∙ length-set slots number x in
    linked-list (entered last number slots) (suc number) (entry_at slots number ∷ es) (linked-enter slots 0 last number es l.linked (omega (arith, first-under number es under, linked-first slots 0 last es l.linked)) there)
    (omega (arith, long, there)) (omega (arith, long, l.few))

pub list-between : (slots : List Slot) (up number last : ℕ) → AreLinked slots up → first_up (listed slots up) ≡ suc last → number < last → IsAt (suc number) (listed slots up)
    → IsList (joined number last slots) up (last_entry (listed slots up) ++ upto (suc number) (listed slots up))
list-between slots up number last l top early at = go (listed slots up) refl
  where
    is : up ≡ suc last
    is = sym (linked-first slots 0 up (listed slots up) l.linked) ∙ top

    long : length (joined number last slots) ≡ length slots
    long = before-length (with_after (suc number) (suc last) slots) (suc last) (suc number) ∙ after-length slots (suc number) (suc last)

    go : (es : List Entry) → listed slots up ≡ es → IsList (joined number last slots) up (last_entry es ++ upto (suc number) es)
    go [] e = absurd (omega (arith, top, ap first_up e))
    go (x ∷ es) e =
        let m = linked-between slots up number last x es (subst (Linked slots 0 up) e l.linked) (omega (arith, top, ap first_up e)) early (subst (IsAt (suc number)) e at) (omega (arith, is, l.within)) in
        linked-list (joined number last slots) up (x ∷ upto (suc number) (x ∷ es)) (subst (λ u. Linked (joined number last slots) 0 u (x ∷ upto (suc number) (x ∷ es))) (sym is) m) (omega (arith, long, l.within)) (omega (arith, long, l.few))

-- what follows an entry that is taken out, where it is the last, and where it isn't
pub last-after : (slots : List Slot) (last number : ℕ) → AreLinked slots last → IsAt (suc number) (listed slots last) → (slot_at slots number).after ≡ 0 → past number last (slot_at slots number).before ≡ (slot_at slots number).before
last-after slots last number l at h = go (last == suc number) refl
  where
    go : (q : Bool) → (last == suc number) ≡ q → past number last (slot_at slots number).before ≡ (slot_at slots number).before
    go true q = cond-true (last == suc number) (slot_at slots number).before last q
    go false q = absurd (omega (arith, h, (after-within slots 0 last number (listed slots last) l.linked at (eqb-false last (suc number) q)).0))

pub last-stays : (slots : List Slot) (last number later : ℕ) → AreLinked slots last → (slot_at slots number).after ≡ suc later → past number last (slot_at slots number).before ≡ last
last-stays slots last number later l h = go (last == suc number) refl
  where
    go : (q : Bool) → (last == suc number) ≡ q → past number last (slot_at slots number).before ≡ last
    go true q = absurd (omega (arith, h, follows slots 0 last number (listed slots last) l.linked (eqb-true last (suc number) q)))
    go false q = cond-false (last == suc number) (slot_at slots number).before last q

past-within : (slots : List Slot) (last number before : ℕ) → last ≤ length slots → before ≤ length slots → past number last before ≤ length slots
past-within slots last number before h b = go (last == suc number) refl
  where
    go : (q : Bool) → (last == suc number) ≡ q → past number last before ≤ length slots
    go true q = omega (arith, cond-true (last == suc number) before last q, b)
    go false q = omega (arith, cond-false (last == suc number) before last q, h)

-- the neighbours of an entry have slots, or there are none
pub near-within : (slots : List Slot) (last number : ℕ) → AreLinked slots last → IsAt (suc number) (listed slots last) → ((slot_at slots number).before ≤ length slots) × ((slot_at slots number).after ≤ length slots)
near-within slots last number l at = (omega (arith, (read-at slots 0 last number (listed slots last) l.linked at).down, list-slot slots last number l at), go (last == suc number) refl)
  where
    go : (q : Bool) → (last == suc number) ≡ q → (slot_at slots number).after ≤ length slots
    go true q = omega (arith, follows slots 0 last number (listed slots last) l.linked (eqb-true last (suc number) q))
    go false q = omega (arith, (after-within slots 0 last number (listed slots last) l.linked at (eqb-false last (suc number) q)).1, l.within)

pub list-remove : (slots : List Slot) (last number : ℕ) → AreLinked slots last → IsAt (suc number) (listed slots last) → IsList (unlinked number slots) (past number last (slot_at slots number).before) (removed number (listed slots last))
list-remove slots last number l at =
    let s = slot_at slots number in
    let long = before-length (with_after s.before s.after slots) s.after s.before ∙ after-length slots s.before s.after in
    linked-list (unlinked number slots) (past number last s.before) (removed number (listed slots last)) (linked-remove slots 0 last number (listed slots last) l.linked at l.within (inl refl))
    (omega (arith, long, past-within slots last number s.before l.within (near-within slots last number l at).0)) (omega (arith, long, l.few))

pub list-rewrite : (slots : List Slot) (last number : ℕ) (run : HeldRun) → AreLinked slots last → number < length slots → IsList (with_run number run slots) last (rewritten number run (listed slots last))
list-rewrite slots last number run l there =
    let s = slot_at slots number in
    let long = length-set slots number (record { run = run; before = s.before; after = s.after }) in
    linked-list (with_run number run slots) last (rewritten number run (listed slots last)) (linked-rewrite slots 0 last number run (listed slots last) l.linked there) (omega (arith, long, l.within)) (omega (arith, long, l.few))

-- a slot that was read, and is written to
set-read : (slots : List Slot) (n number : ℕ) (s : Slot) (f : Slot → Slot) → n ≡ number → number < length slots → s ≡ get_or slots n s → set slots n (f s) ≡ set slots number (f (slot_at slots number))
set-read slots n number s f same there read =
    ap (λ k. set slots k (f s)) same ∙ ap (λ t. set slots number (f t)) (get_or_read slots number s there (read ∙ ap (λ k. get_or slots k s) same) no_slot)

pub entered-is : (slots now : List Slot) (last n number link none : ℕ) (s : Slot) → now ≡ with_after last link (set slots n (record { run = s.run; before = last; after = none })) → n ≡ number → link ≡ suc number → none ≡ 0 → number < length slots
    → s ≡ get_or slots n s → now ≡ entered last number slots
entered-is slots now last n number link none s is same up without there read =
    is ∙ ap (λ h. with_after last h (set slots n (record { run = s.run; before = last; after = none }))) up
    ∙ ap (λ z. with_after last (suc number) (set slots n (record { run = s.run; before = last; after = z }))) without
    ∙ ap (with_after last (suc number)) (set-read slots n number s (λ t. record { run = t.run; before = last; after = 0 }) same there read)

pub joined-is : (slots : List Slot) (n number a m last b : ℕ) (s t : Slot) → n ≡ number → m ≡ last → a ≡ suc last → b ≡ suc number → number < length slots → last < length slots → s ≡ get_or slots n s
    → t ≡ get_or (set slots n (record { run = s.run; before = s.before; after = a })) m t
    → set (set slots n (record { run = s.run; before = s.before; after = a })) m (record { run = t.run; before = b; after = t.after }) ≡ joined number last slots
joined-is slots n number a m last b s t same other up down there later read again =
    let x : Slot = record { run = s.run; before = s.before; after = a } in
    let one = ap (λ u. set slots n (record { run = s.run; before = s.before; after = u })) up ∙ set-read slots n number s (λ y. record { run = y.run; before = y.before; after = suc last }) same there read in
    set-read (set slots n x) m last t (λ y. record { run = y.run; before = b; after = y.after }) other (omega (arith, later, length-set slots n x)) again
    ∙ ap (λ u. with_before (suc last) u (set slots n x)) down ∙ ap (with_before (suc last) (suc number)) one

pub unlinked-some : (slots now : List Slot) (number n later : ℕ) (s t : Slot) → s ≡ slot_at slots number → now ≡ with_after s.before s.after slots → n ≡ later → s.after ≡ suc later → later < length now → t ≡ get_or now n t
    → set now n (record { run = t.run; before = s.before; after = t.after }) ≡ unlinked number slots
unlinked-some slots now number n later s t is one same up there read =
    set-read now n later t (λ y. record { run = y.run; before = s.before; after = y.after }) same there read ∙ ap (with_before (suc later) s.before) one
    ∙ ap (λ a. with_before a s.before (with_after s.before s.after slots)) (sym up) ∙ ap (λ (x : Slot). with_before x.after x.before (with_after x.before x.after slots)) is

pub unlinked-none : (slots now : List Slot) (number : ℕ) (s : Slot) → s ≡ slot_at slots number → now ≡ with_after s.before s.after slots → s.after ≡ 0 → now ≡ unlinked number slots
unlinked-none slots now number s is one without =
    one ∙ ap (λ a. with_before a s.before (with_after s.before s.after slots)) (sym without) ∙ ap (λ (x : Slot). with_before x.after x.before (with_after x.before x.after slots)) is

-- the runs

pub run-held : (slots : List Slot) (number : ℕ) → run_at (held_in slots) number ≡ (slot_at slots number).run
run-held [] number = refl
run-held (s ∷ slots) zero = refl
run-held (s ∷ slots) (suc number) = run-held slots number

pub held-length : (slots : List Slot) → length (held_in slots) ≡ length slots
held-length [] = refl
held-length (s ∷ slots) = ap suc (held-length slots)

held-set : (slots : List Slot) (number : ℕ) (x : Slot) → held_in (set slots number x) ≡ set (held_in slots) number x.run
held-set [] number x = refl
held-set (s ∷ slots) zero x = refl
held-set (s ∷ slots) (suc number) x = ap (λ t. s.run ∷ t) (held-set slots number x)

held-same : (slots : List Slot) (number : ℕ) (x : Slot) → x.run ≡ (slot_at slots number).run → held_in (set slots number x) ≡ held_in slots
held-same [] number x r = refl
held-same (s ∷ slots) zero x r = ap (λ y. y ∷ held_in slots) r
held-same (s ∷ slots) (suc number) x r = ap (λ t. s.run ∷ t) (held-same slots number x r)

held-after : (slots : List Slot) (link after : ℕ) → held_in (with_after link after slots) ≡ held_in slots
held-after slots zero after = refl
held-after slots (suc n) after = held-same slots n (record { run = (slot_at slots n).run; before = (slot_at slots n).before; after = after }) refl

held-before : (slots : List Slot) (link before : ℕ) → held_in (with_before link before slots) ≡ held_in slots
held-before slots zero before = refl
held-before slots (suc n) before = held-same slots n (record { run = (slot_at slots n).run; before = before; after = (slot_at slots n).after }) refl

pub held-unlinked : (slots : List Slot) (number : ℕ) → held_in (unlinked number slots) ≡ held_in slots
held-unlinked slots number =
    let s = slot_at slots number in
    held-before (with_after s.before s.after slots) s.after s.before ∙ held-after slots s.before s.after

pub held-joined : (slots : List Slot) (number last : ℕ) → held_in (joined number last slots) ≡ held_in slots
held-joined slots number last = held-before (with_after (suc number) (suc last) slots) (suc last) (suc number) ∙ held-after slots (suc number) (suc last)

-- the two writes that take out what is between an entry and the last one
pub between-out : (slots new : List Slot) (up number last : ℕ) (es : List Entry) → AreLinked slots up → listed slots up ≡ es → first_up es ≡ suc last → number < last → IsAt (suc number) es
    → (n a m b : ℕ) (s t : Slot) → n ≡ number → m ≡ last → a ≡ suc last → b ≡ suc number → s ≡ get_or slots n s → t ≡ get_or (set slots n (record { run = s.run; before = s.before; after = a })) m t
    → set (set slots n (record { run = s.run; before = s.before; after = a })) m (record { run = t.run; before = b; after = t.after }) ≡ new
    → IsList new up (last_entry es ++ upto (suc number) es) × (held_in new ≡ held_in slots)
between-out slots new up number last es linked entries top early there n a m b s t same other high low read again made =
    let at = subst (IsAt (suc number)) (sym entries) there in
    let first = ap first_up entries ∙ top in
    let later : last < length slots = omega (arith, first, linked-first slots 0 up (listed slots up) linked.linked, linked.within) in
    let is : new ≡ joined number last slots = sym made ∙ joined-is slots n number a m last b s t same other high low (list-slot slots up number linked at) later read again in
    let list = list-between slots up number last linked first early at in (
      (subst (λ (x : List Slot). AreLinked x up) (sym is) list.0, ap (λ (x : List Slot). listed x up) is ∙ list.1 ∙ ap (λ (x : List Entry). last_entry x ++ upto (suc number) x) entries),
      ap held_in is ∙ held-joined slots number last,
    )

pub held-entered : (slots : List Slot) (last number : ℕ) → held_in (entered last number slots) ≡ held_in slots
held-entered slots last number =
    let x : Slot = record { run = (slot_at slots number).run; before = last; after = 0 } in
    held-after (set slots number x) last (suc number) ∙ held-same slots number x refl

-- some characters are left of a run

abbrev pub with_left_at : (number left opened : ℕ) → List Slot → List Slot
with_left_at number left opened slots = with_run number (left_at left opened (slot_at slots number).run) slots

pub left-is : (slots : List Slot) (n number left opened : ℕ) (s : Slot) → n ≡ number → number < length slots → s ≡ get_or slots n s → set slots n (record { run = left_at left opened s.run; before = s.before; after = s.after }) ≡ with_left_at number left opened slots
left-is slots n number left opened s same there read = set-read slots n number s (λ t. record { run = left_at left opened t.run; before = t.before; after = t.after }) same there read

abbrev pub with_closed_at : (number left from to : ℕ) → List Slot → List Slot
with_closed_at number left from to slots = with_run number (closed_at left from to (slot_at slots number).run) slots

pub closed-is : (slots : List Slot) (n number left from to : ℕ) (s : Slot) → n ≡ number → number < length slots → s ≡ get_or slots n s → set slots n (record { run = closed_at left from to s.run; before = s.before; after = s.after }) ≡ with_closed_at number left from to slots
closed-is slots n number left from to s same there read = set-read slots n number s (λ t. record { run = closed_at left from to t.run; before = t.before; after = t.after }) same there read

-- the runs where a run is written to
pub held-run : (slots : List Slot) (number : ℕ) (f : HeldRun → HeldRun) → held_in (with_run number (f (slot_at slots number).run) slots) ≡ set (held_in slots) number (f (run_at (held_in slots) number))
held-run slots number f =
    let s = slot_at slots number in
    held-set slots number (record { run = f s.run; before = s.before; after = s.after }) ∙ ap (λ r. set (held_in slots) number (f r)) (sym (run-held slots number))

pub run-written : (slots : List Slot) (number : ℕ) (run : HeldRun) → number < length slots → run_at (held_in (with_run number run slots)) number ≡ run
run-written slots number run there =
    let s = slot_at slots number in
    run-held (with_run number run slots) number ∙ ap (λ (t : Slot). t.run) (get_or-set_same slots number (record { run = run; before = s.before; after = s.after }) no_slot there)

-- the entry before the last is written to, and taken out if nothing is left of it

rewritten-below : (n : ℕ) (q : HeldRun) (es : List Entry) → Below n es → rewritten n q es ≡ es
unfolding rewritten
rewritten-below n q [] b = refl
rewritten-below n q (e ∷ es) b =
    ap (λ y. y ∷ rewritten n q es) (cond-false (e.place == n) (entry_of n q) e (ne_eqb e.place n (λ h. absurd (omega (arith, h, b.0))))) ∙ ap (λ l. e ∷ l) (rewritten-below n q es b.1)

rewritten-here : (n : ℕ) (q : HeldRun) (e : Entry) (es : List Entry) → e.place ≡ n → Below n es → rewritten n q (e ∷ es) ≡ entry_of n q ∷ es
unfolding rewritten
rewritten-here n q e es h b = ap (λ y. y ∷ rewritten n q es) (cond-true (e.place == n) (entry_of n q) e (eq-eqb e.place n h)) ∙ ap (λ l. entry_of n q ∷ l) (rewritten-below n q es b)

rewritten-later : (n : ℕ) (q : HeldRun) (e : Entry) (es : List Entry) → e.place ≢ n → rewritten n q (e ∷ es) ≡ e ∷ rewritten n q es
unfolding rewritten
rewritten-later n q e es h = ap (λ y. y ∷ rewritten n q es) (cond-false (e.place == n) (entry_of n q) e (ne_eqb e.place n h))

-- the last entry
pub last-removed : (n : ℕ) (es : List Entry) → first_up es ≡ suc n → removed n es ≡ before_last es
last-removed n [] h = absurd (omega (arith, h))
last-removed n (e ∷ es) h = removed-here n e es (omega (arith, h))

pub last-rewritten : (n : ℕ) (q : HeldRun) (es : List Entry) → first_up es ≡ suc n → Below n (before_last es) → rewritten n q es ≡ entry_of n q ∷ before_last es
last-rewritten n q [] h b = absurd (omega (arith, h))
last-rewritten n q (e ∷ es) h b = rewritten-here n q e es (omega (arith, h)) b

-- the one before it
record Second (n : ℕ) (r q : HeldRun) (es : List Entry) : Type 0 where
  pub below : List Entry
  pub before : before_last es ≡ entry_of n r ∷ below
  pub now : rewritten n q es ≡ last_entry es ++ entry_of n q ∷ below
  pub at : IsAt (suc n) (rewritten n q es)
  pub gone : removed n (rewritten n q es) ≡ last_entry es ++ below

second : (n : ℕ) (r q : HeldRun) (es : List Entry) → last_entry (before_last es) ≡ entry_of n r ∷ [] → Falling es → Second n r q es
second n r q [] h f = absurd (omega (arith, ap length h))
second n r q (x ∷ []) h f = absurd (omega (arith, ap length h))
second n r q (x ∷ e ∷ es) h f =
    let is : e ≡ entry_of n r = ap (λ l. get_or l 0 e) h in
    let place : e.place ≡ n = ap (λ (y : Entry). y.place) is in
    let under : Below n es = subst (λ k. Below k es) place f.1.0 in
    let other : x.place ≢ n = λ k. absurd (omega (arith, k, place, f.0.0)) in
    let now = rewritten-later n q x (e ∷ es) other ∙ ap (λ l. x ∷ l) (rewritten-here n q e es place under) in
    record {
      below = es;
      before = ap (λ y. y ∷ es) is;
      now = now;
      at = subst (IsAt (suc n)) (sym now) (sym (ap first_up (upto-more (suc n) x (entry_of n q ∷ es) (omega (arith, place, f.0.0)) ∙ upto-whole (suc n) (entry_of n q) es (omega arith))));
      gone = ap (removed n) now ∙ removed-later n x (entry_of n q ∷ es) other ∙ ap (λ l. x ∷ l) (removed-here n (entry_of n q) es refl);
    }

pub second-at : (n : ℕ) (r q : HeldRun) (es : List Entry) → last_entry (before_last es) ≡ entry_of n r ∷ [] → Falling es → IsAt (suc n) (rewritten n q es)
second-at n r q es h f = (second n r q es h f).at

pub second-gone : (n left : ℕ) (r q : HeldRun) (es : List Entry) → last_entry (before_last es) ≡ entry_of n r ∷ [] → Falling es → left ≡ 0 → removed n (rewritten n q es) ≡ last_entry es ++ leaving left (before_last es)
second-gone n left r q es h f none =
    let s = second n r q es h f in
    s.gone ∙ ap (λ l. last_entry es ++ l) (sym (ap (λ l. l ++ s.below) (cond-true (left == 0) [] (record (entry_of n r) { run = record (run_of r.run) { left = left } } ∷ []) (eq-eqb left 0 none))))
    ∙ ap (λ l. last_entry es ++ leaving left l) (sym s.before)

pub second-left : (n left : ℕ) (r q : HeldRun) (es : List Entry) → last_entry (before_last es) ≡ entry_of n r ∷ [] → Falling es → left ≢ 0 → run_of q.run ≡ record (run_of r.run) { left = left } → rewritten n q es ≡ last_entry es ++ leaving left (before_last es)
second-left n left r q es h f some is =
    let s = second n r q es h f in
    s.now ∙ ap (λ (x : Run). last_entry es ++ record { place = n; run = x } ∷ s.below) is
    ∙ ap (λ l. last_entry es ++ l) (sym (ap (λ l. l ++ s.below) (cond-false (left == 0) [] (record (entry_of n r) { run = record (run_of r.run) { left = left } } ∷ []) (ne_eqb left 0 some))))
    ∙ ap (λ l. last_entry es ++ leaving left l) (sym s.before)

-- a run that has characters left
pub left-read : (n left opened : ℕ) (r : HeldRun) (runs now : List HeldRun) → n < length runs → r ≡ run_at runs n → now ≡ with_left n left opened runs → run_of (run_at now n).run ≡ record (run_of r.run) { left = left }
left-read n left opened r runs now h read is =
    ap (λ rs. run_of (run_at rs n).run) is ∙ ap (λ (x : HeldRun). run_of x.run) (get_or-set_same runs n (left_at left opened (run_at runs n)) no_run h) ∙ ap (λ (x : HeldRun). record (run_of x.run) { left = left }) (sym read)
