-- A word at the start of a text, and the first place of it.
use Rattle.std.proofs.Common.{◌≡◌, ℕ, zero, suc, ◌+◌, ◌-◌, ◌<◌, ◌≤◌, ◌==◌, ◌&&◌, ◌||◌, Bool, true, false, List, [], ◌∷◌, length, drop, get_or, Option, Some, None, is_some, refl, sym, ap, ◌∙◌, arith, eq-eqb, length-drop, drop-drop, get_or-drop}
use Rattle.std.proofs.lemmas.Bool.{eqb-true}
use Rattle.memchr.specs.Find.{OccursAt, FindsNeedle}
use Rattle.cm_scan.specs.Words.{after_word, is_at_word, holds_word, given}
use Rattle.cm_scan.specs.spans.RawHtml.{beyond_word}
use Rattle.cm_scan.proofs.lemmas.texts.WordsGoOn.{false-true}

-- what follows a word is there where the word is
pub word-is : (word text : List ℕ) → after_word word text ≡ given (is_at_word word text) (drop (length word) text)
unfolding after_word is_at_word
word-is [] text = refl
word-is (w ∷ ws) [] = refl
word-is (w ∷ ws) (b ∷ bs) = go (b == w) (word-is ws bs)
  where
    go : (c : Bool) → after_word ws bs ≡ given (is_at_word ws bs) (drop (length ws) bs)
        → elim c as (λ _. Option (List ℕ)) [ true ↦ after_word ws bs | false ↦ None ] ≡ given (c && is_at_word ws bs) (drop (length ws) bs)
    go true k = k
    go false k = refl

pub word-there : (word text : List ℕ) → is_at_word word text ≡ true → after_word word text ≡ Some (drop (length word) text)
word-there word text h = word-is word text ∙ ap (λ v. given v (drop (length word) text)) h

pub word-absent : (word text : List ℕ) → is_at_word word text ≡ false → after_word word text ≡ None
word-absent word text h = word-is word text ∙ ap (λ v. given v (drop (length word) text)) h

-- a search finds the places where the word comes next

and-true : (a b : Bool) → a ≡ true → b ≡ true → (a && b) ≡ true
and-true a b f g = ap (λ v. v && b) f ∙ g

and-parts : (a b : Bool) → (a && b) ≡ true → (a ≡ true) × (b ≡ true)
and-parts true b h = (refl, h)
and-parts false b h = false-true h

-- each byte of the word is in the text
abbrev Reads : List ℕ → List ℕ → Type 0
Reads word text = (length word ≤ length text) × ((j : ℕ) → j < length word → get_or text j 0 ≡ get_or word j 0)

reads-front : (word text : List ℕ) → Reads word text → is_at_word word text ≡ true
unfolding is_at_word
reads-front [] text h = refl
reads-front (w ∷ ws) [] h = absurd (omega (arith, h.0))
reads-front (w ∷ ws) (b ∷ bs) h = and-true (b == w) (is_at_word ws bs) (eq-eqb b w (h.1 0 (omega arith)))
    (reads-front ws bs (omega (arith, h.0), λ j within. h.1 (suc j) (omega (arith, within))))

front-reads : (word text : List ℕ) → is_at_word word text ≡ true → Reads word text
unfolding is_at_word
front-reads [] text h = (omega arith, λ j within. absurd (omega (arith, within)))
front-reads (w ∷ ws) [] h = false-true h
front-reads (w ∷ ws) (b ∷ bs) h =
    let parts = and-parts (b == w) (is_at_word ws bs) h in
    let rest = front-reads ws bs parts.1 in
    (omega (arith, rest.0), λ j within. reads (eqb-true b w parts.0) rest.1 j within)
  where
    reads : b ≡ w → ((j : ℕ) → j < length ws → get_or bs j 0 ≡ get_or ws j 0) → (j : ℕ) → j < suc (length ws) → get_or (b ∷ bs) j 0 ≡ get_or (w ∷ ws) j 0
    reads same more zero within = same
    reads same more (suc j) within = more j (omega (arith, within))

occurs-there : (word text : List ℕ) (k : ℕ) → OccursAt text word k → is_at_word word (drop k text) ≡ true
occurs-there word text k h = reads-front word (drop k text) (omega (arith, h.fits, length-drop k text), λ j within. get_or-drop k text j 0 ∙ h.reads j within)

there-occurs : (word text : List ℕ) (k : ℕ) → k ≤ length text → is_at_word word (drop k text) ≡ true → OccursAt text word k
there-occurs word text k high h =
    let reads = front-reads word (drop k text) h in
    record { fits = omega (arith, high, reads.0, length-drop k text); reads = λ j within. sym (get_or-drop k text j 0) ∙ reads.1 j within }

not-occurs : (word text : List ℕ) (k : ℕ) → k ≤ length text → (OccursAt text word k → ⊥) → is_at_word word (drop k text) ≡ false
not-occurs word text k high none = go (is_at_word word (drop k text)) refl
  where
    go : (c : Bool) → is_at_word word (drop k text) ≡ c → c ≡ false
    go true h = absurd (none (there-occurs word text k high h))
    go false h = refl

-- the word is at no place
abbrev Nowhere : List ℕ → List ℕ → Type 0
Nowhere word text = (k : ℕ) → k ≤ length text → is_at_word word (drop k text) ≡ false

finds-nowhere : (word text : List ℕ) → FindsNeedle text word 0 None → Nowhere word text
finds-nowhere word text h k high = not-occurs word text k high (h k (omega arith) (omega (arith, high)))

-- a word somewhere in a text

past-there : (word : List ℕ) (b : ℕ) (bs : List ℕ) → is_at_word word (b ∷ bs) ≡ true → beyond_word word (b ∷ bs) ≡ Some (drop (length word) (b ∷ bs))
unfolding beyond_word
past-there word b bs h = ap (λ o. elim o as (λ _. Option (List ℕ)) [ Some rest ↦ Some rest | None ↦ beyond_word word bs ]) (word-there word (b ∷ bs) h)

past-absent : (word : List ℕ) (b : ℕ) (bs : List ℕ) → is_at_word word (b ∷ bs) ≡ false → beyond_word word (b ∷ bs) ≡ beyond_word word bs
unfolding beyond_word
past-absent word b bs h = ap (λ o. elim o as (λ _. Option (List ℕ)) [ Some rest ↦ Some rest | None ↦ beyond_word word bs ]) (word-absent word (b ∷ bs) h)

past-nothing : (word text : List ℕ) → Nowhere word text → beyond_word word text ≡ None
unfolding beyond_word
past-nothing word [] none = refl
past-nothing word (b ∷ bs) none = past-absent word b bs (none 0 (omega arith)) ∙ past-nothing word bs (λ k high. none (suc k) (omega (arith, high)))

past-first : (word text : List ℕ) (k : ℕ) → 0 < length word → k ≤ length text → ((j : ℕ) → j < k → is_at_word word (drop j text) ≡ false)
    → is_at_word word (drop k text) ≡ true → beyond_word word text ≡ Some (drop (length word) (drop k text))
past-first word [] k some high none h = absurd (omega (arith, some, (front-reads word (drop k []) h).0, length-drop {A = ℕ} k []))
past-first word (b ∷ bs) zero some high none h = past-there word b bs h
past-first word (b ∷ bs) (suc k) some high none h =
    past-absent word b bs (none 0 (omega arith)) ∙ past-first word bs k some (omega (arith, high)) (λ j below. none (suc j) (omega (arith, below))) h

pub past-none : (word text : List ℕ) → FindsNeedle text word 0 None → None ≡ beyond_word word text
past-none word text h = sym (past-nothing word text (finds-nowhere word text h))

pub past-found : (word text : List ℕ) (k : ℕ) → 0 < length word → FindsNeedle text word 0 (Some k) → Some (drop (k + length word) text) ≡ beyond_word word text
past-found word text k some h =
    let high : k ≤ length text = omega (arith, h.1.fits) in
    let first = past-first word text k some high (λ j below. not-occurs word text j (omega (arith, below, high)) (h.0.before j (omega arith) below)) (occurs-there word text k h.1) in
    sym (first ∙ ap Some (drop-drop (length word) k text))

or-left : (a b : Bool) → a ≡ true → (a || b) ≡ true
or-left a b h = ap (λ v. v || b) h

or-right : (a b : Bool) → b ≡ true → (a || b) ≡ true
or-right true b h = refl
or-right false b h = h

or-neither : (a b : Bool) → a ≡ false → b ≡ false → (a || b) ≡ false
or-neither a b f g = ap (λ v. v || b) f ∙ g

or-parts : (a b : Bool) → (a || b) ≡ false → (a ≡ false) × (b ≡ false)
or-parts true b h = false-true (sym h)
or-parts false b h = (refl, h)

holds-there : (word text : List ℕ) (k : ℕ) → k ≤ length text → is_at_word word (drop k text) ≡ true → holds_word word text ≡ true
unfolding holds_word
holds-there word [] zero high h = h
holds-there word [] (suc k) high h = absurd (omega (arith, high))
holds-there word (b ∷ bs) zero high h = or-left (is_at_word word (b ∷ bs)) (holds_word word bs) h
holds-there word (b ∷ bs) (suc k) high h = or-right (is_at_word word (b ∷ bs)) (holds_word word bs) (holds-there word bs k (omega (arith, high)) h)

holds-nothing : (word text : List ℕ) → Nowhere word text → holds_word word text ≡ false
unfolding holds_word
holds-nothing word [] none = none 0 (omega arith)
holds-nothing word (b ∷ bs) none =
    or-neither (is_at_word word (b ∷ bs)) (holds_word word bs) (none 0 (omega arith)) (holds-nothing word bs (λ k high. none (suc k) (omega (arith, high))))

pub holds-found : (word text : List ℕ) (found : Option ℕ) → FindsNeedle text word 0 found → is_some found ≡ holds_word word text
holds-found word text None h = sym (holds-nothing word text (finds-nowhere word text h))
holds-found word text (Some k) h = sym (holds-there word text k (omega (arith, h.1.fits)) (occurs-there word text k h.1))

-- a word that is nowhere is nowhere further on
past-nowhere : (word text : List ℕ) → holds_word word text ≡ false → beyond_word word text ≡ None
unfolding beyond_word holds_word
past-nowhere word [] h = refl
past-nowhere word (b ∷ bs) h =
    let parts = or-parts (is_at_word word (b ∷ bs)) (holds_word word bs) h in
    past-absent word b bs parts.0 ∙ past-nowhere word bs parts.1

holds-later : (word text : List ℕ) (n : ℕ) → holds_word word text ≡ false → holds_word word (drop n text) ≡ false
unfolding holds_word
holds-later word text zero h = h
holds-later word [] (suc n) h = h
holds-later word (b ∷ bs) (suc n) h = holds-later word bs n (or-parts (is_at_word word (b ∷ bs)) (holds_word word bs) h).1

pub drop-later : (text : List ℕ) (from later : ℕ) → from ≤ later → drop later text ≡ drop (later - from) (drop from text)
drop-later text from later low = let place : later ≡ from + (later - from) = omega (arith, low) in ap (λ n. drop n text) place ∙ sym (drop-drop (later - from) from text)

pub past-later : (word text : List ℕ) (from later : ℕ) → from ≤ later → holds_word word (drop from text) ≡ false → beyond_word word (drop later text) ≡ None
past-later word text from later low h =
    ap (beyond_word word) (drop-later text from later low) ∙ past-nowhere word (drop (later - from) (drop from text)) (holds-later word (drop from text) (later - from) h)
