-- Closers of one kind match the same openers, and the search for an opener passes over items of which none is one.
use Rattle.cm_inline.proofs.lemmas.Words.{◌≡◌, inl, inr, ℕ, ◌+◌, ◌<◌, Bool, true, false, cond, ◌&&◌, ◌==◌, List, [], ◌∷◌, ◌++◌, reverse, Some, None, refl, sym, ap}
use Rattle.cm_inline.proofs.lemmas.Words.{◌∙◌, arith, append-nil, Run, delimiters_match, Item, Characters, Finished, Linked, Delimiters, Opener, nearest_opener}
use Rattle.cm_inline.proofs.lemmas.Words.{opened_at, rules, nat_tests, not, ◌||◌}
use Rattle.std.proofs.Common.{◌%◌}
use Rattle.std.specs.Prelude.{⊤}
use Rattle.cm_scan.proofs.lemmas.inlines.PairingLemmas.{reverse-first, nearest-found, nearest-passes}
use Rattle.cm_inline.specs.Closers.{kinds_of_one, kinds_without_tildes, all_kinds}
use Rattle.cm_inline.specs.steps.Searching.{kind, IsMarked}
use Rattle.cm_scan.specs.inlines.Delimiters.{is_multiple_of_3}

-- closers of stars or underscores with these in common
record IsAlike (c d : Run) : Type 0 where
  character : c.character ≡ d.character
  opens : c.opens ≡ d.opens
  closes : c.closes ≡ d.closes
  rest : c.whole % 3 ≡ d.whole % 3

alike-match : (c d o : Run) → IsAlike c d → delimiters_match c o ≡ delimiters_match d o
unfolding delimiters_match
alike-match c d o k = search rules

-- a closer of tildes matches each opener of tildes
tildes-match : (c o : Run) → c.character ≡ 126 → delimiters_match c o ≡ (126 == o.character && true)
unfolding delimiters_match
tildes-match c o e =
    ap (λ x. x == o.character && (x == 126 || not (c.opens && c.closes || o.opens && o.closes) || not (is_multiple_of_3 (c.whole + o.whole)) || (is_multiple_of_3 c.whole && is_multiple_of_3 o.whole))) e

-- the number of a kind, by its parts
abbrev number : (tilde underscore opens : Bool) → ℕ → ℕ
number tilde underscore opens rest = cond tilde kinds_without_tildes (cond underscore kinds_of_one 0 + cond opens 3 0 + rest)

apart : (u o v p : Bool) (w x : ℕ) → w < 3 → x < 3 → number false u o w ≡ number false v p x → (u ≡ v) × (o ≡ p) × (w ≡ x)
apart u o v p w x g h e = grind (arith, nat_tests)

number-small : (u o : Bool) (w : ℕ) → w < 3 → number false u o w < kinds_without_tildes
number-small u o w h = grind (arith, nat_tests)

number-of : (c : Run) (n : ℕ) → c.character ≡ n → kind c ≡ number (n == 126) (n == 95) c.opens (c.whole % 3)
unfolding kind
number-of c n e = ap (λ n. number (n == 126) (n == 95) c.opens (c.whole % 3)) e

pub kind-small : (c : Run) → kind c < all_kinds
unfolding kind
kind-small c = search rules

-- but for tildes
pub kind-untilded : (c : Run) → (c.character == 126) ≡ false → kind c < kinds_without_tildes
unfolding kind
kind-untilded c e = let small = number-small (c.character == 95) c.opens (c.whole % 3) (omega arith) in omega (arith, small, ap (λ b. number b (c.character == 95) c.opens (c.whole % 3)) e)

-- closers of one kind match the same openers
pub kind-match : (c d o : Run) → IsMarked c → IsMarked d → c.closes ≡ true → d.closes ≡ true → kind c ≡ kind d → delimiters_match c o ≡ delimiters_match d o
kind-match c d o (inr (inr p)) (inr (inr q)) h k e = tildes-match c o p ∙ sym (tildes-match d o q)
kind-match c d o (inr (inr p)) (inl q) h k e = absurd (mixed c d (sym (number-of c 126 p)) 42 refl q e)
  where
    mixed : (c d : Run) → kinds_without_tildes ≡ kind c → (n : ℕ) → (n == 126) ≡ false → d.character ≡ n → kind c ≡ kind d → ⊥
    mixed c d t n f q e = omega (arith, t, e, number-of d n q, ap (λ b. number b (n == 95) d.opens (d.whole % 3)) f, number-small (n == 95) d.opens (d.whole % 3) (omega arith))
kind-match c d o (inr (inr p)) (inr (inl q)) h k e = absurd (omega (arith, number-of c 126 p, e, number-of d 95 q, number-small true d.opens (d.whole % 3) (omega arith)))
kind-match c d o (inl p) (inr (inr q)) h k e = absurd (omega (arith, number-of d 126 q, e, number-of c 42 p, number-small false c.opens (c.whole % 3) (omega arith)))
kind-match c d o (inr (inl p)) (inr (inr q)) h k e = absurd (omega (arith, number-of d 126 q, e, number-of c 95 p, number-small true c.opens (c.whole % 3) (omega arith)))
kind-match c d o (inl p) (inl q) h k e = let r = apart false c.opens false d.opens (c.whole % 3) (d.whole % 3) (omega arith) (omega arith) (sym (number-of c 42 p) ∙ e ∙ number-of d 42 q) in
    alike-match c d o (record { character = p ∙ sym q; opens = r.1; closes = h ∙ sym k; rest = r.2 })
kind-match c d o (inr (inl p)) (inr (inl q)) h k e = let r = apart true c.opens true d.opens (c.whole % 3) (d.whole % 3) (omega arith) (omega arith) (sym (number-of c 95 p) ∙ e ∙ number-of d 95 q) in
    alike-match c d o (record { character = p ∙ sym q; opens = r.1; closes = h ∙ sym k; rest = r.2 })
kind-match c d o (inl p) (inr (inl q)) h k e = absurd (cc (apart false c.opens true d.opens (c.whole % 3) (d.whole % 3) (omega arith) (omega arith) (sym (number-of c 42 p) ∙ e ∙ number-of d 95 q)).0)
kind-match c d o (inr (inl p)) (inl q) h k e = absurd (cc (apart true c.opens false d.opens (c.whole % 3) (d.whole % 3) (omega arith) (omega arith) (sym (number-of c 95 p) ∙ e ∙ number-of d 42 q)).0)

-- the item is an opener for the closer
abbrev pub opens_for : Run → Item → Bool
opens_for closer (Delimiters run) = run.opens && delimiters_match closer run
opens_for closer _ = false

-- no item is an opener for the closer
unfoldable pub NoOpener : Run → List Item → Type 0
NoOpener c [] = ⊤
NoOpener c (item ∷ items) = (opens_for c item ≡ false) × NoOpener c items

-- the search goes past items of which none is an opener for the closer
nearest-skips : (c : Run) (xs ys inside : List Item) → NoOpener c xs → nearest_opener c (xs ++ ys) inside ≡ nearest_opener c ys (reverse xs ++ inside)
unfolding nearest_opener NoOpener
nearest-skips c [] ys inside h = refl
nearest-skips c (Characters t ∷ xs) ys inside h = nearest-skips c xs ys (Characters t ∷ inside) h.1 ∙ ap (nearest_opener c ys) (sym (reverse-first (Characters t) xs inside))
nearest-skips c (Finished i ∷ xs) ys inside h = nearest-skips c xs ys (Finished i ∷ inside) h.1 ∙ ap (nearest_opener c ys) (sym (reverse-first (Finished i) xs inside))
nearest-skips c (Linked i ∷ xs) ys inside h = nearest-skips c xs ys (Linked i ∷ inside) h.1 ∙ ap (nearest_opener c ys) (sym (reverse-first (Linked i) xs inside))
nearest-skips c (Opener b n ∷ xs) ys inside h = nearest-skips c xs ys (Opener b n ∷ inside) h.1 ∙ ap (nearest_opener c ys) (sym (reverse-first (Opener b n) xs inside))
nearest-skips c (Delimiters r ∷ xs) ys inside h = search (rules, nearest-passes, reverse-first, (nearest-skips c xs ys (Delimiters r ∷ inside) h.1))

-- so where there is none nothing is found, and the nearest is found after others
pub nearest-none : (c : Run) (xs inside : List Item) → NoOpener c xs → nearest_opener c xs inside ≡ None
unfolding nearest_opener
nearest-none c xs inside h = ap (λ l. nearest_opener c l inside) (sym (append-nil xs)) ∙ nearest-skips c xs [] inside h

pub nearest-at : (c r : Run) (xs ys : List Item) → NoOpener c xs → (r.opens && delimiters_match c r) ≡ true → nearest_opener c (xs ++ Delimiters r ∷ ys) [] ≡ Some (opened_at r ys (reverse xs))
nearest-at c r xs ys h e = nearest-skips c xs (Delimiters r ∷ ys) [] h ∙ nearest-found c r ys (reverse xs ++ []) e ∙ ap (λ l. Some (opened_at r ys l)) (append-nil (reverse xs))
