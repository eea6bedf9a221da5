-- Words, runs and gaps with more text after.
use Rattle.std.proofs.Common.{◌≡◌, ℕ, suc, ◌≤◌, Bool, true, false, ◌==◌, List, [], ◌∷◌, ◌++◌, length, Option, Some, None, cond, refl, sym, ap, ◌∙◌, arith}
use Rattle.std.proofs.lemmas.Bool.{false≢true}
use Rattle.cm_scan.specs.Words.{is_space_or_tab, is_empty, skip, front_of, after_word}
use Rattle.cm_scan.specs.spans.Tags.{after_line_ending, after_gap}
use Rattle.cm_scan.specs.inlines.Links.{Reading}
use Rattle.cm_scan.specs.spans.RawHtml.{beyond_word, from_to}

-- a reading with more text after it
abbrev pub longer : Reading → List ℕ → Reading
longer r x = record { text = r.text; rest = r.rest ++ x }

pub false-true : {A : Type 0} → false ≡ true → A
false-true e = absurd (false≢true e)

abbrev pub is-some : {A : Type 0} → Option A → Bool
is-some None = false
is-some (Some a) = true

pub none-some : {A B : Type 0} {a : A} → None ≡ Some a → B
none-some e = false-true (ap is-some e)

pub some-same : {a b : List ℕ} → Some a ≡ Some b → a ≡ b
some-same {a} e = ap (λ (o : Option (List ℕ)). elim o as (λ _. List ℕ) [ None ↦ a | Some c ↦ c ]) e

pub word-extends : (word text x rest : List ℕ) → after_word word text ≡ Some rest → after_word word (text ++ x) ≡ Some (rest ++ x)
unfolding after_word
word-extends [] text x rest e = ap (λ t. Some (t ++ x)) (some-same e)
word-extends (w ∷ ws) [] x rest e = none-some e
word-extends (w ∷ ws) (b ∷ bs) x rest e = go (b == w) e (λ h. word-extends ws bs x rest h)
  where
    go : (c : Bool) → elim c as (λ _. Option (List ℕ)) [ true ↦ after_word ws bs | false ↦ None ] ≡ Some rest → (after_word ws bs ≡ Some rest → after_word ws (bs ++ x) ≡ Some (rest ++ x))
        → elim c as (λ _. Option (List ℕ)) [ true ↦ after_word ws (bs ++ x) | false ↦ None ] ≡ Some (rest ++ x)
    go true e k = k e
    go false e k = none-some e

pub word-other : (word text x : List ℕ) → after_word word text ≡ None → length word ≤ length text → after_word word (text ++ x) ≡ None
unfolding after_word
word-other [] text x e l = none-some (sym e)
word-other (w ∷ ws) [] x e l = absurd (omega (arith, l))
word-other (w ∷ ws) (b ∷ bs) x e l = go (b == w) e (λ h. word-other ws bs x h (omega (arith, l)))
  where
    go : (c : Bool) → elim c as (λ _. Option (List ℕ)) [ true ↦ after_word ws bs | false ↦ None ] ≡ None → (after_word ws bs ≡ None → after_word ws (bs ++ x) ≡ None)
        → elim c as (λ _. Option (List ℕ)) [ true ↦ after_word ws (bs ++ x) | false ↦ None ] ≡ None
    go true e k = k e
    go false e k = refl

pub word-length : (word text rest : List ℕ) → after_word word text ≡ Some rest → length word ≤ length text
unfolding after_word
word-length [] text rest e = omega arith
word-length (w ∷ ws) [] rest e = none-some e
word-length (w ∷ ws) (b ∷ bs) rest e = go (b == w) e (λ h. word-length ws bs rest h)
  where
    go : (c : Bool) → elim c as (λ _. Option (List ℕ)) [ true ↦ after_word ws bs | false ↦ None ] ≡ Some rest → (after_word ws bs ≡ Some rest → length ws ≤ length bs)
        → suc (length ws) ≤ suc (length bs)
    go true e k = omega (arith, k e)
    go false e k = none-some e

pub past-length : (word text rest : List ℕ) → beyond_word word text ≡ Some rest → length word ≤ length text
unfolding beyond_word
past-length word [] rest e = none-some e
past-length word (b ∷ bs) rest e = go (after_word word (b ∷ bs)) refl e (λ h. past-length word bs rest h)
  where
    go : (o : Option (List ℕ)) → after_word word (b ∷ bs) ≡ o → elim o as (λ _. Option (List ℕ)) [ Some r ↦ Some r | None ↦ beyond_word word bs ] ≡ Some rest
        → (beyond_word word bs ≡ Some rest → length word ≤ length bs) → length word ≤ suc (length bs)
    go (Some r) f e k = word-length word (b ∷ bs) r f
    go None f e k = omega (arith, k e)

pub past-extends : (word text x rest : List ℕ) → beyond_word word text ≡ Some rest → beyond_word word (text ++ x) ≡ Some (rest ++ x)
unfolding beyond_word
past-extends word [] x rest e = none-some e
past-extends word (b ∷ bs) x rest e = go (after_word word (b ∷ bs)) refl e (λ h. past-extends word bs x rest h)
  where
    by : Option (List ℕ) → Option (List ℕ)
    by o = elim o as (λ _. Option (List ℕ)) [ Some r ↦ Some r | None ↦ beyond_word word (bs ++ x) ]

    go : (o : Option (List ℕ)) → after_word word (b ∷ bs) ≡ o → elim o as (λ _. Option (List ℕ)) [ Some r ↦ Some r | None ↦ beyond_word word bs ] ≡ Some rest
        → (beyond_word word bs ≡ Some rest → beyond_word word (bs ++ x) ≡ Some (rest ++ x)) → by (after_word word (b ∷ (bs ++ x))) ≡ Some (rest ++ x)
    go (Some r) f e k = ap by (word-extends word (b ∷ bs) x r f) ∙ ap (λ t. Some (t ++ x)) (some-same e)
    go None f e k = ap by (word-other word (b ∷ bs) x f (let l : length word ≤ length bs = past-length word bs rest e in omega (arith, l))) ∙ k e

pub from_to-extends : (start end text x rest : List ℕ) → from_to start end text ≡ Some rest → from_to start end (text ++ x) ≡ Some (rest ++ x)
unfolding from_to
from_to-extends start end text x rest e = go (after_word start text) refl e
  where
    by : Option (List ℕ) → Option (List ℕ)
    by o = elim o as (λ _. Option (List ℕ)) [ Some inside ↦ beyond_word end inside | None ↦ None ]

    go : (o : Option (List ℕ)) → after_word start text ≡ o → by o ≡ Some rest → from_to start end (text ++ x) ≡ Some (rest ++ x)
    go (Some inside) f e = ap by (word-extends start text x inside f) ∙ past-extends end inside x rest e
    go None f e = none-some e

-- runs

pub skip-extends : (test : ℕ → Bool) (text x : List ℕ) → is_empty (skip test text) ≡ false → skip test (text ++ x) ≡ skip test text ++ x
unfolding skip
skip-extends test [] x e = false-true (sym e)
skip-extends test (b ∷ bs) x e = go (test b) e (λ h. skip-extends test bs x h)
  where
    go : (c : Bool) → is_empty (elim c as (λ _. List ℕ) [ true ↦ skip test bs | false ↦ b ∷ bs ]) ≡ false → (is_empty (skip test bs) ≡ false → skip test (bs ++ x) ≡ skip test bs ++ x)
        → elim c as (λ _. List ℕ) [ true ↦ skip test (bs ++ x) | false ↦ b ∷ (bs ++ x) ] ≡ elim c as (λ _. List ℕ) [ true ↦ skip test bs | false ↦ b ∷ bs ] ++ x
    go true e k = k e
    go false e k = refl

pub front-extends : (test : ℕ → Bool) (text x : List ℕ) → is_empty (skip test text) ≡ false → front_of test (text ++ x) ≡ front_of test text
unfolding skip front_of
front-extends test [] x e = false-true (sym e)
front-extends test (b ∷ bs) x e = go (test b) e (λ h. front-extends test bs x h)
  where
    go : (c : Bool) → is_empty (elim c as (λ _. List ℕ) [ true ↦ skip test bs | false ↦ b ∷ bs ]) ≡ false → (is_empty (skip test bs) ≡ false → front_of test (bs ++ x) ≡ front_of test bs)
        → elim c as (λ _. List ℕ) [ true ↦ b ∷ front_of test (bs ++ x) | false ↦ [] ] ≡ elim c as (λ _. List ℕ) [ true ↦ b ∷ front_of test bs | false ↦ [] ]
    go true e k = ap (λ l. b ∷ l) (k e)
    go false e k = refl

line-extends : (text x : List ℕ) → is_empty (after_line_ending text) ≡ false → after_line_ending (text ++ x) ≡ after_line_ending text ++ x
line-extends [] x e = false-true (sym e)
line-extends (b ∷ bs) x e = go (b == 10) e
  where
    go : (c : Bool) → is_empty (cond c (skip is_space_or_tab bs) (b ∷ bs)) ≡ false
        → cond c (skip is_space_or_tab (bs ++ x)) (b ∷ (bs ++ x)) ≡ cond c (skip is_space_or_tab bs) (b ∷ bs) ++ x
    go true e = skip-extends is_space_or_tab bs x e
    go false e = refl

pub gap-extends : (text x : List ℕ) → is_empty (after_gap text) ≡ false → after_gap (text ++ x) ≡ after_gap text ++ x
unfolding after_gap
gap-extends text x e = ap after_line_ending (skip-extends is_space_or_tab text x (go (skip is_space_or_tab text) e)) ∙ line-extends (skip is_space_or_tab text) x e
  where
    go : (t : List ℕ) → is_empty (after_line_ending t) ≡ false → is_empty t ≡ false
    go [] e = e
    go (b ∷ bs) e = refl
