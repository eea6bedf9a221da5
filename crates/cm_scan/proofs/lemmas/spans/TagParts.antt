-- Parts of tags.
use Rattle.std.specs.Char.{is_ascii_alphabetic}
use Rattle.std.proofs.Common.{⊎_elim, ◌≡◌, ℕ, zero, suc, ◌+◌, ◌-◌, ◌<◌, ◌≤◌, Bool, true, false, List, [], ◌∷◌, length, take, drop, get_or, Some, None, codes, refl, sym, ap, ◌∙◌, arith, add-one}
use Rattle.std.proofs.lemmas.Bool.{cases_Bool}
use Rattle.cm_scan.specs.Words.{skip, front_of, after_word}
use Rattle.cm_scan.specs.spans.Tags.{Named, after_quoted, is_blank_next, after_gap, after_attribute, after_tag_end, after_attributes, tag_name, open_tag, closing_tag, with_rest}
use Rattle.cm_scan.specs.steps.TagNames.{continues_name}

-- quoted values

quoted-past : (q b : ℕ) (bs : List ℕ) → (b ≡ q → ⊥) → after_quoted q (b ∷ bs) ≡ after_quoted q bs
unfolding after_quoted
quoted-past q b bs other = grind (arith, other)

pub quoted_none : (q : ℕ) (bs : List ℕ) → ((k : ℕ) → k < length bs → get_or bs k 0 ≡ q → ⊥) → after_quoted q bs ≡ None
unfolding after_quoted
quoted_none q [] none = refl
quoted_none q (b ∷ bs) none = quoted-past q b bs (none 0 (omega arith)) ∙ quoted_none q bs (λ k within. none (suc k) (omega arith))

quoted-first : (q : ℕ) (bs : List ℕ) (i : ℕ) → i < length bs → get_or bs i 0 ≡ q → ((k : ℕ) → k < i → get_or bs k 0 ≡ q → ⊥)
    → after_quoted q bs ≡ Some (drop (suc i) bs)
unfolding after_quoted
quoted-first q [] i within same none = absurd (omega arith)
quoted-first q (b ∷ bs) zero within same none = grind (arith, same)
quoted-first q (b ∷ bs) (suc i) within same none = quoted-past q b bs (none 0 (omega arith)) ∙ quoted-first q bs i (omega arith) same (λ k below. none (suc k) (omega arith))

pub quoted_first : (q : ℕ) (bs : List ℕ) (i : ℕ) → i < length bs → get_or bs i 0 ≡ q → ((k : ℕ) → k < i → get_or bs k 0 ≡ q → ⊥)
    → after_quoted q bs ≡ Some (drop (i + 1) bs)
quoted_first q bs i within same none = rw add-one (quoted-first q bs i within same none)

-- one attribute more

module _ (n : ℕ) (text : List ℕ) where
  pub attributes_end : (rest : List ℕ) → after_tag_end (after_gap text) ≡ Some rest → after_attributes (suc n) text ≡ Some rest
  unfolding after_attributes
  attributes_end rest ends = grind (arith, ends)

  module _ (goes_on : after_tag_end (after_gap text) ≡ None) where
    pub attributes_stop : is_blank_next text ≡ false → after_attributes (suc n) text ≡ None
    unfolding after_attributes
    attributes_stop stuck = grind (arith, goes_on, stuck)

    module _ (blank : is_blank_next text ≡ true) where
      pub attributes_bad : after_attribute (after_gap text) ≡ None → after_attributes (suc n) text ≡ None
      unfolding after_attributes
      attributes_bad bad = grind (arith, goes_on, blank, bad)

      pub attributes_more : (rest : List ℕ) → after_attribute (after_gap text) ≡ Some rest → after_attributes (suc n) text ≡ after_attributes n rest
      unfolding after_attributes
      attributes_more rest one = grind (arith, goes_on, blank, one)

pub attributes_many : (text : List ℕ) → after_attributes 0 text ≡ None
unfolding after_attributes
attributes_many text = refl

-- names

pub skip_shorter : (test : ℕ → Bool) (bs : List ℕ) → length (skip test bs) ≤ length bs
unfolding skip
skip_shorter test [] = omega arith
skip_shorter test (b ∷ bs) = let h : length (skip test bs) ≤ length bs = skip_shorter test bs in grind (arith, h)

pub front-is : (test : ℕ → Bool) (bs : List ℕ) → front_of test bs ≡ take (length bs - length (skip test bs)) bs
unfolding front_of skip
front-is test [] = refl
front-is test (b ∷ bs) = ⊎_elim
    (λ (e : test b ≡ true).
    let h : front_of test bs ≡ take (length bs - length (skip test bs)) bs = front-is test bs in
    let n : suc (length bs) - length (skip test bs) ≡ suc (length bs - length (skip test bs)) = omega (arith, skip_shorter test bs) in
    grind (arith, e, h, n))
    (λ (e : test b ≡ false). grind (arith, e))
    (cases_Bool (test b))

pub name_found : (b : ℕ) (bs : List ℕ) → is_ascii_alphabetic b ≡ true
    → tag_name (b ∷ bs) ≡ Some (record { name = take (suc (length bs) - length (skip continues_name bs)) (b ∷ bs); rest = skip continues_name bs })
unfolding tag_name
name_found b bs letter =
    let h : front_of continues_name bs ≡ take (length bs - length (skip continues_name bs)) bs = front-is continues_name bs in
    let n : suc (length bs) - length (skip continues_name bs) ≡ suc (length bs - length (skip continues_name bs)) = omega (arith, skip_shorter continues_name bs) in
    let name : b ∷ front_of continues_name bs ≡ take (suc (length bs) - length (skip continues_name bs)) (b ∷ bs) =
    ap (λ x. b ∷ x) h ∙ ap (λ k. take k (b ∷ bs)) (sym n) in
    grind (arith, letter, name)

pub name_other : (b : ℕ) (bs : List ℕ) → is_ascii_alphabetic b ≡ false → tag_name (b ∷ bs) ≡ None
unfolding tag_name
name_other b bs other = grind (arith, other)

pub name_nothing : tag_name [] ≡ None
unfolding tag_name
name_nothing = refl

-- tags after their start

module _ (inside : List ℕ) where
  pub open_none : tag_name inside ≡ None → open_tag (60 ∷ inside) ≡ None
  unfolding open_tag after_word
  open_none none = grind (arith, none)

  pub closing_none : tag_name inside ≡ None → closing_tag (60 ∷ 47 ∷ inside) ≡ None
  unfolding closing_tag after_word
  closing_none none = grind (arith, none)

  module _ (tag : Named) (found : tag_name inside ≡ Some tag) where
    pub open_named : open_tag (60 ∷ inside) ≡ with_rest tag.name (after_attributes (suc (length tag.rest)) tag.rest)
    unfolding open_tag after_word
    open_named = grind (arith, found)

    pub closing_named : closing_tag (60 ∷ 47 ∷ inside) ≡ with_rest tag.name (after_word (codes ">") (after_gap tag.rest))
    unfolding closing_tag after_word
    closing_named = grind (arith, found)
