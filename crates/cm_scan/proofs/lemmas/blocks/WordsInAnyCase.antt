-- Words in a line, in any case.
use Rattle.std.proofs.Common.{◌≡◌, ℕ, zero, suc, ◌+◌, ◌-◌, ◌<◌, ◌≤◌, ◌==◌, true, false, ◌||◌, List, [], ◌∷◌, length, take, drop, take_all, length-drop, get_or, refl, ◌∙◌, arith, add-one, drop-cons}
use Rattle.std.specs.Prelude.{not, nat_eq, Some, None}
use Rattle.std.specs.List.{list_all, starts_with}
use Rattle.std.specs.Char.{to_ascii_lowercase, is_ascii_alphabetic}
use Rattle.std.specs.Str.{str_to_ascii_lowercase, bytes_eq}
use Rattle.std.proofs.lemmas.List.{drop_all}
use Rattle.cm_scan.specs.Words.{is_at_word, holds_word, after_word}
use Rattle.cm_scan.specs.blocks.HtmlBlocks.{is_at_name_end, is_named_start}

-- a byte that is no letter is its own lower case, and that of no other byte
lower-other : (w b : ℕ) → is_ascii_alphabetic w ≡ false → (to_ascii_lowercase b == w) ≡ (b == w)
lower-other w b other = grind (arith, other)

-- a word, byte by byte

at-cons : (w b : ℕ) (ws bs : List ℕ) → to_ascii_lowercase b ≡ w → is_at_word (w ∷ ws) (str_to_ascii_lowercase (b ∷ bs)) ≡ is_at_word ws (str_to_ascii_lowercase bs)
unfolding is_at_word
at-cons w b ws bs same = grind (arith, same)

at-other : (w b : ℕ) (ws bs : List ℕ) → (to_ascii_lowercase b ≡ w → ⊥) → is_at_word (w ∷ ws) (str_to_ascii_lowercase (b ∷ bs)) ≡ false
unfolding is_at_word
at-other w b ws bs other = grind (arith, other)

at-nothing : (w : ℕ) (ws : List ℕ) → is_at_word (w ∷ ws) (str_to_ascii_lowercase []) ≡ false
unfolding is_at_word
at-nothing w ws = refl

at-whole : (bs : List ℕ) → is_at_word [] bs ≡ true
unfolding is_at_word
at-whole bs = refl

module _ (ws bs : List ℕ) (i : ℕ) where
  module _ (left : i < length ws) where
    pub at_step : i < length bs → to_ascii_lowercase (get_or bs i 0) ≡ get_or ws i 0
        → is_at_word (drop i ws) (str_to_ascii_lowercase (drop i bs)) ≡ is_at_word (drop (i + 1) ws) (str_to_ascii_lowercase (drop (i + 1) bs))
    at_step within same = rw (drop-cons ws i 0, drop-cons bs i 0, add-one) (at-cons (get_or ws i 0) (get_or bs i 0) (drop (suc i) ws) (drop (suc i) bs) same)

    pub at_stop : i < length bs → (to_ascii_lowercase (get_or bs i 0) ≡ get_or ws i 0 → ⊥) → is_at_word (drop i ws) (str_to_ascii_lowercase (drop i bs)) ≡ false
    at_stop within other = rw (drop-cons ws i 0, drop-cons bs i 0) (at-other (get_or ws i 0) (get_or bs i 0) (drop (suc i) ws) (drop (suc i) bs) other)

    pub at_past : length bs ≤ i → is_at_word (drop i ws) (str_to_ascii_lowercase (drop i bs)) ≡ false
    at_past past = rw (drop-cons ws i 0, drop_all i bs past) (at-nothing (get_or ws i 0) (drop (suc i) ws))

  pub at_end : length ws ≤ i → is_at_word (drop i ws) (str_to_ascii_lowercase (drop i bs)) ≡ true
  at_end past = rw (drop_all i ws past) (at-whole (str_to_ascii_lowercase (drop i bs)))

-- a word somewhere

holds-cons : (word : List ℕ) (b : ℕ) (bs : List ℕ) → holds_word word (b ∷ bs) ≡ (is_at_word word (b ∷ bs) || holds_word word bs)
unfolding holds_word
holds-cons word b bs = refl

module _ (w : ℕ) (ws : List ℕ) (other : is_ascii_alphabetic w ≡ false) where
  -- a word that starts with another byte than the next is not next
  past-byte : (b : ℕ) (bs : List ℕ) → (b ≡ w → ⊥) → holds_word (w ∷ ws) (str_to_ascii_lowercase (b ∷ bs)) ≡ holds_word (w ∷ ws) (str_to_ascii_lowercase bs)
  unfolding holds_word
  past-byte b bs differs = grind (arith, at-other w b ws bs (λ e. grind (arith, lower-other w b other, e, differs)))

  holds-none : (bs : List ℕ) → ((k : ℕ) → k < length bs → get_or bs k 0 ≡ w → ⊥) → holds_word (w ∷ ws) (str_to_ascii_lowercase bs) ≡ false
  unfolding holds_word is_at_word
  holds-none [] none = refl
  holds-none (b ∷ bs) none = past-byte b bs (none 0 (omega arith)) ∙ holds-none bs (λ k within. none (suc k) (omega arith))

  holds-first : (bs : List ℕ) (i : ℕ) → i < length bs → ((k : ℕ) → k < i → get_or bs k 0 ≡ w → ⊥)
      → holds_word (w ∷ ws) (str_to_ascii_lowercase bs) ≡ (is_at_word (w ∷ ws) (str_to_ascii_lowercase (drop i bs)) || holds_word (w ∷ ws) (str_to_ascii_lowercase (drop (suc i) bs)))
  holds-first [] i within none = absurd (omega arith)
  holds-first (b ∷ bs) zero within none = holds-cons (w ∷ ws) (to_ascii_lowercase b) (str_to_ascii_lowercase bs)
  holds-first (b ∷ bs) (suc i) within none = past-byte b bs (none 0 (omega arith)) ∙ holds-first bs i (omega arith) (λ k below. none (suc k) (omega arith))

-- the same by the word's first byte
pub holds_none : (word bs : List ℕ) → 0 < length word → is_ascii_alphabetic (get_or word 0 0) ≡ false
    → ((k : ℕ) → k < length bs → get_or bs k 0 ≡ get_or word 0 0 → ⊥) → holds_word word (str_to_ascii_lowercase bs) ≡ false
holds_none [] bs some other none = absurd (omega arith)
holds_none (w ∷ ws) bs some other none = holds-none w ws other bs none

pub holds_first : (word bs : List ℕ) (i : ℕ) → 0 < length word → is_ascii_alphabetic (get_or word 0 0) ≡ false → i < length bs
    → ((k : ℕ) → k < i → get_or bs k 0 ≡ get_or word 0 0 → ⊥)
    → holds_word word (str_to_ascii_lowercase bs) ≡ (is_at_word word (str_to_ascii_lowercase (drop i bs)) || holds_word word (str_to_ascii_lowercase (drop (i + 1) bs)))
holds_first [] bs i some other within none = absurd (omega arith)
holds_first (w ∷ ws) bs i some other within none = rw add-one (holds-first w ws other bs i within none)

-- the case is nothing to a word without letters

at-any_case : (word bs : List ℕ) → list_all (λ w. not (is_ascii_alphabetic w)) word ≡ true → is_at_word word (str_to_ascii_lowercase bs) ≡ is_at_word word bs
unfolding is_at_word
at-any_case [] bs plain = refl
at-any_case (w ∷ ws) [] plain = refl
at-any_case (w ∷ ws) (b ∷ bs) plain =
    let h : is_at_word ws (str_to_ascii_lowercase bs) ≡ is_at_word ws bs = at-any_case ws bs (grind (arith, plain)) in
    let e : (to_ascii_lowercase b == w) ≡ (b == w) = lower-other w b (grind (arith, plain)) in
    grind (arith, h, e)

pub any_case : (word bs : List ℕ) → list_all (λ w. not (is_ascii_alphabetic w)) word ≡ true → holds_word word (str_to_ascii_lowercase bs) ≡ holds_word word bs
unfolding holds_word
any_case word [] plain = refl
any_case word (b ∷ bs) plain =
    let h : is_at_word word (str_to_ascii_lowercase (b ∷ bs)) ≡ is_at_word word (b ∷ bs) = at-any_case word (b ∷ bs) plain in
    let k : holds_word word (str_to_ascii_lowercase bs) ≡ holds_word word bs = any_case word bs plain in
    grind (arith, h, k)

-- what a slice from a place on is
pub slice_from : (n : ℕ) (xs : List ℕ) → take (length xs - n) (drop n xs) ≡ drop n xs
slice_from n xs = take_all (length xs - n) (drop n xs) (omega (arith, length-drop n xs))

-- names

pub same_at : (ws bs : List ℕ) → length ws ≡ length bs → bytes_eq ws (str_to_ascii_lowercase bs) ≡ is_at_word ws (str_to_ascii_lowercase bs)
unfolding is_at_word
same_at [] [] same = refl
same_at [] (b ∷ bs) same = absurd (omega (arith, same))
same_at (w ∷ ws) [] same = absurd (omega (arith, same))
same_at (w ∷ ws) (b ∷ bs) same =
    let h : bytes_eq ws (str_to_ascii_lowercase bs) ≡ is_at_word ws (str_to_ascii_lowercase bs) = same_at ws bs (omega (arith, same)) in
    grind (arith, h)

pub same_not : (ws bs : List ℕ) → (length ws ≡ length bs → ⊥) → bytes_eq ws (str_to_ascii_lowercase bs) ≡ false
same_not [] [] differ = absurd (differ refl)
same_not [] (b ∷ bs) differ = refl
same_not (w ∷ ws) [] differ = refl
same_not (w ∷ ws) (b ∷ bs) differ =
    let h : bytes_eq ws (str_to_ascii_lowercase bs) ≡ false = same_not ws bs (λ e. differ (omega (arith, e))) in
    grind (arith, h)

-- a text that starts with a word
pub starts_at : (ws bs : List ℕ) → starts_with nat_eq bs ws ≡ is_at_word ws bs
unfolding is_at_word
starts_at [] bs = refl
starts_at (w ∷ ws) [] = refl
starts_at (w ∷ ws) (b ∷ bs) = let h : starts_with nat_eq bs ws ≡ is_at_word ws bs = starts_at ws bs in grind (arith, h)

-- what is after a word

after-at : (ws bs : List ℕ) → is_at_word ws (str_to_ascii_lowercase bs) ≡ true → after_word ws (str_to_ascii_lowercase bs) ≡ Some (str_to_ascii_lowercase (drop (length ws) bs))
unfolding is_at_word after_word
after-at [] bs is = refl
after-at (w ∷ ws) [] is = absurd (grind (arith, is))
after-at (w ∷ ws) (b ∷ bs) is =
    let h : is_at_word ws (str_to_ascii_lowercase bs) ≡ true → after_word ws (str_to_ascii_lowercase bs) ≡ Some (str_to_ascii_lowercase (drop (length ws) bs)) = after-at ws bs in
    grind (arith, h, is)

after-not : (ws bs : List ℕ) → is_at_word ws (str_to_ascii_lowercase bs) ≡ false → after_word ws (str_to_ascii_lowercase bs) ≡ None
unfolding is_at_word after_word
after-not [] bs is = absurd (grind (arith, is))
after-not (w ∷ ws) [] is = refl
after-not (w ∷ ws) (b ∷ bs) is =
    let h : is_at_word ws (str_to_ascii_lowercase bs) ≡ false → after_word ws (str_to_ascii_lowercase bs) ≡ None = after-not ws bs in
    grind (arith, h, is)

at-longer : (ws bs : List ℕ) → length bs < length ws → is_at_word ws (str_to_ascii_lowercase bs) ≡ false
unfolding is_at_word
at-longer [] bs longer = absurd (omega (arith, longer))
at-longer (w ∷ ws) [] longer = refl
at-longer (w ∷ ws) (b ∷ bs) longer =
    let h : is_at_word ws (str_to_ascii_lowercase bs) ≡ false = at-longer ws bs (omega (arith, longer)) in
    grind (arith, h)

-- the case is nothing to the end of a name
name_end : (bs : List ℕ) → is_at_name_end (str_to_ascii_lowercase bs) ≡ is_at_name_end bs
name_end [] = refl
name_end (b ∷ bs) = grind arith

pub named_yes : (ws bs : List ℕ) → is_at_word ws (str_to_ascii_lowercase bs) ≡ true → is_named_start (str_to_ascii_lowercase (60 ∷ bs)) ws ≡ is_at_name_end (drop (length ws) bs)
unfolding after_word
named_yes ws bs is =
    let h : after_word ws (str_to_ascii_lowercase bs) ≡ Some (str_to_ascii_lowercase (drop (length ws) bs)) = after-at ws bs is in
    grind (arith, h, name_end (drop (length ws) bs))

pub named_no : (ws bs : List ℕ) → is_at_word ws (str_to_ascii_lowercase bs) ≡ false → is_named_start (str_to_ascii_lowercase (60 ∷ bs)) ws ≡ false
unfolding after_word
named_no ws bs is =
    let h : after_word ws (str_to_ascii_lowercase bs) ≡ None = after-not ws bs is in
    grind (arith, h)

pub named_longer : (ws bs : List ℕ) → length bs < length ws → is_named_start (str_to_ascii_lowercase (60 ∷ bs)) ws ≡ false
named_longer ws bs longer = named_no ws bs (at-longer ws bs longer)
