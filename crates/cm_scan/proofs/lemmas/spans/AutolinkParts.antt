-- Autolinks in a text, part by part.
use Rattle.std.proofs.Common.{◌≡◌, ℕ, zero, suc, ◌+◌, ◌-◌, ◌<◌, ◌≤◌, ◌==◌, ◌&&◌, ◌||◌, not, Bool, true, false, List, [], ◌∷◌, length, take, drop, get_or, Option, Some, None, codes, IsUtf8, refl, sym, ap, ◌∙◌, arith, add-one, length-take-le}
use Rattle.std.specs.List.{onto_first, list_all, position_or_len}
use Rattle.std.specs.Prelude.{cond}
use Rattle.std.proofs.Common.{length-drop}
use Rattle.std.proofs.lemmas.List.Sums.{prefix_len-le-length, fails_before_first}
use Rattle.cm_text.specs.Search.{next_place}
use Rattle.cm_text.proofs.lemmas.SearchLemmas.{from_the_front}
use Rattle.std.specs.Str.{IsCharBoundary}
use Rattle.std.specs.Int.{is_in_range}
use Rattle.std.specs.Char.{is_ascii_alphabetic}
use Rattle.std.proofs.lemmas.List.{get_or-drop}
use Rattle.std.proofs.lemmas.Bool.Decides.{nat_tests}
use Rattle.std.proofs.lemmas.Str.{IsCharBoundary-after_ascii}
use Rattle.memchr.specs.Find.{IsFirstByte, is_byte}
use Rattle.cm_scan.specs.Words.{is_empty, begins_with, skip, front_of, after_word}
use Rattle.cm_scan.specs.inlines.Links.{Reading}
use Rattle.cm_scan.specs.spans.Autolinks.{Autolink, is_inside, in_angles, continues_scheme, is_scheme, is_absolute, stands_in_address, ends_with, is_host_label, is_address, as_autolink, autolink}
use Rattle.cm_scan.specs.Scanned.{autolink_with}
use Rattle.cm_scan.specs.steps.SpanSteps.{is_host_byte, labels, ended}
use Rattle.cm_scan.proofs.lemmas.texts.ScannerAnswers.{begins-at}
use Rattle.cm_scan.proofs.lemmas.spans.TagParts.{skip_shorter, front-is}

is-false : (b : Bool) → (b ≡ true → ⊥) → b ≡ false
is-false true h = absurd (h refl)
is-false false h = refl

-- bytes at the start that pass a test, one after another

module _ (test : ℕ → Bool) where
  -- there are some where something is left off
  pub front-some : (bs : List ℕ) → (length (skip test bs) ≡ length bs → ⊥) → is_empty (front_of test bs) ≡ false
  unfolding skip front_of
  front-some [] h = absurd (h refl)
  front-some (b ∷ bs) h = go (test b) h
    where
      go : (c : Bool) → (length (elim c as (λ _. List ℕ) [ true ↦ skip test bs | false ↦ b ∷ bs ]) ≡ suc (length bs) → ⊥)
          → is_empty (elim c as (λ _. List ℕ) [ true ↦ b ∷ front_of test bs | false ↦ [] ]) ≡ false
      go true h = refl
      go false h = absurd (h refl)

  pub front-empty : (bs : List ℕ) → length (skip test bs) ≡ length bs → is_empty (front_of test bs) ≡ true
  unfolding skip front_of
  front-empty [] h = refl
  front-empty (b ∷ bs) h = go (test b) h (skip_shorter test bs)
    where
      go : (c : Bool) → length (elim c as (λ _. List ℕ) [ true ↦ skip test bs | false ↦ b ∷ bs ]) ≡ suc (length bs) → length (skip test bs) ≤ length bs
          → is_empty (elim c as (λ _. List ℕ) [ true ↦ b ∷ front_of test bs | false ↦ [] ]) ≡ true
      go true h k = absurd (omega (arith, h, k))
      go false h k = refl

-- between `<` and `>`

no-angle : (bs : List ℕ) → begins_with 60 bs ≡ false → in_angles bs ≡ None
unfolding in_angles after_word
no-angle [] h = refl
no-angle (b ∷ bs) h = grind (arith, h)

angle : (bs : List ℕ) → in_angles (60 ∷ bs) ≡ ended (front_of is_inside bs) (after_word (codes ">") (skip is_inside bs))
unfolding in_angles after_word
angle bs = refl

no-end : (bs : List ℕ) → begins_with 62 bs ≡ false → after_word (codes ">") bs ≡ None
unfolding after_word
no-end [] h = refl
no-end (b ∷ bs) h = grind (arith, h)

end-here : (bs : List ℕ) → after_word (codes ">") (62 ∷ bs) ≡ Some bs
unfolding after_word
end-here bs = refl

-- the first byte outside of what passes
outside-is : (test : ℕ → Bool) (text : List ℕ) → (take (position_or_len (λ b. not (test b)) text) text ≡ front_of test text) × (drop (position_or_len (λ b. not (test b)) text) text ≡ skip test text)
unfolding front_of skip
outside-is test [] = (refl, refl)
outside-is test (b ∷ bs) = go (test b) (outside-is test bs)
  where
    go : (v : Bool) → (take (position_or_len (λ c. not (test c)) bs) bs ≡ front_of test bs) × (drop (position_or_len (λ c. not (test c)) bs) bs ≡ skip test bs)
        → (take (cond (not (not v)) (1 + position_or_len (λ c. not (test c)) bs) 0) (b ∷ bs) ≡ elim v [ true ↦ b ∷ front_of test bs | false ↦ [] ])
        × (drop (cond (not (not v)) (1 + position_or_len (λ c. not (test c)) bs) 0) (b ∷ bs) ≡ elim v [ true ↦ skip test bs | false ↦ b ∷ bs ])
    go true rest =
        let one : 1 + position_or_len (λ c. not (test c)) bs ≡ suc (position_or_len (λ c. not (test c)) bs) = omega arith in
        (ap (λ k. take k (b ∷ bs)) one ∙ ap (λ t. b ∷ t) rest.0, ap (λ k. drop k (b ∷ bs)) one ∙ rest.1)
    go false rest = (refl, refl)

module _ (text : List ℕ) where
  pub angles-nothing : text ≡ [] → None ≡ in_angles text
  angles-nothing is = sym (ap in_angles is ∙ no-angle [] refl)

  module _ (b : ℕ) (inside : List ℕ) (is : text ≡ b ∷ inside) where
    pub angles-other : (b ≡ 60 → ⊥) → None ≡ in_angles text
    angles-other other = sym (ap in_angles is ∙ no-angle (b ∷ inside) (grind (arith, nat_tests, other)))

    module _ (angled : b ≡ 60) (n : ℕ) (first : n ≡ next_place (λ c. not (is_inside c)) inside 0) where
      place : n ≡ position_or_len (λ c. not (is_inside c)) inside
      place = first ∙ from_the_front (λ c. not (is_inside c)) inside

      front : take n inside ≡ front_of is_inside inside
      front = ap (λ k. take k inside) place ∙ (outside-is is_inside inside).0

      left : drop n inside ≡ skip is_inside inside
      left = ap (λ k. drop k inside) place ∙ (outside-is is_inside inside).1

      by-end : in_angles text ≡ ended (take n inside) (after_word (codes ">") (drop n inside))
      by-end =
          ap in_angles (is ∙ ap (λ c. c ∷ inside) angled) ∙ angle inside ∙ ap (λ t. ended t (after_word (codes ">") (skip is_inside inside))) (sym front)
          ∙ ap (λ t. ended (take n inside) (after_word (codes ">") t)) (sym left)

      pub angles-ended : drop n inside ≡ [] → None ≡ in_angles text
      angles-ended none = sym (by-end ∙ ap (λ t. ended (take n inside) (after_word (codes ">") t)) none ∙ ap (ended (take n inside)) (no-end [] refl))

      module _ (c : ℕ) (rest : List ℕ) (next : drop n inside ≡ c ∷ rest) where
        pub angles-open : (c ≡ 62 → ⊥) → None ≡ in_angles text
        angles-open other =
            sym (by-end ∙ ap (λ t. ended (take n inside) (after_word (codes ">") t)) next ∙ ap (ended (take n inside)) (no-end (c ∷ rest) (grind (arith, nat_tests, other))))

        pub angles-some : c ≡ 62 → Some (record { text = take n inside; rest = rest }) ≡ in_angles text
        angles-some close =
            sym (by-end ∙ ap (λ t. ended (take n inside) (after_word (codes ">") t)) (next ∙ ap (λ d. d ∷ rest) close) ∙ ap (ended (take n inside)) (end-here rest))

-- a byte that comes next is ASCII
pub next-ascii : (b : ℕ) (text : List ℕ) (at : ℕ) (next : Bool) → IsUtf8 text → b < 128 → next ≡ begins_with b (drop at text) → next ≡ true → IsCharBoundary text (at + 1)
next-ascii b text at next utf8 ascii e h =
    let here = begins-at b text at (sym e ∙ h) in
    IsCharBoundary-after_ascii text at utf8 here.0 (omega (arith, ascii, here.2))

-- an absolute URI

scheme-of : (inside : List ℕ) (n : ℕ) → n ≤ length inside → is_scheme (take n inside) ≡ (is_ascii_alphabetic (get_or inside 0 0) && is_in_range 2 32 n)
unfolding is_scheme
scheme-of inside zero h = last (is_ascii_alphabetic (get_or inside 0 0))
  where
    last : (c : Bool) → false ≡ (c && false)
    last true = refl
    last false = refl
scheme-of [] (suc n) h = absurd (omega (arith, h))
scheme-of (b ∷ bs) (suc n) h =
    let size : length (take n bs) ≡ n = length-take-le n bs (omega (arith, h)) in
    let same : is_in_range 1 31 n ≡ is_in_range 2 32 (suc n) = grind (arith, nat_tests) in
    ap (λ m. is_ascii_alphabetic b && is_in_range 1 31 m) size ∙ ap (λ v. is_ascii_alphabetic b && v) same

module _ (inside : List ℕ) where
  absolute-is : is_absolute inside ≡ (is_ascii_alphabetic (get_or inside 0 0) && is_in_range 2 32 (length inside - length (skip continues_scheme inside)) && begins_with 58 (skip continues_scheme inside))
  unfolding is_absolute
  absolute-is =
      ap (λ t. is_scheme t && begins_with 58 (skip continues_scheme inside)) (front-is continues_scheme inside)
      ∙ ap (λ v. v && begins_with 58 (skip continues_scheme inside)) (scheme-of inside (length inside - length (skip continues_scheme inside)) (omega arith))

  module _ (rest : List ℕ) (left : rest ≡ skip continues_scheme inside) where
    absolute-at : is_absolute inside ≡ (is_ascii_alphabetic (get_or inside 0 0) && is_in_range 2 32 (length inside - length rest) && begins_with 58 rest)
    absolute-at = absolute-is ∙ ap (λ t. is_ascii_alphabetic (get_or inside 0 0) && is_in_range 2 32 (length inside - length t) && begins_with 58 t) (sym left)

    pub absolute-size : length rest ≤ length inside
    absolute-size = omega (arith, ap length left, skip_shorter continues_scheme inside)

    pub absolute-other : is_in_range 2 32 (length inside - length rest) ≡ false → false ≡ is_absolute inside
    absolute-other h = sym (absolute-at ∙ grind (arith, h))

    pub absolute-letter : is_in_range 2 32 (length inside - length rest) ≡ true → is_ascii_alphabetic (get_or inside 0 0) ≡ true → begins_with 58 rest ≡ is_absolute inside
    absolute-letter h k = sym (absolute-at ∙ grind (arith, h, k))

    pub absolute-no_letter : is_ascii_alphabetic (get_or inside 0 0) ≡ false → false ≡ is_absolute inside
    absolute-no_letter k = sym (absolute-at ∙ grind (arith, k))

-- an e-mail address

all-labels : Option (List ℕ) → Bool
all-labels o = elim o as (λ _. Bool) [ Some host ↦ list_all is_host_label (labels host) | None ↦ false ]

module _ (inside rest : List ℕ) (left : rest ≡ skip stands_in_address inside) where
  pub address-none : length rest ≡ length inside → false ≡ is_address inside
  unfolding is_address
  address-none h = grind (arith, front-empty stands_in_address inside (ap length (sym left) ∙ h))

  module _ (some : length rest ≡ length inside → ⊥) where
    address-at : is_address inside ≡ all-labels (after_word (codes "@") rest)
    unfolding is_address all-labels
    address-at =
        let first = front-some stands_in_address inside (λ e. some (ap length left ∙ e)) in
        ap (λ v. not v && all-labels (after_word (codes "@") (skip stands_in_address inside))) first ∙ ap (λ t. all-labels (after_word (codes "@") t)) (sym left)

    pub address-end : rest ≡ [] → false ≡ is_address inside
    unfolding all-labels after_word
    address-end h = sym (address-at ∙ ap (λ t. all-labels (after_word (codes "@") t)) h)

    pub address-other : (b : ℕ) (host : List ℕ) → rest ≡ b ∷ host → (b ≡ 64 → ⊥) → false ≡ is_address inside
    unfolding all-labels after_word
    address-other b host h other = sym (address-at ∙ ap (λ t. all-labels (after_word (codes "@") t)) h ∙ grind (arith, other))

    pub address-host : (b : ℕ) (host : List ℕ) → rest ≡ b ∷ host → b ≡ 64 → list_all is_host_label (labels host) ≡ is_address inside
    unfolding all-labels after_word
    address-host b host h same = sym (address-at ∙ ap (λ t. all-labels (after_word (codes "@") t)) (h ∙ ap (λ c. c ∷ host) same))

-- the labels of a host, one after another

label-more : (b : ℕ) (bs : List ℕ) → (b == 46) ≡ false → labels (b ∷ bs) ≡ onto_first b (labels bs)
label-more b bs h = ap (λ c. cond c ([] ∷ labels bs) (onto_first b (labels bs))) h

label-dot : (b : ℕ) (bs : List ℕ) → (b == 46) ≡ true → labels (b ∷ bs) ≡ [] ∷ labels bs
label-dot b bs h = ap (λ c. cond c ([] ∷ labels bs) (onto_first b (labels bs))) h

no-dot : (bs : List ℕ) → IsFirstByte (is_byte 46) bs None → labels bs ≡ bs ∷ []
no-dot [] none = refl
no-dot (b ∷ bs) none =
    label-more b bs (is-false (b == 46) (none 0 (omega arith) (omega arith)))
    ∙ ap (onto_first b) (no-dot bs (λ k low high. none (suc k) (omega arith) (omega (arith, high))))

first-dot : (bs : List ℕ) (i : ℕ) → i < length bs → ((k : ℕ) → k < i → (get_or bs k 0 == 46) ≡ true → ⊥) → (get_or bs i 0 == 46) ≡ true → labels bs ≡ take i bs ∷ labels (drop (suc i) bs)
first-dot [] i high none dot = absurd (omega (arith, high))
first-dot (b ∷ bs) zero high none dot = label-dot b bs dot
first-dot (b ∷ bs) (suc i) high none dot =
    label-more b bs (is-false (b == 46) (none 0 (omega arith)))
    ∙ ap (onto_first b) (first-dot bs i (omega (arith, high)) (λ k below. none (suc k) (omega (arith, below))) dot)

pub last-label : (bs : List ℕ) → IsFirstByte (is_byte 46) bs None → is_host_label bs ≡ list_all is_host_label (labels bs)
last-label bs none = grind (arith, no-dot bs none)

module _ (bs : List ℕ) (i : ℕ) (first : IsFirstByte (is_byte 46) bs (Some i)) where
  split : labels bs ≡ take i bs ∷ labels (drop (i + 1) bs)
  split = rw (add-one) (first-dot bs i first.0.high (λ k below dot. first.0.before k (omega arith) below dot) first.1)

  pub label-bad : is_host_label (take i bs) ≡ false → false ≡ list_all is_host_label (labels bs)
  label-bad h = grind (arith, split, h)

  pub label-good : is_host_label (take i bs) ≡ true → list_all is_host_label (labels (drop (i + 1) bs)) ≡ list_all is_host_label (labels bs)
  label-good h = grind (arith, split, h)

-- one label of a host

last-byte : (c b : ℕ) (bs : List ℕ) → ends_with c (b ∷ bs) ≡ (get_or (b ∷ bs) (length bs) 0 == c)
unfolding ends_with
last-byte c b [] = refl
last-byte c b (d ∷ ds) = last-byte c d ds

ends-at : (c : ℕ) (bs : List ℕ) → 0 < length bs → ends_with c bs ≡ (get_or bs (length bs - 1) 0 == c)
ends-at c [] some = absurd (omega (arith, some))
ends-at c (b ∷ bs) some = let place : length (b ∷ bs) - 1 ≡ length bs = omega arith in last-byte c b bs ∙ ap (λ n. get_or (b ∷ bs) n 0 == c) (sym place)

begins-first : (c : ℕ) (bs : List ℕ) → 0 < length bs → begins_with c bs ≡ (get_or bs 0 0 == c)
begins-first c [] some = absurd (omega (arith, some))
begins-first c (b ∷ bs) some = refl

pub label-size : (label : List ℕ) → is_in_range 1 63 (length label) ≡ false → false ≡ is_host_label label
unfolding is_host_label
label-size label h = grind (arith, h)

-- the last byte, as the next one after all others
last-next : (c : ℕ) (bs : List ℕ) → 0 < length bs → begins_with c (drop (length bs - 1) bs) ≡ ends_with c bs
last-next c bs some =
    let at : length bs - 1 + 0 ≡ length bs - 1 = omega arith in
    begins-first c (drop (length bs - 1) bs) (omega (arith, some, length-drop (length bs - 1) bs))
    ∙ ap (λ b. b == c) (get_or-drop (length bs - 1) bs 0 0 ∙ ap (λ n. get_or bs n 0) at) ∙ sym (ends-at c bs some)

module _ (label : List ℕ) (some : 0 < length label) where
  pub label-hyphen : (begins_with 45 label || begins_with 45 (drop (length label - 1) label)) ≡ true → false ≡ is_host_label label
  unfolding is_host_label
  label-hyphen h = grind (arith, h, last-next 45 label some)

  pub label-bytes : is_in_range 1 63 (length label) ≡ true → begins_with 45 label ≡ false → begins_with 45 (drop (length label - 1) label) ≡ false → list_all is_host_byte label ≡ is_host_label label
  unfolding is_host_label
  label-bytes few first last = grind (arith, few, first, last, last-next 45 label some)

-- the autolink of what is inside

module _ (inside rest : List ℕ) where
  pub link-uri : is_absolute inside ≡ true → Some (autolink_with false inside rest) ≡ as_autolink (record { text = inside; rest = rest })
  unfolding as_autolink
  link-uri h = grind (arith, h)

  pub link-none : is_absolute inside ≡ false → is_address inside ≡ false → None ≡ as_autolink (record { text = inside; rest = rest })
  unfolding as_autolink
  link-none h k = grind (arith, h, k)

  pub link-address : is_absolute inside ≡ false → is_address inside ≡ true → Some (autolink_with true inside rest) ≡ as_autolink (record { text = inside; rest = rest })
  unfolding as_autolink
  link-address h k = grind (arith, h, k)

pub link-outside : (bs : List ℕ) → None ≡ in_angles bs → None ≡ autolink bs
unfolding autolink
link-outside bs h = ap (λ o. elim o as (λ _. Option Autolink) [ Some r ↦ as_autolink r | None ↦ None ]) h

pub link-inside : (bs : List ℕ) (r : Reading) → Some r ≡ in_angles bs → as_autolink r ≡ autolink bs
unfolding autolink
link-inside bs r h = ap (λ o. elim o as (λ _. Option Autolink) [ Some r ↦ as_autolink r | None ↦ None ]) h

module _ (test : ℕ → Bool) (bytes : List ℕ) (from at : ℕ) (low : from ≤ length bytes) (e : at ≡ next_place (λ b. not (test b)) bytes from) where
  outside-place : at ≡ from + position_or_len (λ b. not (test b)) (drop from bytes)
  outside-place = omega (arith, low, e, length-drop from bytes, prefix_len-le-length (λ b. not (not (test b))) (drop from bytes))

  pub outside-within : (from ≤ at) × (at ≤ length bytes)
  outside-within = (omega (arith, outside-place), omega (arith, e))

  pub outside-passes : (k : ℕ) → from ≤ k → k < at → test (get_or bytes k 0) ≡ true
  outside-passes k above under =
      let place : from + (k - from) ≡ k = omega (arith, above) in
      passes (test (get_or bytes k 0))
      (ap (λ n. not (test (get_or bytes n 0))) (sym place) ∙ ap (λ b. not (test b)) (sym (get_or-drop from bytes (k - from) 0))
      ∙ fails_before_first (λ b. not (test b)) (drop from bytes) (k - from) 0 (omega (arith, above, under, outside-place)))
    where
      passes : (b : Bool) → not b ≡ false → b ≡ true
      passes true h = refl
      passes false h = sym h
