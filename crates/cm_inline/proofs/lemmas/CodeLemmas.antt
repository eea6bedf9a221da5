-- The content of a code span: its line feeds as spaces, and its ends.
use Rattle.cm_inline.proofs.lemmas.Words.{◌≡◌, ℕ, zero, suc, ◌+◌, ◌-◌, ◌<◌, ◌≤◌, ◌==◌, ◌&&◌, ◌||◌, not, cond, Bool, true, false, List, [], ◌∷◌, ◌++◌, length, take}
use Rattle.cm_inline.proofs.lemmas.Words.{drop, get_or, refl, sym, ap, ◌∙◌, arith, add-one, length-drop, list_all, slice_range, nat_tests, length-take-le, get_or-take}
use Rattle.cm_inline.proofs.lemmas.Words.{is_byte, ends_with, one_line, stripped, rules}
use Rattle.std.proofs.lemmas.List.{take-take, drop-drop, get_or-drop}
use Rattle.cm_inline.proofs.lemmas.Words.{escape, escape_byte, next_place}
use Rattle.cm_inline.specs.steps.Marks.{is_changed_in_code}
use Rattle.std.specs.List.{position_or_len}
use Rattle.memchr.specs.Find.{Passes, Nowhere}
use Rattle.cm_scan.specs.spans.CodeSpans.{but_last}

abbrev pub is_space : ℕ → Bool
is_space b = b == 32 || b == 10

-- in one line a line feed is a space
space-is : (b : ℕ) → (cond (b == 10) 32 b == 32) ≡ is_space b
space-is b = grind (arith, nat_tests)

pub space-ascii : (bs : List ℕ) (i : ℕ) → is_space (get_or bs i 0) ≡ true → get_or bs i 0 < 128
space-ascii bs i space = grind (arith, nat_tests, space)

last-is : (b : ℕ) (bs : List ℕ) → ends_with 32 (one_line (b ∷ bs)) ≡ is_space (get_or (b ∷ bs) (length bs) 0)
unfolding ends_with
last-is b [] = space-is b
last-is b (c ∷ cs) = last-is c cs

all-is : (bs : List ℕ) → list_all (λ b. b == 32) (one_line bs) ≡ list_all is_space bs
all-is [] = refl
all-is (b ∷ bs) = ap (λ v. v && list_all (λ c. c == 32) (one_line bs)) (space-is b) ∙ ap (λ v. is_space b && v) (all-is bs)

but_last-is : (b : ℕ) (bs : List ℕ) → but_last (one_line (b ∷ bs)) ≡ one_line (take (length bs) (b ∷ bs))
unfolding but_last
but_last-is b [] = refl
but_last-is b (c ∷ cs) = ap (λ t. cond (b == 10) 32 b ∷ t) (but_last-is c cs)

-- whether a space is removed at both ends
stripped-is : (b : ℕ) (bs : List ℕ) (first last all : Bool) → is_space b ≡ first → is_space (get_or (b ∷ bs) (length bs) 0) ≡ last → list_all is_space (b ∷ bs) ≡ all
    → stripped (one_line (b ∷ bs)) ≡ cond (first && last && not all) (but_last (one_line bs)) (one_line (b ∷ bs))
unfolding stripped
stripped-is b bs first last all f l a = search (rules, space-is, last-is, all-is)

-- the last byte by its place
last-place : (b : ℕ) (bs : List ℕ) → get_or (b ∷ bs) (length (b ∷ bs) - 1) 0 ≡ get_or (b ∷ bs) (length bs) 0
last-place b bs = let place : length (b ∷ bs) - 1 ≡ length bs = omega arith in ap (λ k. get_or (b ∷ bs) k 0) place

and-false : (first : Bool) (all : Bool) → (first && false && not all) ≡ false
and-false first all = grind (arith, nat_tests)

pub stripped-short : (bs : List ℕ) → length bs < 2 → one_line bs ≡ stripped (one_line bs)
unfolding stripped but_last
stripped-short [] short = refl
stripped-short (b ∷ []) short = sym (stripped-is b [] (is_space b) (is_space b) (is_space b && true) refl refl refl ∙ same (is_space b))
  where
    same : (v : Bool) → cond (v && v && not (v && true)) [] (one_line (b ∷ [])) ≡ one_line (b ∷ [])
    same true = refl
    same false = refl
stripped-short (b ∷ c ∷ cs) short = absurd (omega (arith, short))

pub stripped-first : (bs : List ℕ) → is_space (get_or bs 0 0) ≡ false → one_line bs ≡ stripped (one_line bs)
unfolding stripped
stripped-first [] first = refl
stripped-first (b ∷ bs) first = sym (stripped-is b bs false (is_space (get_or (b ∷ bs) (length bs) 0)) (list_all is_space (b ∷ bs)) first refl refl)

pub stripped-last : (bs : List ℕ) → is_space (get_or bs (length bs - 1) 0) ≡ false → one_line bs ≡ stripped (one_line bs)
unfolding stripped
stripped-last [] last = refl
stripped-last (b ∷ bs) last =
    sym (stripped-is b bs (is_space b) false (list_all is_space (b ∷ bs)) refl (ap is_space (sym (last-place b bs)) ∙ last) refl
    ∙ ap (λ v. cond v (but_last (one_line bs)) (one_line (b ∷ bs))) (and-false (is_space b) (list_all is_space (b ∷ bs))))

pub stripped-spaces : (bs : List ℕ) → list_all is_space bs ≡ true → one_line bs ≡ stripped (one_line bs)
unfolding stripped
stripped-spaces [] all = refl
stripped-spaces (b ∷ bs) all =
    sym (stripped-is b bs (is_space b) (is_space (get_or (b ∷ bs) (length bs) 0)) true refl refl all ∙ same (is_space b) (is_space (get_or (b ∷ bs) (length bs) 0)))
  where
    same : (v w : Bool) → cond (v && w && false) (but_last (one_line bs)) (one_line (b ∷ bs)) ≡ one_line (b ∷ bs)
    same true true = refl
    same true false = refl
    same false w = refl

pub stripped-cut : (bs : List ℕ) → 2 ≤ length bs → is_space (get_or bs 0 0) ≡ true → is_space (get_or bs (length bs - 1) 0) ≡ true → list_all is_space bs ≡ false
    → one_line (slice_range bs 1 (length bs - 1)) ≡ stripped (one_line bs)
stripped-cut [] long first last all = absurd (omega (arith, long))
stripped-cut (b ∷ []) long first last all = absurd (omega (arith, long))
stripped-cut (b ∷ c ∷ cs) long first last all =
    let size : length (b ∷ c ∷ cs) - 1 - 1 ≡ length cs = omega arith in
    ap (λ k. one_line (take k (c ∷ cs))) size ∙ sym (but_last-is c cs)
    ∙ sym (stripped-is b (c ∷ cs) true true false first (ap is_space (sym (last-place b (c ∷ cs))) ∙ last) all)

-- a text up to its first line feed

not-true : (b : Bool) → ¬ (b ≡ true) → b ≡ false
not-true b other = grind (arith, nat_tests)

same-first : (b : ℕ) (bs : List ℕ) (i : ℕ) → Nowhere (Passes (is_byte 10) (b ∷ bs)) 0 (suc i) → cond (b == 10) 32 b ≡ b
same-first b bs i plain = ap (λ v. cond v 32 b) (not-true (b == 10) (plain 0 (omega arith) (omega arith)))

later : (b : ℕ) (bs : List ℕ) (i : ℕ) → Nowhere (Passes (is_byte 10) (b ∷ bs)) 0 (suc i) → Nowhere (Passes (is_byte 10) bs) 0 i
later b bs i plain k low high = plain (suc k) (omega arith) (omega arith)

line-at : (bs : List ℕ) (i : ℕ) → i < length bs → Passes (is_byte 10) bs i → Nowhere (Passes (is_byte 10) bs) 0 i → take i bs ++ 32 ∷ one_line (drop (suc i) bs) ≡ one_line bs
line-at [] i within feed plain = absurd (omega (arith, within))
line-at (b ∷ bs) zero within feed plain = sym (ap (λ v. cond v 32 b ∷ one_line bs) feed)
line-at (b ∷ bs) (suc i) within feed plain =
    ap (λ t. b ∷ t) (line-at bs i (omega (arith, within)) feed (later b bs i plain)) ∙ ap (λ c. c ∷ one_line bs) (sym (same-first b bs i plain))

pub line-feed : (bs : List ℕ) (i : ℕ) → i < length bs → Passes (is_byte 10) bs i → Nowhere (Passes (is_byte 10) bs) 0 i → take i bs ++ 32 ∷ one_line (drop (i + 1) bs) ≡ one_line bs
line-feed bs i within feed plain = rw add-one (line-at bs i within feed plain)

pub line-whole : (bs : List ℕ) → Nowhere (Passes (is_byte 10) bs) 0 (length bs) → bs ≡ one_line bs
line-whole [] plain = refl
line-whole (b ∷ bs) plain = ap (λ t. b ∷ t) (line-whole bs (later b bs (length bs) plain)) ∙ ap (λ c. c ∷ one_line bs) (sym (same-first b bs (length bs) plain))

-- a part of a text without its ends
inner : (n : ℕ) (bs : List ℕ) → take (n - 1 - 1) (drop 1 (take n bs)) ≡ take (n - 1 - 1) (drop 1 bs)
inner n bs = grind (arith, nat_tests, take-take)

-- its length and its ends
pub part-length : (bs : List ℕ) (from to : ℕ) → from ≤ to → to ≤ length bs → length (slice_range bs from to) ≡ to - from
part-length bs from to low high =
    let fits : to - from ≤ length (drop from bs) = omega (arith, length-drop from bs, high, low) in
    length-take-le (to - from) (drop from bs) fits

pub part-first : (bs : List ℕ) (from to : ℕ) → 1 ≤ to - from → get_or (slice_range bs from to) 0 0 ≡ get_or bs from 0
part-first bs from to some =
    let less : 0 < to - from = omega (arith, some) in
    let place : from + 0 ≡ from = omega arith in
    get_or-take (to - from) (drop from bs) 0 0 less ∙ get_or-drop from bs 0 0 ∙ ap (λ n. get_or bs n 0) place

pub part-last : (bs : List ℕ) (from to : ℕ) → from ≤ to → to ≤ length bs → 1 ≤ to - from → get_or (slice_range bs from to) (length (slice_range bs from to) - 1) 0 ≡ get_or bs (to - 1) 0
part-last bs from to low high some = search (rules, part-length, get_or-take, get_or-drop)

pub inner-is : (bs : List ℕ) (from to : ℕ) → from ≤ to → to ≤ length bs → slice_range (slice_range bs from to) 1 (length (slice_range bs from to) - 1) ≡ slice_range bs (from + 1) (to - 1)
inner-is bs from to low high =
    let size = part-length bs from to low high in
    let width : to - from - 1 - 1 ≡ to - 1 - (from + 1) = omega arith in
    ap (λ n. take (n - 1 - 1) (drop 1 (slice_range bs from to))) size ∙ inner (to - from) (drop from bs)
    ∙ ap (λ n. take n (drop 1 (drop from bs))) width ∙ ap (take (to - 1 - (from + 1))) (drop-drop 1 from bs)

-- a code span with no such byte is written as it is
unchanged-byte : (b : ℕ) → is_changed_in_code b ≡ false → escape_byte (cond (b == 10) 32 b) ≡ b ∷ []
unchanged-byte b e = grind (arith, nat_tests, e)

unchanged-front : (text : List ℕ) (count : ℕ) → count ≤ position_or_len is_changed_in_code text → escape (one_line (take count text)) ≡ take count text
unchanged-front text zero low = refl
unchanged-front [] (suc count) low = refl
unchanged-front (b ∷ bs) (suc count) low = go (is_changed_in_code b) refl low (unchanged-front bs count)
  where
    go : (m : Bool) → is_changed_in_code b ≡ m → suc count ≤ cond (not m) (1 + position_or_len is_changed_in_code bs) 0 → (count ≤ position_or_len is_changed_in_code bs → escape (one_line (take count bs)) ≡ take count bs)
        → escape (one_line (b ∷ take count bs)) ≡ b ∷ take count bs
    go true e some rest = absurd (omega (arith, some))
    go false e some rest =
        ap (λ t. t ++ escape (one_line (take count bs))) (unchanged-byte b e) ∙ ap (λ t. b ∷ t) (rest (omega (arith, some)))

pub unchanged-line : (source : List ℕ) (from to : ℕ) → to ≤ next_place is_changed_in_code source from → escape (one_line (slice_range source from to)) ≡ slice_range source from to
unchanged-line source from to low = unchanged-front (drop from source) (to - from) (omega (arith, low))
