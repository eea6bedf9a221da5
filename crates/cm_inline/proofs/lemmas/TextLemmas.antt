-- Where a text ends.
use Rattle.cm_inline.proofs.lemmas.Words.{◌≡◌, ℕ, suc, ◌+◌, ◌-◌, ◌<◌, ◌≤◌, ◌==◌, ◌&&◌, ◌||◌, not, Bool, true, false, List, [], ◌∷◌, ◌++◌, length, take, drop, get_or}
use Rattle.cm_inline.proofs.lemmas.Words.{refl, sym, ap, subst, ◌∙◌, arith, append_assoc, length-append, length-drop, get_or-drop, drop-drop, nat_lt, list_all}
use Rattle.cm_inline.proofs.lemmas.Words.{slice_range, IsCharBoundary, and_parts, nat_tests, drop_more, length-take, IsCharBoundary-before_ascii, next_place}
use Rattle.cm_inline.proofs.lemmas.Words.{is_marked, begins_with, is_empty, ends_with, is_plain_byte, Rules, Text, Defined, inlines_of, rules, replicate}
use Rattle.std.proofs.Common.{take_all}
use Rattle.std.specs.Prelude.{cond}
use Rattle.std.specs.List.{list_any, position_or_len}
use Rattle.cm_scan.specs.laws.InlineLaws.{keeps_spaces}
use Rattle.cm_scan.proofs.lemmas.texts.TrimLemmas.{trimmed}
use Rattle.cm_scan.proofs.lemmas.inlines.ReadingSteps.{unmarked_is_plain, plain_is_itself}
use Rattle.cm_inline.proofs.lemmas.SliceLemmas.{slice-front}
use Rattle.cm_inline.specs.steps.Marks.{stays_text}
use Rattle.cm_inline.specs.steps.Reads.{IsTextTo}
use Rattle.cm_scan.specs.Words.{trim_end_spaces}

-- the bytes up to the first that is looked for
record UpTo (text : List ℕ) (count : ℕ) : Type 0 where
  within : count ≤ length text
  plain : list_all is_plain_byte (take count text) ≡ true
  stays : list_all (stays_text true) (take count text) ≡ true
  marked : count < length text → is_marked (get_or text count 0) ≡ true

unmarked-stays : (b : ℕ) → is_marked b ≡ false → stays_text true b ≡ true
unmarked-stays b e = grind (arith, nat_tests, e)

up-to : (text : List ℕ) → UpTo text (position_or_len is_marked text)
up-to [] = record { within = omega arith; plain = refl; stays = refl; marked = λ some. absurd (omega (arith, some)) }
up-to (b ∷ bs) = go (is_marked b) refl (up-to bs)
  where
    go : (m : Bool) → is_marked b ≡ m → UpTo bs (position_or_len is_marked bs) → UpTo (b ∷ bs) (cond (not m) (1 + position_or_len is_marked bs) 0)
    go true e again = record { within = omega arith; plain = refl; stays = refl; marked = λ some. e }
    go false e again =
        let one : suc (position_or_len is_marked bs) ≡ 1 + position_or_len is_marked bs = omega arith in
        subst (UpTo (b ∷ bs)) one (record {
          within = omega (arith, again.within);
          plain = ap (λ v. v && list_all is_plain_byte (take (position_or_len is_marked bs) bs)) (unmarked_is_plain b e) ∙ again.plain;
          stays = ap (λ v. v && list_all (stays_text true) (take (position_or_len is_marked bs) bs)) (unmarked-stays b e) ∙ again.stays;
          marked = λ some. again.marked (omega (arith, some));
        })

-- the same at a place
record Reaches (source : List ℕ) (at end : ℕ) : Type 0 where
  low : at ≤ end
  within : end ≤ length source
  plain : list_all is_plain_byte (slice_range source at end) ≡ true
  stays : list_all (stays_text true) (slice_range source at end) ≡ true
  marked : end < length source → is_marked (get_or source end 0) ≡ true

reaches : (source : List ℕ) (at end : ℕ) → at ≤ length source → end ≡ next_place is_marked source at → Reaches source at end
reaches source at end within e = search (rules, up-to, length-drop, get_or-drop)

marked-ascii : (b : ℕ) → is_marked b ≡ true → b < 128
marked-ascii b e = grind (arith, nat_tests, e)

no-space : (b : ℕ) → is_marked b ≡ true → (b == 32) ≡ false
no-space b e = grind (arith, nat_tests, e)

-- the next markup is no line feed, or there is none
pub text-to-markup : (source : List ℕ) (at end : ℕ) → at ≤ length source → end ≡ next_place is_marked source at → (end < length source → (get_or source end 0 == 10) ≡ false) → IsTextTo source at end
text-to-markup source at end within e other =
    let found = reaches source at end within e in
    search (rules, (boundary found (nat_lt end (length source)) refl), (kept (drop end source) (λ b bs f. next found b bs f)))
  where
    boundary : Reaches source at end → (some : Bool) → nat_lt end (length source) ≡ some → IsCharBoundary source end
    boundary found true f =
        let some : end < length source = grind (arith, nat_tests, f) in
        IsCharBoundary-before_ascii source end some (marked-ascii (get_or source end 0) (found.marked some))
    boundary found false f = (found.within, λ some. absurd (grind (arith, nat_tests, f, some)))

    next : Reaches source at end → (b : ℕ) (bs : List ℕ) → drop end source ≡ b ∷ bs → ((b == 32) ≡ false) × ((b == 10) ≡ false)
    next found b bs f =
        let size : length (drop end source) ≡ suc (length bs) = ap length f in
        let some : end < length source = omega (arith, size, length-drop end source) in
        let same : get_or source end 0 ≡ b = ap (λ t. get_or t 0 0) (sym (drop_more source end 0 some) ∙ f) in
        (ap (λ c. c == 32) (sym same) ∙ no-space (get_or source end 0) (found.marked some), ap (λ c. c == 10) (sym same) ∙ other some)

    kept : (rest : List ℕ) → ((b : ℕ) (bs : List ℕ) → rest ≡ b ∷ bs → ((b == 32) ≡ false) × ((b == 10) ≡ false)) → keeps_spaces rest (slice_range source at end) ≡ true
    kept [] f = refl
    kept (b ∷ bs) f = let parts = f b bs refl in ap2 parts.0 parts.1
      where
        ap2 : (b == 32) ≡ false → (b == 10) ≡ false → not ((b == 32 || b == 10) && ends_with 32 (slice_range source at end)) ≡ true
        ap2 p q = ap (λ v. not ((v || b == 10) && ends_with 32 (slice_range source at end))) p ∙ ap (λ v. not (v && ends_with 32 (slice_range source at end))) q

drop-past : (front rest : List ℕ) → drop (length front) (front ++ rest) ≡ rest
drop-past [] rest = refl
drop-past (b ∷ bs) rest = drop-past bs rest

take-past : (front rest : List ℕ) → take (length front) (front ++ rest) ≡ front
take-past [] rest = refl
take-past (b ∷ bs) rest = ap (λ t. b ∷ t) (take-past bs rest)

length-take-le-count : (n : ℕ) (text : List ℕ) → length (take n text) ≤ n
length-take-le-count n text = omega (arith, length-take n text)

front-all : (p : ℕ → Bool) (front rest : List ℕ) → list_all p (front ++ rest) ≡ true → list_all p front ≡ true
front-all p [] rest h = refl
front-all p (b ∷ bs) rest h =
    let parts = and_parts (p b) (list_all p (bs ++ rest)) h in
    ap (λ v. v && list_all p bs) parts.0 ∙ front-all p bs rest parts.1

-- a space or a line feed comes next
first-ascii : (source : List ℕ) (at count : ℕ) (rest : List ℕ) → at < length source → drop at source ≡ replicate count 32 ++ rest → get_or rest 0 0 ≡ 10 → get_or source at 0 < 128
first-ascii source at count rest within e feed = grind (arith, nat_tests, drop_more)

-- the next markup is a line feed: the text is that without the spaces at its end
pub text-to-spaces : (source : List ℕ) (at end : ℕ) → at ≤ length source → end ≡ next_place is_marked source at → end < length source → get_or source end 0 ≡ 10
    → IsTextTo source at (at + length (trim_end_spaces (slice_range source at end)))
text-to-spaces source at end within e some feed =
    let found = reaches source at end within e in
    let text = slice_range source at end in
    let parts = trimmed text in
    let left = trim_end_spaces text in
    let after : drop at source ≡ left ++ (replicate parts.count 32 ++ drop end source) = slice-front source at end found.low ∙ ap (λ t. t ++ drop end source) parts.is ∙ append_assoc left (replicate parts.count 32) (drop end source) in
    let rest : drop (at + length left) source ≡ replicate parts.count 32 ++ drop end source = sym (drop-drop (length left) at source) ∙ ap (drop (length left)) after ∙ drop-past left (replicate parts.count 32 ++ drop end source) in
    let size : length text ≡ length left + length (replicate {A = ℕ} parts.count 32) = ap length parts.is ∙ length-append left (replicate parts.count 32) in
    let whole : length text ≤ end - at = length-take-le-count (end - at) (drop at source) in
    let inside : at + length left < length source = omega (arith, size, whole, found.low, some) in
    let first : get_or source (at + length left) 0 < 128 = first-ascii source (at + length left) parts.count (drop end source) inside rest (ap (λ t. get_or t 0 0) (drop_more source end 0 some) ∙ feed) in
    let part : slice_range source at (at + length left) ≡ left = (let n : at + length left - at ≡ length left = omega arith in ap (λ k. take k (drop at source)) n ∙ ap (take (length left)) after ∙ take-past left (replicate parts.count 32 ++ drop end source)) in
    search (
      rules,
      (IsCharBoundary-before_ascii source (at + length left) inside first),
      (ap (list_all is_plain_byte) part ∙ front-all is_plain_byte left (replicate parts.count 32) (sym (ap (list_all is_plain_byte) parts.is) ∙ found.plain)),
      (ap (list_all (stays_text true)) part ∙ front-all (stays_text true) left (replicate parts.count 32) (sym (ap (list_all (stays_text true)) parts.is) ∙ found.stays)),
      (ap (λ t. not ((begins_with 32 (drop (at + length left) source) || begins_with 10 (drop (at + length left) source)) && ends_with 32 t)) part
          ∙ ap (λ v. not ((begins_with 32 (drop (at + length left) source) || begins_with 10 (drop (at + length left) source)) && v)) parts.ended
          ∙ (elim (begins_with 32 (drop (at + length left) source) || begins_with 10 (drop (at + length left) source)) as (λ next. not (next && false) ≡ true) [ true ↦ refl | false ↦ refl ])),
    )

-- a source without markup is one text

plain-to-end : (source : List ℕ) → length source ≡ next_place is_marked source 0 → list_all is_plain_byte source ≡ true
plain-to-end source e =
    let found = reaches source 0 (length source) (omega arith) e in
    let all : length source - 0 ≡ length source = omega arith in
    sym (ap (list_all is_plain_byte) (ap (λ n. take n source) all ∙ take_all (length source) source (omega arith))) ∙ found.plain

pub one-text : (rules : Rules) (defined : Defined) (source : List ℕ) → (length source == 0) ≡ false → length source ≡ next_place is_marked source 0 → inlines_of rules defined source ≡ Text source ∷ []
one-text rules defined source some e = grind (arith, nat_tests, plain_is_itself, plain-to-end)

-- the next markup is at the end just where there is none
none-marked : (text : List ℕ) → (position_or_len is_marked text == length text) ≡ not (list_any is_marked text)
none-marked [] = refl
none-marked (b ∷ bs) = go (is_marked b) (none-marked bs)
  where
    next : (m n : ℕ) → (1 + m == suc n) ≡ (m == n)
    next m n = grind (arith, nat_tests)

    other : (n : ℕ) → (0 == suc n) ≡ false
    other n = grind (arith, nat_tests)

    go : (m : Bool) → (position_or_len is_marked bs == length bs) ≡ not (list_any is_marked bs) → (cond (not m) (1 + position_or_len is_marked bs) 0 == suc (length bs)) ≡ not (m || list_any is_marked bs)
    go true rest = other (length bs)
    go false rest = next (position_or_len is_marked bs) (length bs) ∙ rest

pub is-unmarked : (source : List ℕ) → (next_place is_marked source 0 == length source) ≡ not (list_any is_marked source)
is-unmarked source =
    let found = up-to source in
    let place : next_place is_marked source 0 ≡ position_or_len is_marked source = omega (arith, found.within) in
    ap (λ n. n == length source) place ∙ none-marked source

pub is-empty : (source : List ℕ) → (length source == 0) ≡ is_empty source
is-empty source = grind (arith, nat_tests)
