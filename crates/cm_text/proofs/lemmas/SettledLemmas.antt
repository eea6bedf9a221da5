-- The bytes so far settle a fault exactly if the feed's test says so: what stays refused, and what can continue to be a text.
use Rattle.std.proofs.Common.{◌≡◌, ◌⊎◌, ℕ, suc, ◌+◌, ◌-◌, ◌*◌, ◌<◌, ◌≤◌, Bool, true, false, cond, List, [], ◌∷◌, ◌++◌, length, take, drop, IsUtf8, Option, Some, None, is_some, nat_lt, refl, sym, ap, subst, ◌∙◌, arith, inl, inr, ⊎_elim, true≢false, append_assoc, append-nil, length-append, length-drop, take_all, take-append-drop}
use Rattle.std.proofs.lemmas.Bool.{cases_Bool, cases_lt, cond-true, cond-false, ltb-false, lt-ltb, le-ltb, ne_eqb, and_parts, leb-true}
use Rattle.std.proofs.lemmas.Bool.Decides.{nat_tests}
use Rattle.std.proofs.lemmas.List.{take-append-le, length-take-le}
use Rattle.std.proofs.lemmas.List.Elements.{All-nil, All-cons}
use Rattle.std.proofs.lemmas.Str.{IsUtf8-append, IsUtf8-nil, utf8_valid_len-IsUtf8, utf8_valid_len-IsValidUpTo, utf8_valid_len_le}
use Rattle.std.proofs.Math.Seq.{take-append-add}
use Rattle.std.proofs.Math.ListN.{drop_of_length-le}
use Rattle.std.proofs.str.Faults.{Ranged, no_char, valid_to}
use Rattle.std.proofs.str.Valid.{of_one, of_two, of_three, of_four, longer}
use Rattle.std.proofs.str.Laws.{Follows}
use Rattle.std.specs.Int.{is_in_range}
use Rattle.std.specs.Str.{IsValidUpTo, StartsWithNoChar}
use Rattle.std.specs.Str.Lossy.{utf8_valid_len, utf8_error_len, second_byte_min, second_byte_max}
use Rattle.cm_text.specs.declared.fault.TextFault.{TextFault}
use Rattle.cm_text.specs.declared.fault.TextFault.TheVariants.{NotUtf8, TooLong}
use Rattle.cm_text.specs.Faults.{left_of, valid_len, after_valid, settled_fault, text_fault}
use Rattle.cm_text.specs.Settled.{AreBytes, Settles, SettledIsTold}
use Rattle.cm_text.proofs.lemmas.Utf8Lemmas.{error_len-nil, utf8_valid_len-cases, valid_front-IsUtf8}
use Rattle.cm_text.proofs.lemmas.FeedLemmas.{valid_shift, left_shift, settled_text, within_limit, none_of_two}

-- the tests that `utf8_error_len` makes of the first three bytes
abbrev is_first : ℕ → Bool
is_first a = is_in_range 0xC2 0xF4 a

abbrev is_second : ℕ → ℕ → Bool
is_second a b = is_in_range (second_byte_min a) (second_byte_max a) b

abbrev is_third : ℕ → Bool
is_third d = is_in_range 0x80 0xBF d

-- a byte that may follow the first byte a
record Second (a b : ℕ) : Type 0 where
  low : 128 ≤ b
  high : b < 192
  after_224 : a ≡ 224 → 160 ≤ b
  after_237 : a ≡ 237 → b < 160
  after_240 : a ≡ 240 → 144 ≤ b
  after_244 : a ≡ 244 → b < 144

-- a byte that passes the test of a range is in it
in_range : (lo hi c : ℕ) → is_in_range lo hi c ≡ true → (lo ≤ c) × (c ≤ hi)
in_range lo hi c is = let parts = and_parts _ _ is in (leb-true _ _ parts.0, leb-true _ _ parts.1)

-- a byte that fails the test of a range isn't in it
out_of_range : (lo hi c : ℕ) → is_in_range lo hi c ≡ false → lo ≤ c → c ≤ hi → ⊥
out_of_range lo hi c is low high = grind (arith, nat_tests)

-- a second byte that passes the test may follow the first
second_range : (a b : ℕ) → is_second a b ≡ true → Second a b
second_range a b is =
    let bounds = in_range _ _ b is in
    record {
      low = grind (arith, nat_tests);
      high = grind (arith, nat_tests);
      after_224 = λ e. grind (arith, nat_tests);
      after_237 = λ e. grind (arith, nat_tests);
      after_240 = λ e. grind (arith, nat_tests);
      after_244 = λ e. grind (arith, nat_tests);
    }

-- a second byte that fails the test may not follow the first
not_second : (a b : ℕ) → is_second a b ≡ false → Second a b → ⊥
not_second a b is s = grind (arith, nat_tests)

-- what `utf8_error_len` says of one byte
error_one : (a : ℕ) → utf8_error_len (a ∷ []) ≡ cond (is_first a) None (Some 1)
unfolding utf8_error_len
error_one a = refl

-- what `utf8_error_len` says of two bytes
error_two : (a b : ℕ) → utf8_error_len (a ∷ b ∷ []) ≡ cond (is_first a) (cond (is_second a b) None (Some 1)) (Some 1)
unfolding utf8_error_len
error_two a b = refl

-- what `utf8_error_len` says of three bytes
error_three : (a b d : ℕ) → utf8_error_len (a ∷ b ∷ d ∷ []) ≡ cond (is_first a) (cond (is_second a b) (cond (is_third d) None (Some 2)) (Some 1)) (Some 1)
unfolding utf8_error_len
error_three a b d = refl

-- what `utf8_error_len` says of four bytes and more
error_four : (a b d e : ℕ) (r : List ℕ) → utf8_error_len (a ∷ b ∷ d ∷ e ∷ r) ≡ cond (is_first a) (cond (is_second a b) (cond (is_third d) (Some 3) (Some 2)) (Some 1)) (Some 1)
unfolding utf8_error_len
error_four a b d e r =
    let n = suc (suc (suc (suc (length r)))) in
    rw (ne_eqb n 0 (omega arith), le-ltb n 2 (omega arith), le-ltb n 3 (omega arith), le-ltb n 4 (omega arith)) refl

-- two bytes in the ranges of a character are a text
text_two : (a b : ℕ) → 194 ≤ a → a < 224 → Follows b → IsUtf8 (a ∷ b ∷ [])
text_two a b least most second = of_two (a ∷ b ∷ []) 0 (omega arith) (least, most) second

-- three bytes in the ranges of a character spell none of a shorter encoding
least_three : (a b d : ℕ) → 224 ≤ a → Second a b → 2048 ≤ (a - 224) * 4096 + (b - 128) * 64 + (d - 128)
least_three a b d least s = ⊎_elim
    (λ (low : a < 225). let second = s.after_224 (omega arith) in omega arith)
    (λ (high : 225 ≤ a). omega arith)
    (cases_lt a 225)

-- three bytes in the ranges of a character spell no surrogate
no_surrogate : (a b d : ℕ) → Second a b → Follows d
    → ((a - 224) * 4096 + (b - 128) * 64 + (d - 128) < 55296) ⊎ (57344 ≤ (a - 224) * 4096 + (b - 128) * 64 + (d - 128))
no_surrogate a b d s third =
    let low = s.low in
    let high = s.high in
    ⊎_elim
    (λ (below : a < 237). inl (omega arith))
    (λ (from : 237 ≤ a). ⊎_elim
    (λ (at : a < 238). let second = s.after_237 (omega arith) in inl (omega arith))
    (λ (above : 238 ≤ a). inr (omega arith))
    (cases_lt a 238))
    (cases_lt a 237)

-- four bytes in the ranges of a character spell none of a shorter encoding and none past the last
in_four : (a b : ℕ) → 240 ≤ a → a ≤ 244 → Second a b → (16 ≤ (a - 240) * 64 + (b - 128)) × ((a - 240) * 64 + (b - 128) < 272)
in_four a b least most s = (
  ⊎_elim (λ (low : a < 241). let second = s.after_240 (omega arith) in omega arith) (λ (high : 241 ≤ a). omega arith) (cases_lt a 241),
  ⊎_elim (λ (low : a < 244). let second = s.high in omega arith) (λ (high : 244 ≤ a). let second = s.after_244 (omega arith) in omega arith) (cases_lt a 244),
)

-- three bytes in the ranges of a character are a text
text_three : (a b d : ℕ) → 224 ≤ a → a < 240 → Second a b → Follows d → IsUtf8 (a ∷ b ∷ d ∷ [])
text_three a b d least most s third =
    of_three (a ∷ b ∷ d ∷ []) 0 (omega arith) (least, most) (s.low, s.high) third (least_three a b d least s) (no_surrogate a b d s third)

-- four bytes in the ranges of a character are a text
text_four : (a b d e : ℕ) → 240 ≤ a → a ≤ 244 → Second a b → Follows d → Follows e → IsUtf8 (a ∷ b ∷ d ∷ e ∷ [])
text_four a b d e least most s third fourth =
    of_four (a ∷ b ∷ d ∷ e ∷ []) 0 (omega arith) least (s.low, s.high) third fourth (in_four a b least most s)

-- no front of the bytes but the empty one is a text
abbrev NoText : List ℕ → Type 0
NoText x = (m : ℕ) → 0 < m → m ≤ length x → IsUtf8 (take m x) → ⊥

-- where no text is at the start, the first byte isn't ASCII
no_one : (a : ℕ) (r : List ℕ) → NoText (a ∷ r) → 128 ≤ a
no_one a r none = ⊎_elim (λ (low : a < 128). absurd (none 1 (omega arith) (omega arith) (of_one (a ∷ r) 0 (omega arith) low))) (λ high. high) (cases_lt a 128)

-- where no text is at the start, the first two bytes aren't a character
no_two : (a b : ℕ) (r : List ℕ) → NoText (a ∷ b ∷ r) → 194 ≤ a → Second a b → 224 ≤ a
no_two a b r none least s =
    ⊎_elim (λ (low : a < 224). absurd (none 2 (omega arith) (omega arith) (text_two a b least low (s.low, s.high)))) (λ high. high) (cases_lt a 224)

-- where no text is at the start, the first three bytes aren't a character
no_three : (a b d : ℕ) (r : List ℕ) → NoText (a ∷ b ∷ d ∷ r) → 224 ≤ a → Second a b → Follows d → 240 ≤ a
no_three a b d r none least s third =
    ⊎_elim (λ (low : a < 240). absurd (none 3 (omega arith) (omega arith) (text_three a b d least low s third))) (λ high. high) (cases_lt a 240)

-- the first byte of a character is in the range that `utf8_error_len` tests, unless it is the only one
ranged_first : (n a b d e : ℕ) → Ranged n a b d e → 128 ≤ a → (194 ≤ a) × (a ≤ 244)
ranged_first n a b d e w high =
    let second = w.second high in
    (second.0, ⊎_elim (λ (past : 244 < a). let fourth = w.fourth (omega arith) in absurd (omega arith)) (λ within. within) (cases_lt 244 a))

-- the second byte of a character may follow its first
ranged_second : (n a b d e : ℕ) → Ranged n a b d e → 128 ≤ a → Second a b
ranged_second n a b d e w high =
    let second = w.second high in
    record {
      low = second.2.0;
      high = second.2.1;
      after_224 = λ is. let in_three = w.in_three (omega arith) (omega arith) in omega arith;
      after_237 = λ is. let in_three = w.in_three (omega arith) (omega arith) in ⊎_elim (λ low. omega arith) (λ over. absurd (omega arith)) in_three.1;
      after_240 = λ is. let fourth = w.fourth (omega arith) in omega arith;
      after_244 = λ is. let fourth = w.fourth (omega arith) in omega arith;
    }

-- bytes with a wrong first byte are refused, whatever follows
fails_first : (a : ℕ) (r : List ℕ) → is_first a ≡ false → is_some (utf8_error_len (a ∷ r)) ≡ true
fails_first a [] first = ap is_some (error_one a ∙ cond-false _ _ _ first)
fails_first a (b ∷ []) first = ap is_some (error_two a b ∙ cond-false _ _ _ first)
fails_first a (b ∷ d ∷ []) first = ap is_some (error_three a b d ∙ cond-false _ _ _ first)
fails_first a (b ∷ d ∷ e ∷ r) first = ap is_some (error_four a b d e r ∙ cond-false _ _ _ first)

-- bytes with a wrong second byte are refused, whatever follows
fails_second : (a b : ℕ) (r : List ℕ) → is_first a ≡ true → is_second a b ≡ false → is_some (utf8_error_len (a ∷ b ∷ r)) ≡ true
fails_second a b [] first second = ap is_some (error_two a b ∙ cond-true _ _ _ first ∙ cond-false _ _ _ second)
fails_second a b (d ∷ []) first second = ap is_some (error_three a b d ∙ cond-true _ _ _ first ∙ cond-false _ _ _ second)
fails_second a b (d ∷ e ∷ r) first second = ap is_some (error_four a b d e r ∙ cond-true _ _ _ first ∙ cond-false _ _ _ second)

-- bytes with a wrong third byte are refused, whatever follows
fails_third : (a b d : ℕ) (r : List ℕ) → is_first a ≡ true → is_second a b ≡ true → is_third d ≡ false → is_some (utf8_error_len (a ∷ b ∷ d ∷ r)) ≡ true
fails_third a b d [] first second third = ap is_some (error_three a b d ∙ cond-true _ _ _ first ∙ cond-true _ _ _ second ∙ cond-false _ _ _ third)
fails_third a b d (e ∷ r) first second third = ap is_some (error_four a b d e r ∙ cond-true _ _ _ first ∙ cond-true _ _ _ second ∙ cond-false _ _ _ third)

-- four bytes with no character at their start are refused, whatever follows
fails_fourth : (a b d e : ℕ) (r : List ℕ) → is_first a ≡ true → is_second a b ≡ true → is_third d ≡ true → is_some (utf8_error_len (a ∷ b ∷ d ∷ e ∷ r)) ≡ true
fails_fourth a b d e r first second third =
    ap is_some (error_four a b d e r ∙ cond-true _ _ _ first ∙ cond-true _ _ _ second ∙ cond-true _ _ _ third)

-- no character is at the start of the bytes, and they are refused
abbrev Stays : List ℕ → Type 0
Stays y = StartsWithNoChar y × (is_some (utf8_error_len y) ≡ true)

-- with a wrong first byte no character is at the start
stays_first : (a : ℕ) (r : List ℕ) → 128 ≤ a → is_first a ≡ false → Stays (a ∷ r)
stays_first a r high first = (no_char (a ∷ r) 0 (λ w. let range = ranged_first _ _ _ _ _ w high in out_of_range 0xC2 0xF4 a first range.0 range.1), fails_first a r first)

-- with a wrong second byte no character is at the start
stays_second : (a b : ℕ) (r : List ℕ) → is_first a ≡ true → is_second a b ≡ false → Stays (a ∷ b ∷ r)
stays_second a b r first second =
    let least = (in_range _ _ a first).0 in
    (no_char (a ∷ b ∷ r) 0 (λ w. not_second a b second (ranged_second _ _ _ _ _ w (omega arith))), fails_second a b r first second)

-- with a wrong third byte
stays_third : (a b d : ℕ) (r : List ℕ) → 224 ≤ a → is_first a ≡ true → is_second a b ≡ true → is_third d ≡ false → Stays (a ∷ b ∷ d ∷ r)
stays_third a b d r high first second third = (
  no_char (a ∷ b ∷ d ∷ r) 0 (λ w. let range = (w.third high).1 in out_of_range 0x80 0xBF d third range.0 (omega arith)),
  fails_third a b d r first second third,
)

-- with no text at the start of four bytes or more, no character is there, whatever follows the four
stays_fourth : (a b d e : ℕ) (r more : List ℕ) → NoText (a ∷ b ∷ d ∷ e ∷ r) → is_first a ≡ true → is_second a b ≡ true → is_third d ≡ true
    → Stays (a ∷ b ∷ d ∷ e ∷ more)
stays_fourth a b d e r more none first second third =
    let range = in_range _ _ a first in
    let s = second_range a b second in
    let third_range = in_range _ _ d third in
    let follows : Follows d = (third_range.0, omega arith) in
    let from_224 = no_two a b (d ∷ e ∷ r) none range.0 s in
    let from_240 = no_three a b d (e ∷ r) none from_224 s follows in (
      no_char (a ∷ b ∷ d ∷ e ∷ more) 0 (λ w. none 4 (omega arith) (omega arith) (text_four a b d e from_240 range.1 s follows (w.fourth from_240).1)),
      fails_fourth a b d e more first second third,
    )

-- bytes are not both refused and not refused
impossible : {A : Type 0} (x : List ℕ) → is_some (utf8_error_len x) ≡ true → utf8_error_len x ≡ None → A
impossible x some none = absurd (true≢false (sym some ∙ ap is_some none))

-- bytes that are refused, with no text at their start, stay so whatever follows
stays : (x more : List ℕ) → is_some (utf8_error_len x) ≡ true → NoText x → Stays (x ++ more)
stays [] more some none = impossible [] some error_len-nil
stays (a ∷ []) more some none = ⊎_elim
    (λ first. impossible (a ∷ []) some (error_one a ∙ cond-true _ _ _ first))
    (λ first. stays_first a more (no_one a [] none) first)
    (cases_Bool (is_first a))
stays (a ∷ b ∷ []) more some none = ⊎_elim
    (λ first. ⊎_elim
    (λ second. impossible (a ∷ b ∷ []) some (error_two a b ∙ cond-true _ _ _ first ∙ cond-true _ _ _ second))
    (λ second. stays_second a b more first second)
    (cases_Bool (is_second a b)))
    (λ first. stays_first a (b ∷ more) (no_one a (b ∷ []) none) first)
    (cases_Bool (is_first a))
stays (a ∷ b ∷ d ∷ []) more some none = ⊎_elim
    (λ first. ⊎_elim
    (λ second. ⊎_elim
    (λ third. impossible (a ∷ b ∷ d ∷ []) some (error_three a b d ∙ cond-true _ _ _ first ∙ cond-true _ _ _ second ∙ cond-true _ _ _ third))
    (λ third. stays_third a b d more (no_two a b (d ∷ []) none (in_range _ _ a first).0 (second_range a b second)) first second third)
    (cases_Bool (is_third d)))
    (λ second. stays_second a b (d ∷ more) first second)
    (cases_Bool (is_second a b)))
    (λ first. stays_first a (b ∷ d ∷ more) (no_one a (b ∷ d ∷ []) none) first)
    (cases_Bool (is_first a))
stays (a ∷ b ∷ d ∷ e ∷ r) more some none = ⊎_elim
    (λ first. ⊎_elim
    (λ second. ⊎_elim
    (λ third. stays_fourth a b d e r (r ++ more) none first second third)
    (λ third. stays_third a b d (e ∷ r ++ more) (no_two a b (d ∷ e ∷ r) none (in_range _ _ a first).0 (second_range a b second)) first second third)
    (cases_Bool (is_third d)))
    (λ second. stays_second a b (d ∷ e ∷ r ++ more) first second)
    (cases_Bool (is_second a b)))
    (λ first. stays_first a (b ∷ d ∷ e ∷ r ++ more) (no_one a (b ∷ d ∷ e ∷ r) none) first)
    (cases_Bool (is_first a))

-- what is left after the longest well-formed prefix has no text at its start
no_text : (bs : List ℕ) → NoText (left_of bs)
no_text bs m some fits u =
    let n = utf8_valid_len bs in
    ⊎_elim
    (λ w. omega (arith, utf8_valid_len-IsUtf8 bs w, length-drop n bs))
    (λ (v : IsValidUpTo bs n). v.longest (n + m) (omega arith) (longer bs n m v.front u))
    (utf8_valid_len-cases bs)

-- bytes and more of them, cut after the longest well-formed prefix
parts : (bs more : List ℕ) → bs ++ more ≡ take (utf8_valid_len bs) bs ++ (left_of bs ++ more)
parts bs more = ap (λ t. t ++ more) (sym (take-append-drop (utf8_valid_len bs) bs)) ∙ append_assoc (take (utf8_valid_len bs) bs) (left_of bs) more

-- where no character can start with what is left, nothing more is well-formed however the bytes continue
error_stays : (bs more : List ℕ) → is_some (utf8_error_len (left_of bs)) ≡ true
    → (utf8_valid_len (bs ++ more) ≡ utf8_valid_len bs) × (is_some (utf8_error_len (left_of (bs ++ more))) ≡ true) × (utf8_valid_len bs < length bs)
error_stays bs more some =
    let n = utf8_valid_len bs in
    let f = take n bs in
    let x = left_of bs in
    let u = valid_front-IsUtf8 bs in
    let len : length f ≡ n = length-take-le n bs (utf8_valid_len_le bs) in
    let short : n < length bs = ⊎_elim
    (λ (within : n < length bs). within)
    (λ (past : length bs ≤ n). impossible x some (ap utf8_error_len (drop_of_length-le bs past) ∙ error_len-nil))
    (cases_lt n (length bs)) in
    let both = stays x more some (no_text bs) in
    let there : 0 < length (x ++ more) = omega (arith, length-append x more, length-drop n bs) in
    let none : utf8_valid_len (x ++ more) ≡ 0 = utf8_valid_len-IsValidUpTo (x ++ more) 0 (valid_to (x ++ more) 0 there IsUtf8-nil both.0) in
    let split : bs ++ more ≡ f ++ (x ++ more) = parts bs more in (
      ap utf8_valid_len split ∙ valid_shift f (x ++ more) u ∙ omega arith,
      ap (λ t. is_some (utf8_error_len t)) (ap left_of split ∙ left_shift f (x ++ more) u ∙ ap (λ k. drop k (x ++ more)) none) ∙ both.1,
      short,
    )

-- the bytes can continue to be a text
abbrev CanEnd : List ℕ → Type 0
CanEnd x = (more : List ℕ) × AreBytes more × IsUtf8 (x ++ more)

-- a byte is a list of bytes
one_byte : (b : ℕ) → b < 256 → AreBytes (b ∷ [])
one_byte b fits = All-cons (λ n. n < 256) b [] fits (All-nil (λ n. n < 256))

-- two bytes are a list of bytes
two_bytes : (b d : ℕ) → b < 256 → d < 256 → AreBytes (b ∷ d ∷ [])
two_bytes b d fits more = All-cons (λ n. n < 256) b (d ∷ []) fits (one_byte d more)

-- three bytes are a list of bytes
three_bytes : (b d e : ℕ) → b < 256 → d < 256 → e < 256 → AreBytes (b ∷ d ∷ e ∷ [])
three_bytes b d e fits more last = All-cons (λ n. n < 256) b (d ∷ e ∷ []) fits (two_bytes d e more last)

-- the least byte that can come after the first
follows_128 : Follows 128
follows_128 = (omega arith, omega arith)

-- the least byte that may follow a is one that may
least_second : (a : ℕ) → Second a (second_byte_min a)
least_second a = record {
  low = grind (arith, nat_tests);
  high = grind (arith, nat_tests);
  after_224 = λ e. grind (arith, nat_tests);
  after_237 = λ e. grind (arith, nat_tests);
  after_240 = λ e. grind (arith, nat_tests);
  after_244 = λ e. grind (arith, nat_tests);
}

-- a first byte can continue to a character
end_first : (a : ℕ) → 194 ≤ a → a ≤ 244 → CanEnd (a ∷ [])
end_first a least most =
    let b = second_byte_min a in
    let s = least_second a in
    let fits : b < 256 = omega (arith, s.high) in
    ⊎_elim
    (λ (two : a < 224). (128 ∷ [], one_byte 128 (omega arith), text_two a 128 least two follows_128))
    (λ (more : 224 ≤ a). ⊎_elim
    (λ (three : a < 240). (b ∷ 128 ∷ [], two_bytes b 128 fits (omega arith), text_three a b 128 more three s follows_128))
    (λ (four : 240 ≤ a). (b ∷ 128 ∷ 128 ∷ [], three_bytes b 128 128 fits (omega arith) (omega arith), text_four a b 128 128 four most s follows_128 follows_128))
    (cases_lt a 240))
    (cases_lt a 224)

-- two bytes that start a longer character can continue to it
end_second : (a b : ℕ) → 224 ≤ a → a ≤ 244 → Second a b → CanEnd (a ∷ b ∷ [])
end_second a b least most s = ⊎_elim
    (λ (three : a < 240). (128 ∷ [], one_byte 128 (omega arith), text_three a b 128 least three s follows_128))
    (λ (four : 240 ≤ a). (128 ∷ 128 ∷ [], two_bytes 128 128 (omega arith) (omega arith), text_four a b 128 128 four most s follows_128 follows_128))
    (cases_lt a 240)

-- three bytes that start a character of four can continue to it
end_third : (a b d : ℕ) → 240 ≤ a → a ≤ 244 → Second a b → Follows d → CanEnd (a ∷ b ∷ d ∷ [])
end_third a b d least most s third = (128 ∷ [], one_byte 128 (omega arith), text_four a b d 128 least most s third follows_128)

-- bytes that `utf8_error_len` doesn't refuse and that don't start with a text are the start of a character
can_end : (x : List ℕ) → NoText x → utf8_error_len x ≡ None → CanEnd x
can_end [] none sound = ([], All-nil (λ n. n < 256), IsUtf8-nil)
can_end (a ∷ []) none sound = ⊎_elim
    (λ first. let range = in_range _ _ a first in end_first a range.0 range.1)
    (λ first. impossible (a ∷ []) (fails_first a [] first) sound)
    (cases_Bool (is_first a))
can_end (a ∷ b ∷ []) none sound = ⊎_elim
    (λ first. ⊎_elim
    (λ second.
    let range = in_range _ _ a first in
    let s = second_range a b second in
    end_second a b (no_two a b [] none range.0 s) range.1 s)
    (λ second. impossible (a ∷ b ∷ []) (fails_second a b [] first second) sound)
    (cases_Bool (is_second a b)))
    (λ first. impossible (a ∷ b ∷ []) (fails_first a (b ∷ []) first) sound)
    (cases_Bool (is_first a))
can_end (a ∷ b ∷ d ∷ []) none sound = ⊎_elim
    (λ first. ⊎_elim
    (λ second. ⊎_elim
    (λ third.
    let range = in_range _ _ a first in
    let s = second_range a b second in
    let third_range = in_range _ _ d third in
    let follows : Follows d = (third_range.0, omega arith) in
    end_third a b d (no_three a b d [] none (no_two a b (d ∷ []) none range.0 s) s follows) range.1 s follows)
    (λ third. impossible (a ∷ b ∷ d ∷ []) (fails_third a b d [] first second third) sound)
    (cases_Bool (is_third d)))
    (λ second. impossible (a ∷ b ∷ d ∷ []) (fails_second a b (d ∷ []) first second) sound)
    (cases_Bool (is_second a b)))
    (λ first. impossible (a ∷ b ∷ d ∷ []) (fails_first a (b ∷ d ∷ []) first) sound)
    (cases_Bool (is_first a))
can_end (a ∷ b ∷ d ∷ e ∷ r) none sound = ⊎_elim
    (λ first. ⊎_elim
    (λ second. ⊎_elim
    (λ third. impossible (a ∷ b ∷ d ∷ e ∷ r) (fails_fourth a b d e r first second third) sound)
    (λ third. impossible (a ∷ b ∷ d ∷ e ∷ r) (fails_third a b d (e ∷ r) first second third) sound)
    (cases_Bool (is_third d)))
    (λ second. impossible (a ∷ b ∷ d ∷ e ∷ r) (fails_second a b (d ∷ e ∷ r) first second) sound)
    (cases_Bool (is_second a b)))
    (λ first. impossible (a ∷ b ∷ d ∷ e ∷ r) (fails_first a (b ∷ d ∷ e ∷ r) first) sound)
    (cases_Bool (is_first a))

-- bytes without an error can continue to be a text
can_go_on : (bs : List ℕ) → utf8_error_len (left_of bs) ≡ None → CanEnd bs
can_go_on bs sound =
    let last = can_end (left_of bs) (no_text bs) sound in
    (last.0, last.1, subst IsUtf8 (sym (parts bs last.0)) (IsUtf8-append (take (utf8_valid_len bs) bs) (left_of bs ++ last.0) (valid_front-IsUtf8 bs) last.2))

-- a front of a text has no error
front_sound : (p rest : List ℕ) → IsUtf8 (p ++ rest) → is_some (utf8_error_len (left_of p)) ≡ false
front_sound p rest u = ⊎_elim
    (λ some. let stay = error_stays p rest some in absurd (omega (arith, utf8_valid_len-IsUtf8 (p ++ rest) u, length-append p rest)))
    (λ none. none)
    (cases_Bool (is_some (utf8_error_len (left_of p))))

-- the fault that bytes settle, by their front within the limit and whether they go past it
abbrev told_by : ℕ → List ℕ → Bool → Option TextFault
told_by limit window past = cond (is_some (utf8_error_len (left_of window))) (Some (NotUtf8 (utf8_valid_len window))) (cond past (Some (TooLong limit)) None)

-- a text has no fault but its length
pub sound_text : (limit : ℕ) (text : List ℕ) → IsUtf8 text → text_fault limit text ≡ cond (nat_lt limit (length text)) (Some (TooLong limit)) None
sound_text limit text u =
    let front : is_some (utf8_error_len (after_valid limit text)) ≡ false = front_sound (take limit text) (drop limit text) (subst IsUtf8 (sym (take-append-drop limit text)) u) in
    let settled : settled_fault limit text ≡ cond (nat_lt limit (length text)) (Some (TooLong limit)) None = cond-false _ _ _ front in
    ⊎_elim
    (λ past.
    let is : cond (nat_lt limit (length text)) (Some (TooLong limit)) None ≡ Some (TooLong limit) = cond-true _ _ _ past in
    settled_text limit text (TooLong limit) (settled ∙ is) ∙ sym is)
    (λ within.
    let is : cond (nat_lt limit (length text)) (Some (TooLong limit)) None ≡ None = cond-false _ _ _ within in
    let whole : take limit text ≡ text = take_all limit text (ltb-false limit (length text) within) in
    let all : valid_len limit text ≡ length text = ap utf8_valid_len whole ∙ utf8_valid_len-IsUtf8 text u in
    cond-false _ _ _ (ap is_some (settled ∙ is)) ∙ cond-false _ _ _ (le-ltb (valid_len limit text) (length text) (omega arith)) ∙ sym is)
    (cases_Bool (nat_lt limit (length text)))

-- what the bytes settle stays settled
settled_stays : (limit : ℕ) (bytes more : List ℕ) (fault : TextFault) → settled_fault limit bytes ≡ Some fault → settled_fault limit (bytes ++ more) ≡ Some fault
settled_stays limit bytes more fault is = ⊎_elim
    (λ (past : limit < length bytes).
    let same : take limit (bytes ++ more) ≡ take limit bytes = take-append-le limit bytes more (omega arith) in
    let longer_past : limit < length (bytes ++ more) = omega (arith, length-append bytes more) in
    ap (λ w. told_by limit w (nat_lt limit (length (bytes ++ more)))) same
    ∙ ap (told_by limit (take limit bytes)) (lt-ltb _ _ longer_past ∙ sym (lt-ltb _ _ past)) ∙ is)
    (λ (within : length bytes ≤ limit).
    let n = limit - length bytes in
    let room : limit ≡ length bytes + n = omega arith in
    let wider : take limit (bytes ++ more) ≡ bytes ++ take n more = ap (λ k. take k (bytes ++ more)) room ∙ take-append-add bytes more n in
    let told : told_by limit bytes false ≡ Some fault =
    ap (λ w. told_by limit w false) (sym (take_all limit bytes within)) ∙ ap (told_by limit (take limit bytes)) (sym (le-ltb limit (length bytes) within)) ∙ is in
    ap (λ w. told_by limit w (nat_lt limit (length (bytes ++ more)))) wider ∙ stays_told bytes (take n more) _ told)
    (cases_lt limit (length bytes))
  where
    stays_told : (bs rest : List ℕ) (past : Bool) → told_by limit bs false ≡ Some fault → told_by limit (bs ++ rest) past ≡ Some fault
    stays_told bs rest past told = ⊎_elim
        (λ some.
        let stay = error_stays bs rest some in
        cond-true _ _ _ stay.1 ∙ ap (λ k. Some (NotUtf8 k)) stay.0 ∙ sym (cond-true _ _ _ some) ∙ told)
        (λ none. let nothing : told_by limit bs false ≡ None = cond-false _ _ _ none in cc)
        (cases_Bool (is_some (utf8_error_len (left_of bs))))

-- an option that isn't some is none
none_from_false : {A : Type 0} (o : Option A) → is_some o ≡ false → o ≡ None
none_from_false None is = refl
none_from_false (Some x) is = absurd (true≢false is)

-- the one fault that isn't settled is an end within a character
cut_short : (t : Bool) (n : ℕ) (fault : TextFault) → cond t (Some (NotUtf8 n)) None ≡ Some fault → fault ≡ NotUtf8 n
cut_short true n fault is = cc
cut_short false n fault is = cc

-- a text's only fault is its length, which isn't an end within a character
never_both : (t : Bool) (n limit : ℕ) (fault : TextFault) → fault ≡ NotUtf8 n → cond t (Some (TooLong limit)) None ≡ Some fault → ⊥
never_both true n limit fault is too_long = cc
never_both false n limit fault is too_long = cc

-- where nothing is settled, the bytes can continue to a text
not_settled : (limit : ℕ) (bytes : List ℕ) (fault : TextFault) → settled_fault limit bytes ≡ None → Settles limit bytes fault → text_fault limit bytes ≡ Some fault → ⊥
not_settled limit bytes fault none settles told =
    let whole : take limit bytes ≡ bytes = take_all limit bytes (within_limit limit bytes none) in
    let sound = none_of_two _ _ _ _ none in
    let error : utf8_error_len (left_of bytes) ≡ None = ap (λ w. utf8_error_len (left_of w)) (sym whole) ∙ none_from_false _ sound.0 in
    let text = can_go_on bytes error in
    let short : fault ≡ NotUtf8 (valid_len limit bytes) = cut_short _ _ _ (sym (cond-false _ _ _ (ap is_some none)) ∙ told) in
    never_both _ (valid_len limit bytes) limit fault short (sym (sound_text limit (bytes ++ text.0) text.2) ∙ settles text.0 text.1)

-- a fault that every text has that starts with the bytes is the one that the test says
settled_from : (limit : ℕ) (bytes : List ℕ) (fault : TextFault) → Settles limit bytes fault → settled_fault limit bytes ≡ Some fault
settled_from limit bytes fault settles = by_fault (settled_fault limit bytes) refl
  where
    told : text_fault limit bytes ≡ Some fault
    told = ap (text_fault limit) (sym (append-nil bytes)) ∙ settles [] (All-nil (λ n. n < 256))

    by_fault : (o : Option TextFault) → settled_fault limit bytes ≡ o → settled_fault limit bytes ≡ Some fault
    by_fault None is = absurd (not_settled limit bytes fault is settles told)
    by_fault (Some other) is = is ∙ sym (settled_text limit bytes other is) ∙ told

-- the test that a feed makes finds exactly the faults that the bytes settle
pub settled_is_told : SettledIsTold
settled_is_told limit bytes fault = (
  λ is more are_bytes. settled_text limit (bytes ++ more) fault (settled_stays limit bytes more fault is),
  settled_from limit bytes fault,
)
