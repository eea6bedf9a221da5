-- References: where they end, and which form the bytes after the ampersand choose.
use Rattle.std.proofs.Common.{◌≡◌, ℕ, zero, suc, ◌+◌, ◌-◌, ◌*◌, ◌^◌, ◌<◌, ◌≤◌, Bool, true, false, cond, ◌==◌, if◌then◌else◌, List, [], ◌∷◌, length, take, drop, get_or, Option, Some, None, codes, refl, sym, ap, subst, ◌∙◌, arith}
use Rattle.std.proofs.lemmas.Bool.Decides.{nat_tests}
use Rattle.std.proofs.Math.Nat.{pow-le-pow_left, pow-le-pow_right}
use Rattle.std.specs.List.{prefix_len}
use Rattle.std.specs.Char.{is_ascii_digit, is_ascii_hexdigit, is_ascii_alphanumeric, digit_value}
use Rattle.std.specs.Option.{SomeIff, unwrap_or}
use Rattle.std.specs.Str.Parse.{AllDigits, digits_value}
use Rattle.std.proofs.lemmas.Int.Digits.{digits_value-lt, digits_value_more}
use Rattle.std.proofs.lemmas.Str.Parse.{digits_value-take-le}
use Rattle.std.proofs.lemmas.List.{length-take, length-drop, take_all, get_or-drop}
use Rattle.std.specs.Str.{IsCharBoundary, IsUtf8}
use Rattle.std.specs.Int.{is_in_range}
use Rattle.std.proofs.lemmas.Str.{IsCharBoundary-after_ascii}
use Rattle.cm_text.specs.NamedReferences.{names}
use Rattle.cm_text.specs.References.{after_word, begins_with, before_semicolon, between, numbered_character, numbered, named, entry, decimal_reference, hexadecimal_reference, entity_reference, first_of_all, reference}

-- a byte that passes is a digit of the radix
abbrev pub MeansDigit : ℕ → (ℕ → Bool) → Type 0
MeansDigit radix passes = (b : ℕ) → passes b ≡ true → digit_value b < radix

pub decimal_digit : MeansDigit 10 is_ascii_digit
decimal_digit b h = grind (arith, nat_tests, h)

pub hexadecimal_digit : MeansDigit 16 is_ascii_hexdigit
hexadecimal_digit b h = grind (arith, nat_tests, h)

one-plus : (n : ℕ) → suc n ≡ 1 + n
one-plus n = omega arith

digits-step : (radix : ℕ) (passes : ℕ → Bool) (b : ℕ) (bs : List ℕ) (pass : Bool) → MeansDigit radix passes → passes b ≡ pass
    → AllDigits radix (take (prefix_len passes bs) bs) → AllDigits radix (take (cond pass (1 + prefix_len passes bs) 0) (b ∷ bs))
digits-step radix passes b bs true means h rest = subst (λ n. AllDigits radix (take n (b ∷ bs))) (one-plus (prefix_len passes bs)) (means b h, rest)
digits-step radix passes b bs false means h rest = tt

-- so what is before a semicolon is digits
pub all_digits : (radix : ℕ) (passes : ℕ → Bool) (text : List ℕ) → MeansDigit radix passes → AllDigits radix (take (prefix_len passes text) text)
all_digits radix passes [] means = tt
all_digits radix passes (b ∷ bs) means = digits-step radix passes b bs (passes b) means refl (all_digits radix passes bs means)

-- what was taken, where something was
pub taken_is : (semicolon : Bool) (front digits : List ℕ) → Some digits ≡ (if semicolon then Some front else None) → digits ≡ front
taken_is true front digits h = grind (arith, h)
taken_is false front digits h = absurd (cc)

-- seven digits fit
pub digits-fit : (radix : ℕ) (digits : List ℕ) → 2 ≤ radix → radix ≤ 16 → length digits ≤ 7 → AllDigits radix digits → digits_value radix digits < 2 ^ 32
digits-fit radix digits low high short all =
    let own : digits_value radix digits < radix ^ length digits = digits_value-lt radix digits all in
    let base : radix ^ length digits ≤ 16 ^ length digits = pow-le-pow_left high (length digits) in
    let most : 16 ^ length digits ≤ 16 ^ 7 = pow-le-pow_right (omega arith) short in
    omega (arith, own, base, most)

digit-at : (radix : ℕ) (digits : List ℕ) (i : ℕ) → AllDigits radix digits → i < length digits → digit_value (get_or digits i 0) < radix
digit-at radix [] i all within = absurd (omega arith)
digit-at radix (d ∷ ds) zero all within = all.0
digit-at radix (d ∷ ds) (suc i) all within = digit-at radix ds i all.1 (omega arith)

-- a digit's value
pub value-of_digit : (radix : ℕ) (digits : List ℕ) (i : ℕ) (found : Option ℕ) → AllDigits radix digits → i < length digits
    → SomeIff found (digit_value (get_or digits i 0) < radix) (digit_value (get_or digits i 0)) → unwrap_or found 0 ≡ digit_value (get_or digits i 0)
value-of_digit radix digits i None all within none = absurd (none (digit-at radix digits i all within))
value-of_digit radix digits i (Some v) all within some = some.1

-- the number with a digit more is no greater than that of all digits
pub number-more : (radix : ℕ) (digits : List ℕ) (i number digit : ℕ) → 2 ≤ radix → i < length digits
    → number ≡ digits_value radix (take i digits) → digit ≡ digit_value (get_or digits i 0)
    → (number * radix + digit ≡ digits_value radix (take (i + 1) digits)) × (number * radix + digit ≤ digits_value radix digits)
number-more radix digits i number digit low within n d =
    let more : number * radix + digit ≡ digits_value radix (take (i + 1) digits) = rw (n, d) (sym (digits_value_more radix digits i within)) in
    (more, rw more (digits_value-take-le radix digits (i + 1) (omega arith)))

-- a text that starts with a byte
pub begins-cons : (b : ℕ) (text : List ℕ) → begins_with b text ≡ true → text ≡ b ∷ drop 1 text
begins-cons b [] h = absurd (cc)
begins-cons b (c ∷ cs) h = let same : c ≡ b = grind (arith, nat_tests, h) in ap (λ n. n ∷ cs) same

-- one form alone
abbrev Read : Type 0
Read = Option (List ℕ × ℕ)

alone_1 : (o : Read) → first_of_all (o ∷ None ∷ None ∷ None ∷ []) ≡ o
alone_1 None = refl
alone_1 (Some read) = refl

alone_2 : (o : Read) → first_of_all (None ∷ o ∷ None ∷ None ∷ []) ≡ o
alone_2 None = refl
alone_2 (Some read) = refl

alone_3 : (o : Read) → first_of_all (None ∷ None ∷ o ∷ None ∷ []) ≡ o
alone_3 None = refl
alone_3 (Some read) = refl

alone_4 : (o : Read) → first_of_all (None ∷ None ∷ None ∷ o ∷ []) ≡ o
alone_4 None = refl
alone_4 (Some read) = refl

-- where each form is known
forms : (text : List ℕ) (d x y e : Read) → decimal_reference text ≡ d → hexadecimal_reference (codes "&#x") text ≡ x
    → hexadecimal_reference (codes "&#X") text ≡ y → entity_reference text ≡ e → reference text ≡ first_of_all (d ∷ x ∷ y ∷ e ∷ [])
unfolding reference
forms text d x y e p q r s =
    ap (λ t. first_of_all (t ∷ hexadecimal_reference (codes "&#x") text ∷ hexadecimal_reference (codes "&#X") text ∷ entity_reference text ∷ [])) p
    ∙ ap (λ t. first_of_all (d ∷ t ∷ hexadecimal_reference (codes "&#X") text ∷ entity_reference text ∷ [])) q
    ∙ ap (λ t. first_of_all (d ∷ x ∷ t ∷ entity_reference text ∷ [])) r
    ∙ ap (λ t. first_of_all (d ∷ x ∷ y ∷ t ∷ [])) s

-- a front of which a byte differs
front-differs : (c b : ℕ) (cs bs : List ℕ) (passes : ℕ → Bool) → (b == c) ≡ false → between (c ∷ cs) passes (b ∷ bs) ≡ None
unfolding after_word
front-differs c b cs bs passes h =
    ap (λ t. elim (elim t as (λ _. Option (List ℕ)) [ true ↦ after_word cs bs | false ↦ None ]) as (λ _. Option (List ℕ)) [ None ↦ None | Some rest ↦ before_semicolon passes rest ]) h

no-number : (radix most round : ℕ) (o : Option (List ℕ)) → o ≡ None → numbered radix most round o ≡ None
no-number radix most round o h = ap (λ t. numbered radix most round t) h

hexadecimal-small : (bs : List ℕ) → reference (38 ∷ 35 ∷ 120 ∷ bs) ≡ numbered 16 6 4 (before_semicolon is_ascii_hexdigit bs)
unfolding after_word
hexadecimal-small bs = forms (38 ∷ 35 ∷ 120 ∷ bs) None (numbered 16 6 4 (before_semicolon is_ascii_hexdigit bs)) None None refl refl refl refl
    ∙ alone_2 (numbered 16 6 4 (before_semicolon is_ascii_hexdigit bs))

hexadecimal-great : (bs : List ℕ) → reference (38 ∷ 35 ∷ 88 ∷ bs) ≡ numbered 16 6 4 (before_semicolon is_ascii_hexdigit bs)
unfolding after_word
hexadecimal-great bs = forms (38 ∷ 35 ∷ 88 ∷ bs) None None (numbered 16 6 4 (before_semicolon is_ascii_hexdigit bs)) None refl refl refl refl
    ∙ alone_3 (numbered 16 6 4 (before_semicolon is_ascii_hexdigit bs))

pub reference-small_x : (text : List ℕ) → begins_with 120 text ≡ true → reference (38 ∷ 35 ∷ text) ≡ numbered 16 6 4 (before_semicolon is_ascii_hexdigit (drop 1 text))
reference-small_x text h = ap (λ t. reference (38 ∷ 35 ∷ t)) (begins-cons 120 text h) ∙ hexadecimal-small (drop 1 text)

pub reference-great_x : (text : List ℕ) → begins_with 88 text ≡ true → reference (38 ∷ 35 ∷ text) ≡ numbered 16 6 4 (before_semicolon is_ascii_hexdigit (drop 1 text))
reference-great_x text h = ap (λ t. reference (38 ∷ 35 ∷ t)) (begins-cons 88 text h) ∙ hexadecimal-great (drop 1 text)

pub reference-decimal : (text : List ℕ) → begins_with 120 text ≡ false → begins_with 88 text ≡ false
    → reference (38 ∷ 35 ∷ text) ≡ numbered 10 7 3 (before_semicolon is_ascii_digit text)
unfolding after_word
reference-decimal [] h k = forms (38 ∷ 35 ∷ []) None None None None refl refl refl refl
reference-decimal (b ∷ bs) h k =
    let text = b ∷ bs in
    forms (38 ∷ 35 ∷ text) (numbered 10 7 3 (before_semicolon is_ascii_digit text)) None None None refl
    (no-number 16 6 4 _ (front-differs 120 b [] bs is_ascii_hexdigit h)) (no-number 16 6 4 _ (front-differs 88 b [] bs is_ascii_hexdigit k)) refl
    ∙ alone_1 (numbered 10 7 3 (before_semicolon is_ascii_digit text))

pub reference-named : (text : List ℕ) → begins_with 35 text ≡ false → reference (38 ∷ text) ≡ named (before_semicolon is_ascii_alphanumeric text)
unfolding after_word
reference-named [] h = forms (38 ∷ []) None None None None refl refl refl refl
reference-named (b ∷ bs) h =
    let text = b ∷ bs in
    forms (38 ∷ text) None None None (named (before_semicolon is_ascii_alphanumeric text))
    (no-number 10 7 3 _ (front-differs 35 b [] bs is_ascii_digit h)) (no-number 16 6 4 _ (front-differs 35 b (120 ∷ []) bs is_ascii_hexdigit h))
    (no-number 16 6 4 _ (front-differs 35 b (88 ∷ []) bs is_ascii_hexdigit h)) refl
    ∙ alone_4 (named (before_semicolon is_ascii_alphanumeric text))

-- without an ampersand there is no reference
pub reference-none : (text : List ℕ) → begins_with 38 text ≡ false → reference text ≡ None
unfolding after_word
reference-none [] h = forms [] None None None None refl refl refl refl
reference-none (b ∷ bs) h =
    forms (b ∷ bs) None None None None
    (no-number 10 7 3 _ (front-differs 38 b (35 ∷ []) bs is_ascii_digit h)) (no-number 16 6 4 _ (front-differs 38 b (35 ∷ 120 ∷ []) bs is_ascii_hexdigit h))
    (no-number 16 6 4 _ (front-differs 38 b (35 ∷ 88 ∷ []) bs is_ascii_hexdigit h)) (ap named (front-differs 38 b [] bs is_ascii_alphanumeric h))

-- what is read ends within the text, with a semicolon
abbrev pub EndsWithin : List ℕ → Read → Type 0
EndsWithin text None = Unit {0}
EndsWithin text (Some read) = (1 ≤ read.1) × (read.1 ≤ length text) × (get_or text (read.1 - 1) 0 ≡ 59)

-- a semicolon follows what comes after the given number of bytes
abbrev Inside : ℕ → List ℕ → Option (List ℕ) → Type 0
Inside n text None = Unit {0}
Inside n text (Some content) = (n + length content < length text) × (get_or text (n + length content) 0 ≡ 59)

begins-at : (n : ℕ) (text : List ℕ) → begins_with 59 (drop n text) ≡ true → (n < length text) × (get_or text n 0 ≡ 59)
begins-at n [] h = absurd (none n h) where
  none : (n : ℕ) → begins_with 59 (drop {A = ℕ} n []) ≡ true → ⊥
  none zero h = cc
  none (suc n) h = cc
begins-at zero (b ∷ bs) h = (omega arith, grind (arith, nat_tests, h))
begins-at (suc n) (b ∷ bs) h = let rest = begins-at n bs h in (omega (arith, rest.0), rest.1)

inside-choice : (n : ℕ) (text : List ℕ) (semicolon : Bool) → begins_with 59 (drop n text) ≡ semicolon
    → Inside 0 text (if semicolon then Some (take n text) else None)
inside-choice n text true h =
    let at = begins-at n text h in
    let long : 0 + length (take n text) ≡ n = simp length-take (omega (arith, at.0)) in
    rw long at
inside-choice n text false h = tt

inside-more : (n b : ℕ) (bs : List ℕ) (o : Option (List ℕ)) → Inside n bs o → Inside (suc n) (b ∷ bs) o
inside-more n b bs None h = tt
inside-more n b bs (Some content) h =
    let long : suc n + length content ≡ suc (n + length content) = omega arith in
    rw long (omega (arith, h.0), h.1)

inside-step : (passes : ℕ → Bool) (b : ℕ) (cs bs : List ℕ) (same : Bool) → Inside (length cs) bs (between cs passes bs)
    → Inside (suc (length cs)) (b ∷ bs) (elim (elim same as (λ _. Option (List ℕ)) [ true ↦ after_word cs bs | false ↦ None ]) as (λ _. Option (List ℕ)) [ None ↦ None | Some rest ↦ before_semicolon passes rest ])
inside-step passes b cs bs true h = inside-more (length cs) b bs (between cs passes bs) h
inside-step passes b cs bs false h = tt

inside : (passes : ℕ → Bool) (front text : List ℕ) → Inside (length front) text (between front passes text)
unfolding after_word
inside passes [] text = inside-choice (prefix_len passes text) text (begins_with 59 (drop (prefix_len passes text) text)) refl
inside passes (c ∷ cs) [] = tt
inside passes (c ∷ cs) (b ∷ bs) = inside-step passes b cs bs (b == c) (inside passes cs bs)

one-after : (n k : ℕ) (text : List ℕ) → (n + k < length text) × (get_or text (n + k) 0 ≡ 59)
    → (1 ≤ suc n + k) × (suc n + k ≤ length text) × (get_or text (suc n + k - 1) 0 ≡ 59)
one-after n k text h =
    let less : suc n + k - 1 ≡ n + k = omega arith in
    (omega arith, omega (arith, h.0), rw less h.1)

ends-if : (n : ℕ) (text characters content : List ℕ) (fits : Bool) → Inside n text (Some content)
    → EndsWithin text (if fits then Some (characters, suc n + length content) else None)
ends-if n text characters content true h = one-after n (length content) text h
ends-if n text characters content false h = tt

ends-numbered : (radix most n : ℕ) (text : List ℕ) (o : Option (List ℕ)) → Inside n text o → EndsWithin text (numbered radix most (suc n) o)
ends-numbered radix most n text None h = tt
ends-numbered radix most n text (Some digits) h =
    ends-if n text (numbered_character (digits_value radix digits) ∷ []) digits (is_in_range 1 most (length digits)) h

ends-entry : (text name : List ℕ) (found : Option (List ℕ)) → Inside 1 text (Some name)
    → EndsWithin text (elim found as (λ _. Read) [ None ↦ None | Some characters ↦ Some (characters, 2 + length name) ])
ends-entry text name None h = tt
ends-entry text name (Some characters) h = one-after 1 (length name) text h

ends-named : (text : List ℕ) (o : Option (List ℕ)) → Inside 1 text o → EndsWithin text (named o)
ends-named text None h = tt
ends-named text (Some name) h = ends-entry text name (entry names name) h

ends-first : (text : List ℕ) (d x y e : Read) → EndsWithin text d → EndsWithin text x → EndsWithin text y → EndsWithin text e
    → EndsWithin text (first_of_all (d ∷ x ∷ y ∷ e ∷ []))
ends-first text (Some d) x y e p q r s = p
ends-first text None (Some x) y e p q r s = q
ends-first text None None (Some y) e p q r s = r
ends-first text None None None (Some e) p q r s = s
ends-first text None None None None p q r s = tt

pub reference-ends : (text : List ℕ) → EndsWithin text (reference text)
unfolding reference
reference-ends text =
    ends-first text (decimal_reference text) (hexadecimal_reference (codes "&#x") text) (hexadecimal_reference (codes "&#X") text) (entity_reference text)
    (ends-numbered 10 7 2 text _ (inside is_ascii_digit (codes "&#") text)) (ends-numbered 16 6 3 text _ (inside is_ascii_hexdigit (codes "&#x") text))
    (ends-numbered 16 6 3 text _ (inside is_ascii_hexdigit (codes "&#X") text)) (ends-named text _ (inside is_ascii_alphanumeric (codes "&") text))

-- the text from a place on, as a slice gives it
pub slice_rest : (n : ℕ) (text : List ℕ) → take (length text - n) (drop n text) ≡ drop n text
slice_rest n text = take_all (length text - n) (drop n text) (simp length-drop (omega arith))

-- a reference that is read at a place ends within the text, with a semicolon
pub read-within : (text given : List ℕ) (place len : ℕ) (characters : List ℕ) → given ≡ text → place ≤ length text
    → Some (characters, len) ≡ reference (take (length given - place) (drop place given))
    → (place + len ≤ length text) × (1 ≤ len) × (get_or text (place + len - 1) 0 ≡ 59)
read-within text given place len characters same within e =
    let read : Some (characters, len) ≡ reference (drop place text) = e ∙ ap reference (slice_rest place given ∙ ap (λ t. drop place t) same) in
    let ends : EndsWithin (drop place text) (Some (characters, len)) = subst (λ o. EndsWithin (drop place text) o) (sym read) (reference-ends (drop place text)) in
    let long : length (drop place text) ≡ length text - place = length-drop place text in
    let last : get_or text (place + (len - 1)) 0 ≡ 59 = sym (get_or-drop place text (len - 1) 0) ∙ ends.2 in
    let at : place + len - 1 ≡ place + (len - 1) = omega (arith, ends.0) in
    (omega (arith, ends.0, ends.1, long), ends.0, rw at last)

-- so a character starts after it
pub boundary-after : (text : List ℕ) (place len : ℕ) → IsUtf8 text → (place + len ≤ length text) × (1 ≤ len) × (get_or text (place + len - 1) 0 ≡ 59)
    → IsCharBoundary text (place + len)
boundary-after text place len utf8 read =
    let after : IsCharBoundary text (place + len - 1 + 1) = IsCharBoundary-after_ascii text (place + len - 1) utf8 (omega (arith, read.0, read.1)) (omega (arith, read.2)) in
    let next : place + len - 1 + 1 ≡ place + len = omega (arith, read.1) in
    subst (λ n. IsCharBoundary text n) next after
