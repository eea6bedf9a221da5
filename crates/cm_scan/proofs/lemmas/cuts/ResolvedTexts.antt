-- Texts with their escapes and references resolved, character by character.
use Rattle.std.proofs.Common.{◌≡◌, ℕ, zero, suc, ◌+◌, ◌≤◌, Bool, true, false, ◌&&◌, ◌==◌, replicate, List, [], ◌∷◌, ◌++◌, length, drop, Option, Some, None, codes, encode_utf8_all, if◌then◌else◌, refl, sym, ap, ◌∙◌, arith, append_assoc, append-nil, length-append, length-drop}
use Rattle.std.specs.Prelude.{nat_le}
use Rattle.std.specs.Char.{encode_utf8}
use Rattle.std.specs.List.{list_all}
use Rattle.std.specs.Str.{bytes_eq}
use Rattle.std.specs.Str.Parse.{digits_value}
use Rattle.std.specs.Int.{is_in_range}
use Rattle.std.proofs.lemmas.Bool.{and_parts}
use Rattle.std.proofs.lemmas.Bool.Decides.{nat_tests}
use Rattle.std.proofs.lemmas.List.{append_cancel_left}
use Rattle.std.proofs.lemmas.Option.{same_Some}
use Rattle.cm_text.specs.Characters.{is_ascii_punct}
use Rattle.cm_text.specs.NamedReferences.{names}
use Rattle.cm_text.specs.References.{numbered, numbered_character, entry, named, between, decimal_reference, hexadecimal_reference, entity_reference, first_of_all, reference}
use Rattle.cm_text.specs.Unescaping.{escape, special}
use Rattle.cm_text.proofs.lemmas.UnescapingLemmas.{EndsInAscii, special-ends, special-none}
use Rattle.cm_scan.specs.inlines.Pairing.{bracket_text}
use Rattle.cm_scan.proofs.lemmas.texts.WordsGoOn.{none-some}
use Rattle.cm_scan.specs.inlines.Cuts.{first_resolved, resolved, IsTextOf}
use Rattle.cm_scan.specs.laws.CutLaws.{is_itself}

-- nothing is resolved to nothing

abbrev pub IsSome : List ℕ → Type 0
IsSome t = t ≡ [] → ⊥

some-byte : (b : ℕ) (bs : List ℕ) → IsSome (b ∷ bs)
some-byte b bs e = cc e

some-front : (s t : List ℕ) → IsSome s → IsSome (s ++ t)
some-front [] t h e = h refl
some-front (b ∷ bs) t h e = some-byte b (bs ++ t) e

some-length : (t : List ℕ) → 1 ≤ length t → IsSome t
some-length [] h e = absurd (omega (arith, h))
some-length (b ∷ bs) h e = some-byte b bs e

utf8-length : (c : ℕ) → 1 ≤ length (encode_utf8 c)
unfolding encode_utf8
utf8-length c = grind arith

some-characters : (characters : List ℕ) → IsSome characters → IsSome (encode_utf8_all characters)
some-characters [] h e = h refl
some-characters (c ∷ cs) h e = some-front (encode_utf8 c) (encode_utf8_all cs) (some-length (encode_utf8 c) (utf8-length c)) e

abbrev Found : Type 0
Found = Option (List ℕ × ℕ)

-- what was found has a character
abbrev HasOne : Found → Type 0
HasOne o = (found : List ℕ × ℕ) → o ≡ Some found → IsSome found.0

one-of : (characters : List ℕ) (n : ℕ) → IsSome characters → HasOne (Some (characters, n))
one-of characters n some found e = λ h. some (ap (λ (p : List ℕ × ℕ). p.0) (same_Some (characters, n) found e) ∙ h)

none-one : HasOne None
none-one found e = none-some e

first-one : (o p : Found) → HasOne o → HasOne p → HasOne (first_of_all (o ∷ p ∷ []))
first-one None None h k = none-one
first-one None (Some found) h k = k
first-one (Some found) p h k = h

first-two : (o p : Found) (others : List Found) → HasOne o → HasOne (first_of_all (p ∷ others)) → HasOne (first_of_all (o ∷ p ∷ others))
first-two None p others h k = k
first-two (Some found) p others h k = h

escape-one : (text : List ℕ) → HasOne (escape text)
escape-one [] = none-one
escape-one (b ∷ []) = none-one
escape-one (b ∷ c ∷ rest) = go (b == 92 && is_ascii_punct c)
  where
    go : (v : Bool) → HasOne (if v then Some (c ∷ [], 2) else None)
    go true = one-of (c ∷ []) 2 (some-byte c [])
    go false = none-one

numbered-one : (radix most round : ℕ) (o : Option (List ℕ)) → HasOne (numbered radix most round o)
numbered-one radix most round None = none-one
numbered-one radix most round (Some digits) = go (is_in_range 1 most (length digits))
  where
    go : (v : Bool) → HasOne (if v then Some (numbered_character (digits_value radix digits) ∷ [], round + length digits) else None)
    go true = one-of _ _ (some-byte (numbered_character (digits_value radix digits)) [])
    go false = none-one

abbrev has_text : List ℕ × List ℕ → Bool
has_text e = nat_le 1 (length e.1)

all-names : list_all has_text names ≡ true
unfolding names
all-names = refl

entry-one : (es : List (List ℕ × List ℕ)) (name : List ℕ) (n : ℕ) → list_all has_text es ≡ true
    → HasOne (elim (entry es name) [ None ↦ None | Some characters ↦ Some (characters, n) ])
entry-one [] name n h = none-one
entry-one (e ∷ es) name n h = go (bytes_eq e.0 name) (entry-one es name n both.1)
  where
    both : (has_text e ≡ true) × (list_all has_text es ≡ true)
    both = and_parts (has_text e) (list_all has_text es) h

    some : 1 ≤ length e.1
    some = grind (arith, nat_tests, both.0)

    reading : Option (List ℕ) → Found
    reading found = elim found [ None ↦ None | Some characters ↦ Some (characters, n) ]

    go : (same : Bool) → HasOne (reading (entry es name))
        → HasOne (reading (elim same as (λ _. Option (List ℕ)) [ true ↦ Some e.1 | false ↦ entry es name ]))
    go true k = one-of e.1 n (some-length e.1 some)
    go false k = k

named-one : (o : Option (List ℕ)) → HasOne (named o)
named-one None = none-one
named-one (Some name) = entry-one names name (2 + length name) all-names

reference-one : (text : List ℕ) → HasOne (reference text)
unfolding reference
reference-one text =
    first-two (decimal_reference text) _ _ (numbered-one 10 7 3 (between (codes "&#") _ text))
    (first-two (hexadecimal_reference (codes "&#x") text) _ _ (numbered-one 16 6 4 (between (codes "&#x") _ text))
    (first-one (hexadecimal_reference (codes "&#X") text) (entity_reference text) (numbered-one 16 6 4 (between (codes "&#X") _ text))
    (named-one (between (codes "&") _ text))))

first-some : (b : ℕ) (bs : List ℕ) → IsSome (first_resolved b bs).0
unfolding special
first-some b bs = go (special (b ∷ bs)) (first-one (escape (b ∷ bs)) (reference (b ∷ bs)) (escape-one (b ∷ bs)) (reference-one (b ∷ bs)))
  where
    go : (o : Found) → HasOne o
        → IsSome (elim o as (λ _. List ℕ × List ℕ) [
          | Some found ↦ (encode_utf8_all found.0, drop found.1 (b ∷ bs))
          | None ↦ (b ∷ [], bs)
        ]).0
    go None h = some-byte b []
    go (Some found) h = some-characters found.0 (h found refl)

-- a text says where it ends

abbrev pub taken_from : ℕ → List ℕ → List ℕ
taken_from n s = (resolved n s).0

abbrev pub left_of : ℕ → List ℕ → List ℕ
left_of n s = (resolved n s).1

pub same-end : (n m : ℕ) (s : List ℕ) → taken_from n s ≡ taken_from m s → left_of n s ≡ left_of m s
unfolding resolved
same-end zero zero s e = refl
same-end zero (suc m) [] e = refl
same-end zero (suc m) (b ∷ bs) e =
    absurd (some-front (first_resolved b bs).0 (taken_from m (first_resolved b bs).1) (first-some b bs) (sym e))
same-end (suc n) zero [] e = refl
same-end (suc n) zero (b ∷ bs) e = absurd (some-front (first_resolved b bs).0 (taken_from n (first_resolved b bs).1) (first-some b bs) e)
same-end (suc n) (suc m) [] e = refl
same-end (suc n) (suc m) (b ∷ bs) e =
    let first = first_resolved b bs in same-end n m first.1 (append_cancel_left first.0 (taken_from n first.1) (taken_from m first.1) e)

-- no text comes from no source alone
pub nothing-written : (s after : List ℕ) → IsTextOf [] s after → s ≡ []
unfolding resolved
nothing-written [] after w = refl
nothing-written (b ∷ bs) after (zero, e) = absurd (longer (b ∷ bs) after (omega arith) (ap (λ (p : List ℕ × List ℕ). p.1) e))
  where
    longer : (s t : List ℕ) → 1 ≤ length s → s ++ t ≡ t → ⊥
    longer s t h e = absurd (omega (arith, h, ap length e, length-append s t))
nothing-written (b ∷ bs) after (suc n, e) =
    let first = first_resolved b (bs ++ after) in
    absurd (some-front first.0 (taken_from n first.1) (first-some b (bs ++ after)) (ap (λ (p : List ℕ × List ℕ). p.0) e))

-- one text after another

resolved-more : (n m : ℕ) (s : List ℕ) → (k : ℕ) × (resolved k s ≡ (taken_from n s ++ taken_from m (left_of n s), left_of m (left_of n s)))
unfolding resolved
resolved-more zero m s = (m, refl)
resolved-more (suc n) m [] = (m, refl)
resolved-more (suc n) m (b ∷ bs) =
    let first = first_resolved b bs in
    let more = resolved-more n m first.1 in (
      suc more.0,
      ap (λ (p : List ℕ × List ℕ). (first.0 ++ p.0, p.1)) more.1
          ∙ ap (λ t. (t, left_of m (left_of n first.1)))
          (sym (append_assoc first.0 (taken_from n first.1) (taken_from m (left_of n first.1)))),
    )

pub texts-joined : (t s u r after : List ℕ) → IsTextOf t s (r ++ after) → IsTextOf u r after → IsTextOf (t ++ u) (s ++ r) after
texts-joined t s u r after (n, e) (m, f) =
    let more = resolved-more n m (s ++ (r ++ after)) in (
      more.0,
      ap (resolved more.0) (append_assoc s r after) ∙ more.1
          ∙ ap (λ (p : List ℕ × List ℕ). (p.0 ++ taken_from m p.1, left_of m p.1)) e
          ∙ ap (λ (p : List ℕ × List ℕ). (t ++ p.0, p.1)) f,
    )

-- characters as they are

first-itself : (b : ℕ) (bs : List ℕ) → special (b ∷ bs) ≡ None → first_resolved b bs ≡ (b ∷ [], bs)
first-itself b bs e =
    ap (λ o. elim o as (λ _. List ℕ × List ℕ) [ Some found ↦ (encode_utf8_all found.0, drop found.1 (b ∷ bs)) | None ↦ (b ∷ [], bs) ]) e

pub byte-itself : (b : ℕ) (bs : List ℕ) → special (b ∷ bs) ≡ None → IsTextOf (b ∷ []) (b ∷ []) bs
unfolding resolved
byte-itself b bs e = (1, ap (λ (p : List ℕ × List ℕ). (p.0 ++ [], p.1)) (first-itself b bs e))

pub plain-byte : (b : ℕ) (bs : List ℕ) → is_itself b ≡ true → special (b ∷ bs) ≡ None
plain-byte b bs h = special-none b bs (grind (arith, nat_tests, h)) (grind (arith, nat_tests, h))

pub text-itself : (t after : List ℕ) → list_all is_itself t ≡ true → IsTextOf t t after
unfolding resolved
text-itself [] after h = (0, refl)
text-itself (b ∷ bs) after h =
    let parts = and_parts (is_itself b) (list_all is_itself bs) h in
    texts-joined (b ∷ []) (b ∷ []) bs bs after (byte-itself b (bs ++ after) (plain-byte b (bs ++ after) parts.0))
    (text-itself bs after parts.1)

pub run-itself : (n b : ℕ) (after : List ℕ) → is_itself b ≡ true → IsTextOf (replicate n b) (replicate n b) after
run-itself n b after h = text-itself (replicate n b) after (go n)
  where
    go : (n : ℕ) → list_all is_itself (replicate n b) ≡ true
    go zero = refl
    go (suc n) = ap (λ v. v && list_all is_itself (replicate n b)) h ∙ go n

pub bracket-itself : (image : Bool) (after : List ℕ) → IsTextOf (bracket_text image) (bracket_text image) after
bracket-itself true after = text-itself (bracket_text true) after refl
bracket-itself false after = text-itself (bracket_text false) after refl

-- what is resolved at the start
pub special-text : (b : ℕ) (taken rest characters : List ℕ) (len : ℕ) → special (b ∷ (taken ++ rest)) ≡ Some (characters, len)
    → drop len (b ∷ (taken ++ rest)) ≡ rest
    → IsTextOf (encode_utf8_all characters) (b ∷ taken) rest
unfolding resolved
special-text b taken rest characters len e left = (
  1,
  ap made e ∙ ap (λ t. (t, drop len (b ∷ (taken ++ rest)))) (append-nil (encode_utf8_all characters))
      ∙ ap (λ t. (encode_utf8_all characters, t)) left,
)
  where
    made : Found → List ℕ × List ℕ
    made o =
        let first = elim o as (λ _. List ℕ × List ℕ)
        [ Some found ↦ (encode_utf8_all found.0, drop found.1 (b ∷ (taken ++ rest))) | None ↦ (b ∷ [], taken ++ rest) ] in
        (first.0 ++ [], first.1)

-- what is left is shorter

first-shorter : (b : ℕ) (bs : List ℕ) → length (first_resolved b bs).1 ≤ length bs
first-shorter b bs = go (special (b ∷ bs)) (special-ends (b ∷ bs))
  where
    go : (o : Found) → EndsInAscii (b ∷ bs) o
        → length (elim o as (λ _. List ℕ × List ℕ) [
          | Some found ↦ (encode_utf8_all found.0, drop found.1 (b ∷ bs))
          | None ↦ (b ∷ [], bs)
        ]).1 ≤ length bs
    go None ends = omega arith
    go (Some found) ends = omega (arith, ends.0, length-drop found.1 (b ∷ bs))

left-shorter : (n : ℕ) (s : List ℕ) → length (left_of n s) ≤ length s
unfolding resolved
left-shorter zero s = omega arith
left-shorter (suc n) [] = omega arith
left-shorter (suc n) (b ∷ bs) = omega (arith, left-shorter n (first_resolved b bs).1, first-shorter b bs)

-- a text in which nothing is resolved is its source
plain-by : (n : ℕ) (source text after : List ℕ) → resolved n (source ++ after) ≡ (text, after) → list_all is_itself source ≡ true
    → text ≡ source
unfolding resolved
plain-by zero [] text after e h = sym (ap (λ (p : List ℕ × List ℕ). p.0) e)
plain-by zero (c ∷ cs) text after e h = absurd (omega (arith, ap (λ (p : List ℕ × List ℕ). length p.1) e, length-append cs after))
plain-by (suc n) [] text [] e h = sym (ap (λ (p : List ℕ × List ℕ). p.0) e)
plain-by (suc n) [] text (b ∷ bs) e h =
    absurd (omega (arith, ap (λ (p : List ℕ × List ℕ). length p.1) e, left-shorter n (first_resolved b bs).1, first-shorter b bs))
plain-by (suc n) (c ∷ cs) text after e h =
    let parts = and_parts (is_itself c) (list_all is_itself cs) h in
    let first = first-itself c (cs ++ after) (plain-byte c (cs ++ after) parts.0) in
    let whole : (c ∷ taken_from n (cs ++ after), left_of n (cs ++ after)) ≡ (text, after) =
    ap (λ (p : List ℕ × List ℕ). (p.0 ++ taken_from n p.1, left_of n p.1)) (sym first) ∙ e in
    let others = plain-by n cs (taken_from n (cs ++ after)) after
    (ap (λ t. (taken_from n (cs ++ after), t)) (ap (λ (p : List ℕ × List ℕ). p.1) whole)) parts.1 in
    sym (ap (λ (p : List ℕ × List ℕ). p.0) whole) ∙ ap (λ t. c ∷ t) others

pub plain-text : (source text after : List ℕ) → IsTextOf text source after → list_all is_itself source ≡ true → text ≡ source
plain-text source text after (n, e) h = plain-by n source text after e h
