-- A text with its escapes and references resolved is no longer than the text.
use Rattle.std.proofs.Common.{◌≡◌, ℕ, zero, suc, ◌+◌, ◌-◌, ◌≤◌, ◌<◌, ◌==◌, Bool, true, false, List, [], ◌∷◌, ◌++◌, length, drop, map, refl, sym, ap, subst, ◌∙◌, arith, le_refl, Option, Some, None, length-append, encode_utf8, encode_utf8_all}
use Rattle.std.specs.Prelude.{⊤, ◌&&◌, ◌||◌, nat_le, codes, if◌then◌else◌}
use Rattle.std.specs.Char.{is_ascii_digit, is_ascii_hexdigit, is_ascii_alphanumeric}
use Rattle.std.specs.List.{list_all}
use Rattle.std.specs.Str.{bytes_eq}
use Rattle.std.specs.Str.Parse.{digits_value}
use Rattle.std.specs.Int.{is_in_range}
use Rattle.std.proofs.lemmas.Bool.Decides.{nat_tests}
use Rattle.std.proofs.lemmas.List.{length-map}
use Rattle.std.proofs.lemmas.Slice.Eq.{bytes_eq-Decides}
use Rattle.std.proofs.lemmas.Str.{length-encode, len_utf8_bounds, encode_ascii}
use Rattle.cm_text.specs.Rules.{Rules}
use Rattle.cm_text.specs.Characters.{is_ascii_punct}
use Rattle.cm_text.specs.NamedReferences.{names}
use Rattle.cm_text.specs.References.{between, numbered, numbered_character, decimal_reference, hexadecimal_reference, entry, named, entity_reference, first_of_all, reference}
use Rattle.cm_text.specs.Unescaping.{escape, special, unescape_after, unescape}
use Rattle.cm_text.proofs.lemmas.UnescapingLemmas.{EndsInAscii, special-ends}
use Rattle.cm_scan.specs.blocks.Parts.{as_space, info_of}

-- what is read has no more bytes than it took
abbrev NoLonger : Option (List ℕ × ℕ) → Type 0
NoLonger None = ⊤
NoLonger (Some read) = length (encode_utf8_all read.0) ≤ read.1

one-character : (c : ℕ) → length (encode_utf8_all (c ∷ [])) ≤ 4
one-character c = omega (arith, length-append (encode_utf8 c) [], length-encode c, (len_utf8_bounds c).1)

-- an escape is two bytes, and stands for one

punct_low : (c : ℕ) → is_ascii_punct c ≡ true → c < 128
punct_low c h = grind (arith, nat_tests, h)

right_of : (a b : Bool) → (a && b) ≡ true → b ≡ true
right_of true b h = h
right_of false b h = absurd (cc)

escape-choice : (b c : ℕ) (escaped : Bool) → (b == 92 && is_ascii_punct c) ≡ escaped → NoLonger (if escaped then Some (c ∷ [], 2) else None)
escape-choice b c true h = omega (arith, ap length (ap (λ t. t ++ []) (encode_ascii c (punct_low c (right_of (b == 92) (is_ascii_punct c) h)))))
escape-choice b c false h = tt

escape-short : (text : List ℕ) → NoLonger (escape text)
escape-short [] = tt
escape-short (b ∷ []) = tt
escape-short (b ∷ c ∷ rest) = escape-choice b c (b == 92 && is_ascii_punct c) refl

-- a numeric reference has at least four bytes, and stands for one character

numbered-short : (radix most round : ℕ) → 3 ≤ round → (digits : Option (List ℕ)) → NoLonger (numbered radix most round digits)
numbered-short radix most round h None = tt
numbered-short radix most round h (Some digits) = go (is_in_range 1 most (length digits)) refl
  where
    go : (fits : Bool) → is_in_range 1 most (length digits) ≡ fits
        → NoLonger (if fits then Some (numbered_character (digits_value radix digits) ∷ [], round + length digits) else None)
    go true e =
        let some : 1 ≤ length digits = grind (arith, nat_tests, e) in
        omega (arith, h, some, one-character (numbered_character (digits_value radix digits)))
    go false e = tt

-- a name is no shorter than its characters

abbrev fits_entry : List ℕ × List ℕ → Bool
fits_entry e = nat_le (length (encode_utf8_all e.1)) (2 + length e.0)

all-names : list_all fits_entry names ≡ true
unfolding names lib.Utf8.encode
all-names = refl

left_of : (a b : Bool) → (a && b) ≡ true → a ≡ true
left_of true b h = refl
left_of false b h = absurd (cc)

entry-short : (es : List (List ℕ × List ℕ)) (name : List ℕ) → list_all fits_entry es ≡ true
    → NoLonger (elim (entry es name) [ None ↦ None | Some characters ↦ Some (characters, 2 + length name) ])
entry-short [] name h = tt
entry-short (e ∷ es) name h = go (entry-short es name (right_of (fits_entry e) (list_all fits_entry es) h)) (bytes_eq e.0 name) refl
  where
    reading : Option (List ℕ) → Option (List ℕ × ℕ)
    reading found = elim found [ None ↦ None | Some characters ↦ Some (characters, 2 + length name) ]

    go : NoLonger (reading (entry es name)) → (same : Bool) → bytes_eq e.0 name ≡ same → NoLonger (reading (elim same [ true ↦ Some e.1 | false ↦ entry es name ]))
    go rest true is =
        let alike : e.0 ≡ name = (bytes_eq-Decides e.0 name).0 is in
        let fits : length (encode_utf8_all e.1) ≤ 2 + length e.0 = grind (arith, nat_tests, left_of (fits_entry e) (list_all fits_entry es) h) in
        omega (arith, fits, ap length alike)
    go rest false is = rest

named-short : (name : Option (List ℕ)) → NoLonger (named name)
named-short None = tt
named-short (Some name) = entry-short names name all-names

first-short : (d x y e : Option (List ℕ × ℕ)) → NoLonger d → NoLonger x → NoLonger y → NoLonger e → NoLonger (first_of_all (d ∷ x ∷ y ∷ e ∷ []))
first-short (Some d) x y e p q r s = p
first-short None (Some x) y e p q r s = q
first-short None None (Some y) e p q r s = r
first-short None None None (Some e) p q r s = s
first-short None None None None p q r s = tt

reference-short : (text : List ℕ) → NoLonger (reference text)
unfolding reference
reference-short text =
    first-short (decimal_reference text) (hexadecimal_reference (codes "&#x") text) (hexadecimal_reference (codes "&#X") text) (entity_reference text)
    (numbered-short 10 7 3 (omega arith) (between (codes "&#") is_ascii_digit text)) (numbered-short 16 6 4 (omega arith) (between (codes "&#x") is_ascii_hexdigit text))
    (numbered-short 16 6 4 (omega arith) (between (codes "&#X") is_ascii_hexdigit text)) (named-short (between (codes "&") is_ascii_alphanumeric text))

either-short : (e r : Option (List ℕ × ℕ)) → NoLonger e → NoLonger r → NoLonger (first_of_all (e ∷ r ∷ []))
either-short (Some e) r p q = p
either-short None (Some r) p q = q
either-short None None p q = tt

special-short : (text : List ℕ) → NoLonger (special text)
unfolding special
special-short text = either-short (escape text) (reference text) (escape-short text) (reference-short text)

-- what is left to resolve after the given number of bytes

after-length : (n : ℕ) (text : List ℕ) → length (unescape_after n text) ≤ length text - n
unfolding unescape_after
after-length n [] = omega arith
after-length (suc n) (b ∷ bs) = omega (arith, after-length n bs)
after-length zero (b ∷ bs) = go (special (b ∷ bs)) (special-short (b ∷ bs)) (special-ends (b ∷ bs)) (λ n. after-length n bs)
  where
    go : (found : Option (List ℕ × ℕ)) → NoLonger found → EndsInAscii (b ∷ bs) found → ((n : ℕ) → length (unescape_after n bs) ≤ length bs - n)
        → length (elim found as (λ _. List ℕ) [ None ↦ b ∷ unescape_after 0 bs | Some read ↦ encode_utf8_all read.0 ++ unescape_after (read.1 - 1) bs ]) ≤ length (b ∷ bs) - 0
    go None h e more = omega (arith, more 0)
    go (Some read) h e more =
        omega (arith, length-append (encode_utf8_all read.0) (unescape_after (read.1 - 1) bs), h, e.0, e.1, more (read.1 - 1))

pub unescaped-length : (text : List ℕ) → length (unescape text) ≤ length text
unescaped-length text = omega (arith, after-length 0 text)

pub resolved-info : (rules : Rules) (source : List ℕ) → length (info_of rules source) ≤ length source
unfolding info_of
resolved-info rules source = go rules.raw_html
  where
    go : (raw : Bool) → length (if raw then unescape source else map as_space (unescape source)) ≤ length source
    go true = unescaped-length source
    go false = simp length-map (unescaped-length source)
