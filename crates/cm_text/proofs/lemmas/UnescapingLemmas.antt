-- Escapes and references resolved: what is read at the start of a text, and the text after it.
use Rattle.std.proofs.Common.{◌≡◌, ℕ, zero, suc, ◌+◌, ◌-◌, ◌<◌, ◌≤◌, Bool, true, false, ◌==◌, ◌&&◌, if◌then◌else◌, List, [], ◌∷◌, ◌++◌, length, take, drop, get_or, Option, Some, None, encode_utf8_all, refl, sym, ap, subst, ◌∙◌, arith, append_assoc, drop-drop}
use Rattle.std.proofs.lemmas.Bool.Decides.{nat_tests}
use Rattle.std.proofs.lemmas.List.{take_all, append-nil}
use Rattle.std.proofs.Math.Seq.{drop-length}
use Rattle.std.specs.Str.{IsCharBoundary, IsUtf8}
use Rattle.std.proofs.lemmas.Str.{IsCharBoundary-after_ascii}
use Rattle.memchr.specs.Find.{IsFirstByte, is_byte2}
use Rattle.cm_text.specs.Characters.{is_ascii_punct}
use Rattle.cm_text.specs.References.{first_of_all, reference}
use Rattle.cm_text.specs.Unescaping.{escape, special, unescape_after, unescape}
use Rattle.cm_text.proofs.lemmas.CutLemmas.{slice_from_start}
use Rattle.cm_text.proofs.lemmas.ReferenceLemmas.{EndsWithin, reference-ends, reference-none}

abbrev Read : Type 0
Read = Option (List ℕ × ℕ)

only : (o : Read) → first_of_all (o ∷ []) ≡ o
only None = refl
only (Some read) = refl

-- an escape goes before a reference
pub special-escape : (text characters : List ℕ) (len : ℕ) → Some (characters, len) ≡ escape text → Some (characters, len) ≡ special text
unfolding special
special-escape text characters len h = ap (λ o. first_of_all (o ∷ reference text ∷ [])) h

pub special-reference : (text : List ℕ) → None ≡ escape text → special text ≡ reference text
unfolding special
special-reference text h = ap (λ o. first_of_all (o ∷ reference text ∷ [])) (sym h) ∙ only (reference text)

-- what is read ends within the text, with an ASCII character
abbrev pub EndsInAscii : List ℕ → Read → Type 0
EndsInAscii text None = Unit {0}
EndsInAscii text (Some read) = (1 ≤ read.1) × (read.1 ≤ length text) × (get_or text (read.1 - 1) 0 < 128)

punct_ascii : (c : ℕ) → is_ascii_punct c ≡ true → c < 128
punct_ascii c h = grind (arith, nat_tests, h)

right_of : (a b : Bool) → (a && b) ≡ true → b ≡ true
right_of true b h = h
right_of false b h = absurd (cc)

escape-choice : (b c : ℕ) (rest : List ℕ) (escaped : Bool) → (b == 92 && is_ascii_punct c) ≡ escaped
    → EndsInAscii (b ∷ c ∷ rest) (if escaped then Some (c ∷ [], 2) else None)
escape-choice b c rest true h = (omega arith, omega arith, punct_ascii c (right_of (b == 92) (is_ascii_punct c) h))
escape-choice b c rest false h = tt

escape-ends : (text : List ℕ) → EndsInAscii text (escape text)
escape-ends [] = tt
escape-ends (b ∷ []) = tt
escape-ends (b ∷ c ∷ rest) = escape-choice b c rest (b == 92 && is_ascii_punct c) refl

ends-either : (text : List ℕ) (e r : Read) → EndsInAscii text e → EndsWithin text r → EndsInAscii text (first_of_all (e ∷ r ∷ []))
ends-either text (Some e) r p q = p
ends-either text None (Some r) p q = (q.0, q.1, omega (arith, q.2))
ends-either text None None p q = tt

pub special-ends : (text : List ℕ) → EndsInAscii text (special text)
unfolding special
special-ends text = ends-either text (escape text) (reference text) (escape-ends text) (reference-ends text)

pub special-within : (text given characters : List ℕ) (len : ℕ) → given ≡ text → Some (characters, len) ≡ special given
    → (1 ≤ len) × (len ≤ length text) × (get_or text (len - 1) 0 < 128)
special-within text given characters len same h =
    subst (λ o. EndsInAscii text o) (sym (h ∙ ap special same)) (special-ends text)

pub boundary-at : (text : List ℕ) (len : ℕ) → IsUtf8 text → (1 ≤ len) × (len ≤ length text) × (get_or text (len - 1) 0 < 128) → IsCharBoundary text len
boundary-at text len utf8 read =
    let after : IsCharBoundary text (len - 1 + 1) = IsCharBoundary-after_ascii text (len - 1) utf8 (omega (arith, read.0, read.1)) read.2 in
    let next : len - 1 + 1 ≡ len = omega (arith, read.0) in
    subst (λ n. IsCharBoundary text n) next after

-- bytes that belong to what was read are skipped
pub unescape-skip : (n : ℕ) (text : List ℕ) → unescape_after n text ≡ unescape (drop n text)
unfolding unescape_after
unescape-skip zero [] = refl
unescape-skip zero (b ∷ bs) = refl
unescape-skip (suc n) [] = refl
unescape-skip (suc n) (b ∷ bs) = unescape-skip n bs

next-front : (b : ℕ) (bs : List ℕ) (o : Read) → special (b ∷ bs) ≡ o
    → unescape (b ∷ bs) ≡ elim o as (λ _. List ℕ) [ None ↦ b ∷ unescape_after 0 bs | Some read ↦ encode_utf8_all read.0 ++ unescape_after (read.1 - 1) bs ]
unfolding unescape_after
next-front b bs o h = ap (λ t. elim t as (λ _. List ℕ) [ None ↦ b ∷ unescape_after 0 bs | Some read ↦ encode_utf8_all read.0 ++ unescape_after (read.1 - 1) bs ]) h

-- an escape or reference at the start gives its characters
pub unescape-special : (text characters : List ℕ) (len : ℕ) → special text ≡ Some (characters, len)
    → unescape text ≡ encode_utf8_all characters ++ unescape (drop len text)
unescape-special text characters len h = from_front text len h (special-within text text characters len refl (sym h)) where
  from_front : (text : List ℕ) (len : ℕ) → special text ≡ Some (characters, len) → (1 ≤ len) × (len ≤ length text) × (get_or text (len - 1) 0 < 128)
      → unescape text ≡ encode_utf8_all characters ++ unescape (drop len text)
  from_front text zero h within = absurd (omega (arith, within.0))
  from_front [] (suc n) h within = absurd (omega (arith, within.1))
  from_front (b ∷ bs) (suc n) h within =
      let less : suc n - 1 ≡ n = omega arith in
      next-front b bs (Some (characters, suc n)) h
      ∙ ap (λ k. encode_utf8_all characters ++ unescape_after k bs) less
      ∙ ap (λ t. encode_utf8_all characters ++ t) (unescape-skip n bs)

-- any other byte stays unchanged
pub unescape-other : (b : ℕ) (bs : List ℕ) → special (b ∷ bs) ≡ None → unescape (b ∷ bs) ≡ b ∷ unescape bs
unescape-other b bs h = next-front b bs None h

no-escape : (b : ℕ) (bs : List ℕ) → (b == 92) ≡ false → escape (b ∷ bs) ≡ None
no-escape b [] h = refl
no-escape b (c ∷ cs) h = ap (λ t. if t && is_ascii_punct c then Some (c ∷ [], 2) else None) h

-- nothing is read where there is neither a backslash nor an ampersand
pub special-none : (b : ℕ) (bs : List ℕ) → (b == 92) ≡ false → (b == 38) ≡ false → special (b ∷ bs) ≡ None
special-none b bs h k = special-reference (b ∷ bs) (sym (no-escape b bs h)) ∙ reference-none (b ∷ bs) k

other-byte : (b : ℕ) → (is_byte2 92 38 b ≡ true → ⊥) → ((b == 92) ≡ false) × ((b == 38) ≡ false)
other-byte b h = (grind (arith, nat_tests, h), grind (arith, nat_tests, h))

-- where nothing is read the first byte is put
pub put-other : (text given range old new : List ℕ) → 0 < length text → given ≡ text → None ≡ special given → range ≡ take (1 - 0) (drop 0 text) → new ≡ old ++ range
    → new ++ unescape (drop 1 text) ≡ old ++ unescape text
put-other [] given range old new some same none first put = absurd (omega (arith, some))
put-other (b ∷ bs) given range old new some same none first put =
    ap (λ t. t ++ unescape bs) (put ∙ ap (λ t. old ++ t) first)
    ∙ append_assoc old (b ∷ []) (unescape bs)
    ∙ ap (λ t. old ++ t) (sym (unescape-other b bs (ap special (sym same) ∙ sym none)))

-- and else the characters of what was read
pub put-special : (text given characters old new : List ℕ) (len : ℕ) → given ≡ text → Some (characters, len) ≡ special given → new ≡ old ++ encode_utf8_all characters
    → new ++ unescape (drop len text) ≡ old ++ unescape text
put-special text given characters old new len same read put =
    ap (λ t. t ++ unescape (drop len text)) put ∙ append_assoc old (encode_utf8_all characters) (unescape (drop len text))
    ∙ ap (λ t. old ++ t) (sym (unescape-special text characters len (ap special (sym same) ∙ sym read)))

-- a run without backslash and ampersand stays unchanged
run-step : (b : ℕ) (bs : List ℕ) → (is_byte2 92 38 b ≡ true → ⊥) → unescape (b ∷ bs) ≡ b ∷ unescape bs
run-step b bs h = let other = other-byte b h in unescape-other b bs (special-none b bs other.0 other.1)

pub unescape-run : (n : ℕ) (text : List ℕ) → n ≤ length text → ((k : ℕ) → k < n → is_byte2 92 38 (get_or text k 0) ≡ true → ⊥)
    → unescape text ≡ take n text ++ unescape (drop n text)
unescape-run zero text within none = refl
unescape-run (suc n) [] within none = absurd (omega (arith, within))
unescape-run (suc n) (b ∷ bs) within none =
    run-step b bs (none 0 (omega arith)) ∙ ap (λ t. b ∷ t) (unescape-run n bs (omega (arith, within)) (λ k below. none (suc k) (omega (arith, below))))

-- up to the first of them
pub run-before : (text given : List ℕ) (at : ℕ) → given ≡ text → IsFirstByte (is_byte2 92 38) given (Some at)
    → (at < length text) × (is_byte2 92 38 (get_or text at 0) ≡ true) × (unescape text ≡ take at text ++ unescape (drop at text))
run-before text given at same first =
    let here : IsFirstByte (is_byte2 92 38) text (Some at) = subst (λ t. IsFirstByte (is_byte2 92 38) t (Some at)) same first in
    (here.0.high, here.1, unescape-run at text (omega (arith, here.0.high)) (λ k below. here.0.before k (omega arith) below))

-- and where there is none the whole text does
pub run-whole : (text given : List ℕ) → given ≡ text → IsFirstByte (is_byte2 92 38) given None → unescape text ≡ text
unfolding unescape_after
run-whole text given same none =
    let nowhere : IsFirstByte (is_byte2 92 38) text None = subst (λ t. IsFirstByte (is_byte2 92 38) t None) same none in
    unescape-run (length text) text (omega arith) (λ k below. nowhere k (omega arith) below)
    ∙ ap (λ t. t ++ unescape (drop (length text) text)) (take_all (length text) text (omega arith))
    ∙ ap (λ t. text ++ unescape t) (drop-length text) ∙ append-nil text

-- a round of the loop: the run up to a special byte, and what is read there
pub round : (whole rest range tail next made pushed final : List ℕ) (at len : ℕ) → unescape rest ≡ take at rest ++ unescape (drop at rest)
    → range ≡ take (at - 0) (drop 0 rest) → pushed ≡ made ++ range → tail ≡ drop at rest
    → final ++ unescape (drop len tail) ≡ pushed ++ unescape tail → next ≡ drop (at + len) rest → made ++ unescape rest ≡ whole
    → final ++ unescape next ≡ whole
round whole rest range tail next made pushed final at len run front put beyond read after done =
    let left : drop len tail ≡ next = ap (λ t. drop len t) beyond ∙ drop-drop len at rest ∙ sym after in
    ap (λ t. final ++ unescape t) (sym left) ∙ read
    ∙ ap (λ t. t ++ unescape tail) (put ∙ ap (λ t. made ++ t) (front ∙ slice_from_start rest at))
    ∙ append_assoc made (take at rest) (unescape tail)
    ∙ ap (λ t. made ++ (take at rest ++ unescape t)) beyond
    ∙ ap (λ t. made ++ t) (sym run) ∙ done
