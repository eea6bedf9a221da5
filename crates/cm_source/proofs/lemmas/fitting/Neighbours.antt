-- What a delimiter run sees of a spelled text next to it: the first and the last character.
use Rattle.std.proofs.Common.{◌≡◌, ℕ, ◌+◌, ◌/◌, ◌%◌, ◌<◌, ◌≤◌, ◌==◌, ◌&&◌, ◌||◌, nat_lt, not, Bool, true, false, cond, List, [], ◌∷◌, ◌++◌, length, reverse, Option, Some, slice_get, IsUtf8, chars, codes, refl, sym, ap, subst, ◌∙◌, arith, append-nil}
use Rattle.std.specs.Prelude.{if◌then◌else◌, ⊤}
use Rattle.std.specs.Char.{is_ascii, is_ascii_control}
use Rattle.std.specs.Fmt.{digits}
use Rattle.std.specs.List.{list_all}
use Rattle.std.proofs.lemmas.Bool.{and_parts, and_from, and_left, and_right, eqb-true, ne_eqb, ltb-true, ltb-false, lt-ltb, le-ltb, agree_below_at}
use Rattle.std.proofs.lemmas.Bool.Decides.{nat_tests}
use Rattle.std.proofs.lemmas.List.{reverse-append, reverse-reverse}
use Rattle.std.proofs.lemmas.Str.{encode_ascii, encodes-append, chars-encodes, chars-append, length-encode, len_utf8_bounds}
use lib.Utf8.{scalar, scalars, encode, encodes, low_scalar}
use Rattle.cm_text.specs.Rules.{Rules}
use Rattle.cm_text.specs.Characters.{is_ascii_punct, is_space, is_punct_by}
use Rattle.cm_text.proofs.lemmas.CharacterLemmas.{is_punct-ascii, is_space-ascii}
use Rattle.cm_scan.specs.Words.{is_empty}
use Rattle.cm_scan.specs.inlines.Delimiters.{Neighbour, whitespace, punctuation, other, neighbour, is_other}
use Rattle.cm_scan.specs.inlines.Atoms.{first_character, last_character}
use Rattle.cm_source.specs.Texts.{numbered, spelled_byte, edge_byte, spelled_text}
use Rattle.cm_source.specs.InlineRefusals.{is_whitespace, is_plain}
use Rattle.cm_source.proofs.lemmas.shared.ByteSpellings.{SpellsByte, ByNumber, Escaped, AsItIs, spells_edge}

-- a run sees whitespace
abbrev pub is_blank : Neighbour → Bool
is_blank whitespace = true
is_blank _ = false

-- the characters of a spelled character, and of a spelled text
abbrev pub spelled_character : (at_edge : Bool) → ℕ → List ℕ
spelled_character at_edge c = if is_ascii c then edge_byte at_edge c else c ∷ []

unfoldable pub spelled_characters : (first last : Bool) → List ℕ → List ℕ
spelled_characters first last [] = []
spelled_characters first last (c ∷ cs) = spelled_character (first || last && is_empty cs) c ++ spelled_characters false last cs

-- ---- single characters

numbered-ascii : (c : ℕ) → c < 128 → list_all is_ascii (numbered c) ≡ true
unfolding digits
numbered-ascii c h = agree_below_at (λ c. list_all is_ascii (numbered c)) (λ c. true) 128 c refl h

no-space : (c : ℕ) → is_ascii_punct c ≡ true → (c == 32 || c == 9 || c == 10 || c == 12 || c == 13) ≡ false
no-space c h = grind (arith, nat_tests, h)

beyond-control : (c : ℕ) → is_ascii c ≡ false → is_ascii_control c ≡ false
beyond-control c h = grind (arith, nat_tests, h)

module _ (rules : Rules) where
  -- what is seen of an edge: something other than whitespace and punctuation just if the edge is plain, and whitespace if it is
  pub record Beside (edge : Option ℕ) (seen : Neighbour) : Type 0 where
    pub plain : is_other seen ≡ is_plain rules edge
    pub blank : is_blank seen ≡ true → is_whitespace edge ≡ true

  pub punctuation-seen : (x : ℕ) → x < 128 → is_ascii_punct x ≡ true → neighbour rules (Some x) ≡ punctuation
  unfolding neighbour
  punctuation-seen x h p =
      let s : is_space x ≡ false = sym (is_space-ascii x h) ∙ no-space x p in
      let q : is_punct_by rules x ≡ true = sym (is_punct-ascii rules x h) ∙ p in
      rw (s, q) refl

  punctuation-not-plain : (c : ℕ) → c < 128 → is_ascii_punct c ≡ true → is_plain rules (Some c) ≡ false
  punctuation-not-plain c h p = and_right (not (is_space c) && not (is_ascii_control c)) (not (is_punct_by rules c)) (ap not (sym (is_punct-ascii rules c h) ∙ p))

  control-not-plain : (c : ℕ) → is_ascii_control c ≡ true → is_plain rules (Some c) ≡ false
  control-not-plain c h = and_left (not (is_space c) && not (is_ascii_control c)) (not (is_punct_by rules c)) (and_right (not (is_space c)) (not (is_ascii_control c)) (ap not h))

  space-not-plain : is_plain rules (Some 32) ≡ false
  space-not-plain =
      let s : is_space 32 ≡ true = sym (is_space-ascii 32 (omega arith)) in
      and_left (not (is_space 32) && not (is_ascii_control 32)) (not (is_punct_by rules 32)) (and_left (not (is_space 32)) (not (is_ascii_control 32)) (ap not s))

  -- the characters with which one is spelled
  data Spelt (c : ℕ) : List ℕ → Type 0 where
    by_number : (n : ℕ) → n < 128 → is_plain rules (Some c) ≡ false → Spelt c (numbered n)
    escaped : c < 128 → is_ascii_punct c ≡ true → Spelt c (92 ∷ c ∷ [])
    itself : is_ascii_control c ≡ false → Spelt c (c ∷ [])

  byte-spelt : (c : ℕ) → c < 128 → Spelt c (spelled_byte c)
  unfolding spelled_byte
  byte-spelt c h = go (c == 96) (is_ascii_control c) (is_ascii_punct c) refl refl refl
    where
      go : (a b p : Bool) → (c == 96) ≡ a → is_ascii_control c ≡ b → is_ascii_punct c ≡ p
          → Spelt c (if a || b then numbered c else (if p then 92 ∷ c ∷ [] else c ∷ []))
      go true b p e f g = by_number c h (punctuation-not-plain c h (ap is_ascii_punct (eqb-true c 96 e)))
      go false true p e f g = by_number c h (control-not-plain c f)
      go false false true e f g = escaped h g
      go false false false e f g = itself f

  edge-spelt : (at_edge : Bool) (c : ℕ) → c < 128 → Spelt c (edge_byte at_edge c)
  edge-spelt at_edge c h = go (at_edge && c == 32) refl
    where
      go : (v : Bool) → (at_edge && c == 32) ≡ v → Spelt c (if v then numbered 32 else spelled_byte c)
      go true e = by_number 32 (omega arith) (ap (λ n. is_plain rules (Some n)) (eqb-true c 32 (and_parts at_edge (c == 32) e).1) ∙ space-not-plain)
      go false e = byte-spelt c h

  spelt : (at_edge : Bool) (c : ℕ) → Spelt c (spelled_character at_edge c)
  spelt at_edge c = go (is_ascii c) refl
    where
      go : (a : Bool) → is_ascii c ≡ a → Spelt c (if a then edge_byte at_edge c else c ∷ [])
      go true e = edge-spelt at_edge c (ltb-true c 128 e)
      go false e = itself (beyond-control c e)

  beside-punctuation : (c x : ℕ) → is_plain rules (Some c) ≡ false → neighbour rules (Some x) ≡ punctuation → Beside (Some c) (neighbour rules (Some x))
  beside-punctuation c x p e = subst (λ s. Beside (Some c) s) (sym e) (record { plain = sym p; blank = λ h. absurd (cc h) })

  beside-itself : (c : ℕ) → is_ascii_control c ≡ false → Beside (Some c) (neighbour rules (Some c))
  unfolding neighbour
  beside-itself c k = go (is_space c) (is_punct_by rules c) refl refl
    where
      go : (s p : Bool) → is_space c ≡ s → is_punct_by rules c ≡ p → Beside (Some c) (if s then whitespace else (if p then punctuation else other))
      go true p e f = record { plain = sym (and_left (not (is_space c) && not (is_ascii_control c)) (not (is_punct_by rules c)) (and_left (not (is_space c)) (not (is_ascii_control c)) (ap not e))); blank = λ h. e }
      go false true e f = record { plain = sym (and_right (not (is_space c) && not (is_ascii_control c)) (not (is_punct_by rules c)) (ap not f)); blank = λ h. absurd (cc h) }
      go false false e f = record { plain = rw (e, f, k) refl; blank = λ h. absurd (cc h) }

  -- the first and the last of those characters
  abbrev Begins : ℕ → List ℕ → Type 0
  Begins c xs = (x : ℕ) × (ys : List ℕ) × (xs ≡ x ∷ ys) × Beside (Some c) (neighbour rules (Some x))

  abbrev Ends : ℕ → List ℕ → Type 0
  Ends c xs = (x : ℕ) × (ys : List ℕ) × (xs ≡ ys ++ x ∷ []) × Beside (Some c) (neighbour rules (Some x))

  spelt-begins : (c : ℕ) (xs : List ℕ) → Spelt c xs → Begins c xs
  spelt-begins c xs (by_number n h p) = (38, 35 ∷ (Rattle.std.specs.Fmt.decimal n ++ codes ";"), refl, beside-punctuation c 38 p (punctuation-seen 38 (omega arith) refl))
  spelt-begins c xs (escaped h p) = (92, c ∷ [], refl, beside-punctuation c 92 (punctuation-not-plain c h p) (punctuation-seen 92 (omega arith) refl))
  spelt-begins c xs (itself k) = (c, [], refl, beside-itself c k)

  spelt-ends : (c : ℕ) (xs : List ℕ) → Spelt c xs → Ends c xs
  spelt-ends c xs (by_number n h p) = (59, codes "&#" ++ Rattle.std.specs.Fmt.decimal n, refl, beside-punctuation c 59 p (punctuation-seen 59 (omega arith) refl))
  spelt-ends c xs (escaped h p) = (c, 92 ∷ [], refl, beside-punctuation c c (punctuation-not-plain c h p) (punctuation-seen c h p))
  spelt-ends c xs (itself k) = (c, [], refl, beside-itself c k)

-- ---- the characters of a spelled text

ascii-encodes : (xs : List ℕ) → list_all is_ascii xs ≡ true → (encodes xs ≡ xs) × (scalars xs ≡ true)
ascii-encodes [] h = (refl, refl)
ascii-encodes (x ∷ xs) h =
    let p = and_parts (is_ascii x) (list_all is_ascii xs) h in
    let low : x < 128 = ltb-true x 128 p.0 in
    let ih = ascii-encodes xs p.1 in
    (ap (λ l. l ++ encodes xs) (encode_ascii x low) ∙ ap (λ l. x ∷ l) ih.0, ap (λ t. t && scalars xs) (low_scalar x (omega (arith, low))) ∙ ih.1)

spelling-ascii : (c : ℕ) (front : List ℕ) → SpellsByte c front → c < 128 → list_all is_ascii front ≡ true
spelling-ascii c front (ByNumber low) h = numbered-ascii c h
spelling-ascii c front (Escaped punct tick) h = ap (λ v. v && true) (lt-ltb c 128 h)
spelling-ascii c front (AsItIs printed plain) h = ap (λ v. v && true) (lt-ltb c 128 h)

pub edge-ascii : (at_edge : Bool) (c : ℕ) → c < 128 → list_all is_ascii (edge_byte at_edge c) ≡ true
edge-ascii at_edge c h = spelling-ascii c (edge_byte at_edge c) (spells_edge at_edge c) h

-- bytes of characters beyond ASCII
abbrev pub AllHigh : List ℕ → Type 0
AllHigh [] = ⊤
AllHigh (b ∷ bs) = (128 ≤ b) × AllHigh bs

pub high-bytes : (c : ℕ) → 128 ≤ c → AllHigh (encode c)
unfolding encode
high-bytes c h = go (nat_lt c 128) (nat_lt c 2048) (nat_lt c 65536) refl
  where
    go : (a b d : Bool) → nat_lt c 128 ≡ a → AllHigh (cond a (c ∷ []) (cond b ((192 + c / 64) ∷ (128 + c % 64) ∷ []) (cond d ((224 + c / 4096) ∷ (128 + c / 64 % 64) ∷ (128 + c % 64) ∷ []) ((240 + c / 262144) ∷ (128 + c / 4096 % 64) ∷ (128 + c / 64 % 64) ∷ (128 + c % 64) ∷ []))))
    go true b d e = absurd (cc (sym (le-ltb c 128 h) ∙ e))
    go false true d e = (omega arith, (omega arith, tt))
    go false false true e = (omega arith, (omega arith, (omega arith, tt)))
    go false false false e = (omega arith, (omega arith, (omega arith, (omega arith, tt))))

pub high-byte : (at_edge : Bool) (b : ℕ) → 128 ≤ b → edge_byte at_edge b ≡ b ∷ []
unfolding spelled_byte
high-byte at_edge b h =
    let space : (b == 32) ≡ false = ne_eqb b 32 (λ e. absurd (omega (arith, e, h))) in
    let tick : (b == 96) ≡ false = ne_eqb b 96 (λ e. absurd (omega (arith, e, h))) in
    let control : is_ascii_control b ≡ false = grind (arith, nat_tests, h) in
    let punct : is_ascii_punct b ≡ false = grind (arith, nat_tests, h) in
    ap (λ v. if v then numbered 32 else spelled_byte b) (and_right at_edge (b == 32) space) ∙ rw (tick, control, punct) refl

high-text : (last : Bool) (bs rest : List ℕ) → AllHigh bs → spelled_text false last (bs ++ rest) ≡ bs ++ spelled_text false last rest
unfolding spelled_text
high-text last [] rest h = refl
high-text last (b ∷ bs) rest h = ap (λ l. l ++ spelled_text false last (bs ++ rest)) (high-byte (last && is_empty (bs ++ rest)) b h.0) ∙ ap (λ l. b ∷ l) (high-text last bs rest h.1)

high-first : (first last : Bool) (bs rest : List ℕ) → AllHigh bs → 0 < length bs → spelled_text first last (bs ++ rest) ≡ bs ++ spelled_text false last rest
unfolding spelled_text
high-first first last [] rest h some = absurd (omega (arith, some))
high-first first last (b ∷ bs) rest h some = ap (λ l. l ++ spelled_text false last (bs ++ rest)) (high-byte (first || last && is_empty (bs ++ rest)) b h.0) ∙ ap (λ l. b ∷ l) (high-text last bs rest h.1)

some-bytes : (c : ℕ) → 0 < length (encode c)
some-bytes c = omega (arith, length-encode c, (len_utf8_bounds c).0)

empty-encodes : (cs : List ℕ) → is_empty (encodes cs) ≡ is_empty cs
empty-encodes [] = refl
empty-encodes (c ∷ cs) = go (encode c) (some-bytes c)
  where
    go : (bs : List ℕ) → 0 < length bs → is_empty (bs ++ encodes cs) ≡ false
    go [] some = absurd (omega (arith, some))
    go (b ∷ bs) some = refl

spelled-encodes : (first last : Bool) (cs : List ℕ) → spelled_text first last (encodes cs) ≡ encodes (spelled_characters first last cs)
unfolding spelled_text spelled_characters
spelled-encodes first last [] = refl
spelled-encodes first last (c ∷ cs) = go (is_ascii c) refl (spelled-encodes false last cs)
  where
    more : List ℕ
    more = spelled_characters false last cs

    edge : Bool
    edge = first || last && is_empty cs

    go : (a : Bool) → is_ascii c ≡ a → spelled_text false last (encodes cs) ≡ encodes more
        → spelled_text first last (encode c ++ encodes cs) ≡ encodes ((if a then edge_byte edge c else c ∷ []) ++ more)
    go true e ih =
        let low : c < 128 = ltb-true c 128 e in
        ap (λ l. spelled_text first last (l ++ encodes cs)) (encode_ascii c low)
        ∙ ap (λ v. edge_byte (first || last && v) c ++ spelled_text false last (encodes cs)) (empty-encodes cs)
        ∙ ap (λ l. edge_byte edge c ++ l) ih
        ∙ ap (λ l. l ++ encodes more) (sym (ascii-encodes (edge_byte edge c) (edge-ascii edge c low)).0)
        ∙ sym (encodes-append (edge_byte edge c) more)
    go false e ih = high-first first last (encode c) (encodes cs) (high-bytes c (ltb-false c 128 e)) (some-bytes c) ∙ ap (λ l. encode c ++ l) ih

scalars-append : (xs ys : List ℕ) → scalars xs ≡ true → scalars ys ≡ true → scalars (xs ++ ys) ≡ true
scalars-append [] ys h k = k
scalars-append (x ∷ xs) ys h k = let p = and_parts (scalar x) (scalars xs) h in and_from (scalar x) (scalars (xs ++ ys)) p.0 (scalars-append xs ys p.1 k)

spelled-scalars : (first last : Bool) (cs : List ℕ) → scalars cs ≡ true → scalars (spelled_characters first last cs) ≡ true
unfolding spelled_characters
spelled-scalars first last [] h = refl
spelled-scalars first last (c ∷ cs) h =
    let p = and_parts (scalar c) (scalars cs) h in
    scalars-append (spelled_character edge c) (spelled_characters false last cs) (go (is_ascii c) refl p.0) (spelled-scalars false last cs p.1)
  where
    edge : Bool
    edge = first || last && is_empty cs

    go : (a : Bool) → is_ascii c ≡ a → scalar c ≡ true → scalars (if a then edge_byte edge c else c ∷ []) ≡ true
    go true e s = (ascii-encodes (edge_byte edge c) (edge-ascii edge c (ltb-true c 128 e))).1
    go false e s = ap (λ t. t && true) s

-- spelled texts are UTF-8
pub spelled-utf8 : (first last : Bool) (text : List ℕ) → IsUtf8 text → IsUtf8 (spelled_text first last text)
spelled-utf8 first last text u =
    (spelled_characters first last u.0, (spelled-scalars first last u.0 u.1.0, sym (spelled-encodes first last u.0) ∙ ap (spelled_text first last) u.1.1))

-- ---- what is at the edges of a text

pub ascii-utf8 : (xs : List ℕ) → list_all is_ascii xs ≡ true → IsUtf8 xs
ascii-utf8 xs h = let both = ascii-encodes xs h in (xs, (both.1, both.0))

-- an ASCII character is seen whatever is further off
pub first-ascii : (x : ℕ) (rest : List ℕ) → x < 128 → first_character (x ∷ rest) ≡ Some x
first-ascii x rest h =
    let low : list_all is_ascii (x ∷ []) ≡ true = ap (λ t. t && true) (lt-ltb x 128 h) in
    let both = ascii-encodes (x ∷ []) low in
    ap (λ l. slice_get l 0) (chars-append (x ∷ []) rest (ascii-utf8 (x ∷ []) low) ∙ ap (λ l. l ++ chars rest) (ap chars (sym both.0) ∙ chars-encodes (x ∷ []) both.1))

last-of-both : (xs ys : List ℕ) (v : ℕ) → slice_get (reverse ys) 0 ≡ Some v → slice_get (reverse (xs ++ ys)) 0 ≡ Some v
last-of-both xs ys v e = ap (λ l. slice_get l 0) (reverse-append xs ys) ∙ go (reverse ys) e
  where
    go : (zs : List ℕ) → slice_get zs 0 ≡ Some v → slice_get (zs ++ reverse xs) 0 ≡ Some v
    go [] e = absurd (cc e)
    go (z ∷ zs) e = e

-- the last character of a text that is UTF-8 after another one
last-beyond : (text before : List ℕ) (v : ℕ) → IsUtf8 (reverse before) → slice_get (reverse (chars text)) 0 ≡ Some v → last_character (reverse text ++ before) ≡ Some v
last-beyond text before v u e =
    let whole : chars (reverse (reverse text ++ before)) ≡ chars (reverse before) ++ chars text =
    ap chars (reverse-append (reverse text) before ∙ ap (λ l. reverse before ++ l) (reverse-reverse text)) ∙ chars-append (reverse before) text u in
    ap (λ l. slice_get (reverse l) 0) whole ∙ last-of-both (chars (reverse before)) (chars text) v e

pub last-ascii : (x : ℕ) (before : List ℕ) → x < 128 → IsUtf8 (reverse before) → last_character (x ∷ before) ≡ Some x
last-ascii x before h u =
    let both = ascii-encodes (x ∷ []) (ap (λ t. t && true) (lt-ltb x 128 h)) in
    last-beyond (x ∷ []) before x u (ap (λ l. slice_get (reverse l) 0) (ap chars (sym both.0) ∙ chars-encodes (x ∷ []) both.1))

module _ (rules : Rules) where
  first-beside : (first last : Bool) (c : ℕ) (cs : List ℕ) → (x : ℕ) × (ys : List ℕ) × (spelled_characters first last (c ∷ cs) ≡ x ∷ ys) × Beside rules (Some c) (neighbour rules (Some x))
  unfolding spelled_characters
  first-beside first last c cs =
      let edge = first || last && is_empty cs in
      let begins = spelt-begins rules c (spelled_character edge c) (spelt rules edge c) in
      (begins.0, begins.1 ++ spelled_characters false last cs, ap (λ l. l ++ spelled_characters false last cs) begins.2, begins.3)

  last-beside : (first last : Bool) (c : ℕ) (cs : List ℕ)
      → (x : ℕ) × (y : ℕ) × (slice_get (reverse (spelled_characters first last (c ∷ cs))) 0 ≡ Some x) × (slice_get (reverse (c ∷ cs)) 0 ≡ Some y) × Beside rules (Some y) (neighbour rules (Some x))
  unfolding spelled_characters
  last-beside first last c [] =
      let edge = first || last && true in
      let ends = spelt-ends rules c (spelled_character edge c) (spelt rules edge c) in
      (ends.0, c, ap (λ l. slice_get (reverse l) 0) (append-nil (spelled_character edge c) ∙ ends.2) ∙ last-of-both ends.1 (ends.0 ∷ []) ends.0 refl, refl, ends.3)
  last-beside first last c (d ∷ ds) =
      let more = last-beside false last d ds in
      (more.0, more.1, last-of-both (spelled_character (first || last && false) c) (spelled_characters false last (d ∷ ds)) more.0 more.2, last-of-both (c ∷ []) (d ∷ ds) more.1 more.3, more.4)

  characters-of : (first last : Bool) (text cs : List ℕ) → scalars cs ≡ true → encodes cs ≡ text → chars (spelled_text first last text) ≡ spelled_characters first last cs
  characters-of first last text cs s e =
      ap (λ l. chars (spelled_text first last l)) (sym e) ∙ ap chars (spelled-encodes first last cs) ∙ chars-encodes (spelled_characters first last cs) (spelled-scalars first last cs s)

  -- what is seen of a text from before it, and from after it
  pub text-begins : (first last : Bool) (text rest : List ℕ) → IsUtf8 text → is_empty text ≡ false
      → Beside rules (first_character text) (neighbour rules (first_character (spelled_text first last text ++ rest)))
  text-begins first last text rest u some = go u.0 u.1.0 u.1.1
    where
      go : (cs : List ℕ) → scalars cs ≡ true → encodes cs ≡ text → Beside rules (first_character text) (neighbour rules (first_character (spelled_text first last text ++ rest)))
      go [] s e = absurd (cc (ap is_empty e ∙ some))
      go (c ∷ cs) s e =
          let beside = first-beside first last c cs in
          let own : first_character text ≡ Some c = ap (λ l. slice_get l 0) (ap chars (sym e) ∙ chars-encodes (c ∷ cs) s) in
          let seen : first_character (spelled_text first last text ++ rest) ≡ Some beside.0 =
          ap (λ l. slice_get l 0) (chars-append (spelled_text first last text) rest (spelled-utf8 first last text u) ∙ ap (λ l. l ++ chars rest) (characters-of first last text (c ∷ cs) s e ∙ beside.2)) in
          subst (λ edge. Beside rules edge (neighbour rules (first_character (spelled_text first last text ++ rest)))) (sym own)
          (subst (λ o. Beside rules (Some c) (neighbour rules o)) (sym seen) beside.3)

  pub text-ends : (first last : Bool) (text before : List ℕ) → IsUtf8 text → is_empty text ≡ false → IsUtf8 (reverse before)
      → Beside rules (last_character (reverse text)) (neighbour rules (last_character (reverse (spelled_text first last text) ++ before)))
  text-ends first last text before u some v = go u.0 u.1.0 u.1.1
    where
      go : (cs : List ℕ) → scalars cs ≡ true → encodes cs ≡ text
          → Beside rules (last_character (reverse text)) (neighbour rules (last_character (reverse (spelled_text first last text) ++ before)))
      go [] s e = absurd (cc (ap is_empty e ∙ some))
      go (c ∷ cs) s e =
          let beside = last-beside first last c cs in
          let own : last_character (reverse text) ≡ Some beside.1 =
          ap (λ l. slice_get (reverse (chars l)) 0) (reverse-reverse text ∙ sym e) ∙ ap (λ l. slice_get (reverse l) 0) (chars-encodes (c ∷ cs) s) ∙ beside.3 in
          let seen : last_character (reverse (spelled_text first last text) ++ before) ≡ Some beside.0 =
          last-beyond (spelled_text first last text) before beside.0 v (ap (λ l. slice_get (reverse l) 0) (characters-of first last text (c ∷ cs) s e) ∙ beside.2) in
          subst (λ edge. Beside rules edge (neighbour rules (last_character (reverse (spelled_text first last text) ++ before)))) (sym own)
          (subst (λ o. Beside rules (Some beside.1) (neighbour rules o)) (sym seen) beside.4)
