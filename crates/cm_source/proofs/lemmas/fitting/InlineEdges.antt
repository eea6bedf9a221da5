-- What the inlines around an accepted inline see of it: the bytes and the characters with which its spelling starts and ends.
use Rattle.std.proofs.Common.{◌≡◌, ℕ, ◌<◌, ◌+◌, ◌==◌, Bool, true, false, ◌&&◌, ◌||◌, List, [], ◌∷◌, ◌++◌, length, reverse, IsUtf8, Option, Some, None, get_or, refl, sym, ap, subst, ◌∙◌, arith, append_assoc, length-append}
use Rattle.std.proofs.lemmas.Bool.{lt-ltb}
use Rattle.std.proofs.lemmas.List.{reverse-append, reverse-reverse}
use Rattle.std.proofs.lemmas.Str.{IsUtf8-append, IsUtf8-take, IsUtf8-drop, IsCharBoundary-before_ascii}
use lib.Seq.{take_at, drop_at, get_or-append-add}
use Rattle.cm_text.proofs.lemmas.Utf8Lemmas.{IsUtf8-cancel}
use Rattle.cm_text.specs.Rules.{Rules}
use Rattle.cm_text.specs.Characters.{is_ascii_punct, is_space}
use Rattle.cm_text.proofs.lemmas.CharacterLemmas.{is_space-ascii}
use Rattle.cm_scan.specs.Words.{is_empty, begins_with}
use Rattle.cm_scan.specs.inlines.Delimiters.{Neighbour, whitespace, neighbour, is_other}
use Rattle.cm_scan.specs.inlines.Atoms.{first_character, last_character}
use Rattle.cm_source.specs.Texts.{edge_byte, spelled_text}
use Rattle.cm_source.specs.InlineRefusals.{Face, is_text, is_code, is_break, is_emphasis, is_none, first_of, last_of, is_whitespace, is_plain}
use Rattle.cm_source.specs.steps.ContentBack.{is_before_line_end}
use Rattle.cm_source.proofs.lemmas.fitting.Neighbours.{ascii-utf8, Beside, is_blank, punctuation-seen, first-ascii, last-ascii}
use Rattle.cm_source.proofs.lemmas.shared.ByteSpellings.{SpellsByte, ByNumber, Escaped, AsItIs, spells_edge}
use Rattle.cm_source.proofs.lemmas.inlines.BytesRead.{no-line-here}
use Rattle.cm_scan.proofs.lemmas.texts.ToldApart.{differs'}

-- ---- the first byte of a text

-- a byte with which no text starts
pub record IsHidden (m : ℕ) : Type 0 where
  pub punctuation : is_ascii_punct m ≡ true
  pub no_ampersand : (38 == m) ≡ false
  pub no_backslash : (92 == m) ≡ false

spelling-hidden : (m b : ℕ) (front rest : List ℕ) → SpellsByte b front → IsHidden m → begins_with m (front ++ rest) ≡ false
spelling-hidden m b front rest (ByNumber low) h = h.no_ampersand
spelling-hidden m b front rest (Escaped punct tick) h = h.no_backslash
spelling-hidden m b front rest (AsItIs printed plain) h = differs' is_ascii_punct b m plain h.punctuation

pub text-hidden : (m : ℕ) (first last : Bool) (text rest : List ℕ) → IsHidden m → is_empty text ≡ false → begins_with m (spelled_text first last text ++ rest) ≡ false
unfolding spelled_text
text-hidden m first last [] rest h some = absurd (cc some)
text-hidden m first last (b ∷ bs) rest h some =
    ap (begins_with m) (append_assoc (edge_byte (first || last && is_empty bs) b) (spelled_text false last bs) rest)
    ∙ spelling-hidden m b (edge_byte (first || last && is_empty bs) b) (spelled_text false last bs ++ rest) (spells_edge (first || last && is_empty bs) b) h

pub tick-hidden : IsHidden 96
tick-hidden = record { punctuation = refl; no_ampersand = refl; no_backslash = refl }

pub star-hidden : IsHidden 42
star-hidden = record { punctuation = refl; no_ampersand = refl; no_backslash = refl }

pub tilde-hidden : IsHidden 126
tilde-hidden = record { punctuation = refl; no_ampersand = refl; no_backslash = refl }

-- a test that isn't passed together with another one that is
pub second-fails : (v w : Bool) → (v && w) ≡ false → v ≡ true → w ≡ false
second-fails true w h k = h
second-fails false w h k = absurd (cc k)

-- ---- UTF-8 before a place

-- the parts before and after an ASCII byte
pub split-ascii : (front : List ℕ) (x : ℕ) (rest : List ℕ) → x < 128 → IsUtf8 (front ++ x ∷ rest) → IsUtf8 front × IsUtf8 rest
split-ascii front x rest h u =
    let n = length front in
    let at : get_or (front ++ x ∷ rest) n 0 ≡ x = ap (λ n. get_or (front ++ x ∷ rest) n 0) (let e : n ≡ n + 0 = omega arith in e) ∙ get_or-append-add front (x ∷ rest) 0 0 in
    let cut = IsCharBoundary-before_ascii (front ++ x ∷ rest) n (omega (arith, length-append front (x ∷ rest))) (omega (arith, at, h)) in (
      subst IsUtf8 (take_at front (x ∷ rest) n refl) (IsUtf8-take (front ++ x ∷ rest) n u cut),
      IsUtf8-cancel (x ∷ []) rest (ascii-utf8 (x ∷ []) (ap (λ t. t && true) (lt-ltb x 128 h))) (subst IsUtf8 (drop_at front (x ∷ rest) n refl) (IsUtf8-drop (front ++ x ∷ rest) n u cut)),
    )

pub before-ascii : (front : List ℕ) (x : ℕ) → x < 128 → IsUtf8 (front ++ x ∷ []) → IsUtf8 front
before-ascii front x h u = (split-ascii front x [] h u).0

pub further-utf8 : (text before : List ℕ) → IsUtf8 text → IsUtf8 (reverse before) → IsUtf8 (reverse (reverse text ++ before))
further-utf8 text before u v =
    subst IsUtf8 (sym (reverse-append (reverse text) before ∙ ap (λ l. reverse before ++ l) (reverse-reverse text))) (IsUtf8-append (reverse before) text v u)

module _ (rules : Rules) where
  -- What a run sees of an inline next to it, or of none: something other than whitespace and punctuation just if the edge there is
  -- plain, and whitespace if there is some, a break, or no inline.
  pub record Shows (face : Option Face) (edge : Option ℕ) (seen : Neighbour) : Type 0 where
    pub plain : is_other seen ≡ is_plain rules edge
    pub blank : is_blank seen ≡ true → (is_whitespace edge || is_break face || is_none face) ≡ true

  -- punctuation, and whitespace where a line ends
  pub shows-punctuation : (face : Option Face) (x : ℕ) → x < 128 → is_ascii_punct x ≡ true → Shows face None (neighbour rules (Some x))
  shows-punctuation face x h p = subst (λ seen. Shows face None seen) (sym (punctuation-seen rules x h p)) (record { plain = refl; blank = λ e. absurd (cc e) })

  feed-seen : neighbour rules (Some 10) ≡ whitespace
  unfolding neighbour
  feed-seen = let s : is_space 10 ≡ true = sym (is_space-ascii 10 (omega arith)) in rw s refl

  pub shows-feed : (face : Option Face) → is_break face ≡ true → Shows face None (neighbour rules (Some 10))
  shows-feed face b = subst (λ seen. Shows face None seen) (sym feed-seen) (record { plain = refl; blank = λ e. ap (λ v. v || is_none face) b })

  pub beside-shows : (face : Option Face) (edge : Option ℕ) (seen : Neighbour) → Beside rules edge seen → Shows face edge seen
  beside-shows face edge seen b = record { plain = b.plain; blank = λ e. ap (λ v. v || is_break face || is_none face) (b.blank e) }

-- what starts with one byte and ends with another
pub record Ends (spelling : (first last : Bool) → List ℕ) (x y : ℕ) : Type 0 where
  pub front : (first last : Bool) → (ys : List ℕ) × (spelling first last ≡ x ∷ ys)
  pub back : (first last : Bool) → (zs : List ℕ) × (spelling first last ≡ zs ++ y ∷ [])

ends-first : (spelling : (first last : Bool) → List ℕ) (x y : ℕ) → Ends spelling x y → x < 128 → (first last : Bool) (rest : List ℕ) → first_character (spelling first last ++ rest) ≡ Some x
ends-first spelling x y e h first last rest = let f = e.front first last in ap (λ l. first_character (l ++ rest)) f.1 ∙ first-ascii x (f.0 ++ rest) h

ends-last : (spelling : (first last : Bool) → List ℕ) (x y : ℕ) → Ends spelling x y → y < 128 → (first last : Bool) (before : List ℕ) → IsUtf8 (spelling first last)
    → IsUtf8 (reverse before) → last_character (reverse (spelling first last) ++ before) ≡ Some y
ends-last spelling x y e h first last before v u =
    let b = e.back first last in
    ap (λ l. last_character (reverse l ++ before)) b.1
    ∙ ap (λ l. last_character (l ++ before)) (reverse-append b.0 (y ∷ []))
    ∙ last-ascii y (reverse b.0 ++ before) h (further-utf8 b.0 before (before-ascii b.0 y h (subst IsUtf8 b.1 v)) u)

ends-begin : (spelling : (first last : Bool) → List ℕ) (x y m : ℕ) → Ends spelling x y → (x == m) ≡ false → (first last : Bool) (rest : List ℕ) → begins_with m (spelling first last ++ rest) ≡ false
ends-begin spelling x y m e h first last rest = let f = e.front first last in ap (λ l. begins_with m (l ++ rest)) f.1 ∙ h

ends-line : (spelling : (first last : Bool) → List ℕ) (x y : ℕ) → Ends spelling x y → (x == 32) ≡ false → (x == 10) ≡ false → (first last : Bool) (rest : List ℕ) → is_before_line_end (spelling first last ++ rest) ≡ false
ends-line spelling x y e h k first last rest = let f = e.front first last in ap (λ l. is_before_line_end (l ++ rest)) f.1 ∙ no-line-here x (f.0 ++ rest) h k

-- No text is after a text, no code span after a code span, no emphasis after emphasis; and no break comes first or last.
pub record StandsApart (face : Face) (before after : Option Face) : Type 0 where
  pub text : (is_text before && is_text (Some face)) ≡ false
  pub code : (is_code before && is_code (Some face)) ≡ false
  pub emphasis : (is_emphasis before && is_emphasis (Some face)) ≡ false
  pub first : is_none before ≡ true → is_break (Some face) ≡ false
  pub last : is_none after ≡ true → is_break (Some face) ≡ false

module _ (rules : Rules) where
  -- What is known of an accepted inline between two faces, whatever is before it and after it.
  pub record Facts (face : Face) (spelling : (first last : Bool) → List ℕ) (ends_line : Bool) (before after : Option Face) : Type 0 where
    pub begins : (first last : Bool) (rest : List ℕ) → Shows rules (Some face) (first_of (Some face)) (neighbour rules (first_character (spelling first last ++ rest)))
    pub ends : (first last : Bool) (beyond : List ℕ) → IsUtf8 (reverse beyond)
        → Shows rules (Some face) (last_of (Some face)) (neighbour rules (last_character (reverse (spelling first last) ++ beyond)))
    pub no_line_end : ends_line ≡ false → is_text (Some face) ≡ false → (first last : Bool) (rest : List ℕ) → is_before_line_end (spelling first last ++ rest) ≡ false
    pub no_tick : is_code (Some face) ≡ false → (first last : Bool) (rest : List ℕ) → begins_with 96 (spelling first last ++ rest) ≡ false
    pub no_star : is_emphasis (Some face) ≡ false → (first last : Bool) (rest : List ℕ) → begins_with 42 (spelling first last ++ rest) ≡ false
    pub no_tilde : is_emphasis (Some face) ≡ false → (first last : Bool) (rest : List ℕ) → begins_with 126 (spelling first last ++ rest) ≡ false
    pub apart : StandsApart face before after

  -- of each kind but a text, from its first and its last byte
  pub record Bytes (face : Face) (ends_line : Bool) (before after : Option Face) (x y : ℕ) : Type 0 where
    pub first_low : x < 128
    pub last_low : y < 128
    pub first_shows : Shows rules (Some face) (first_of (Some face)) (neighbour rules (Some x))
    pub last_shows : Shows rules (Some face) (last_of (Some face)) (neighbour rules (Some y))
    pub no_space : (x == 32) ≡ false
    pub no_feed : ends_line ≡ false → (x == 10) ≡ false
    pub no_tick : is_code (Some face) ≡ false → (x == 96) ≡ false
    pub no_star : is_emphasis (Some face) ≡ false → (x == 42) ≡ false
    pub no_tilde : is_emphasis (Some face) ≡ false → (x == 126) ≡ false
    pub apart : StandsApart face before after

  pub by-bytes : (face : Face) (spelling : (first last : Bool) → List ℕ) (ends_line : Bool) (before after : Option Face) (x y : ℕ) → Bytes face ends_line before after x y → Ends spelling x y
      → ((first last : Bool) → IsUtf8 (spelling first last))
      → Facts face spelling ends_line before after
  by-bytes face spelling ends_line before after x y b e w = record {
    begins = λ first last rest. subst (λ c. Shows rules (Some face) (first_of (Some face)) (neighbour rules c)) (sym (ends-first spelling x y e b.first_low first last rest)) b.first_shows;
    ends = λ first last beyond u. subst (λ c. Shows rules (Some face) (last_of (Some face)) (neighbour rules c)) (sym (ends-last spelling x y e b.last_low first last beyond (w first last) u)) b.last_shows;
    no_line_end = λ k t first last rest. ends-line spelling x y e b.no_space (b.no_feed k) first last rest;
    no_tick = λ k first last rest. ends-begin spelling x y 96 e (b.no_tick k) first last rest;
    no_star = λ k first last rest. ends-begin spelling x y 42 e (b.no_star k) first last rest;
    no_tilde = λ k first last rest. ends-begin spelling x y 126 e (b.no_tilde k) first last rest;
    apart = b.apart;
  }
