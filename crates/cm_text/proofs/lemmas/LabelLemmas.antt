-- Gaps of a text, settled from the left.
use Rattle.std.proofs.Common.{◌≡◌, ◌≢◌, ◌==◌, ℕ, suc, ◌<◌, Bool, if◌then◌else◌, true, false, List, [], ◌∷◌, ◌++◌, length, get_or, refl, ap, sym, ◌∙◌, append_assoc, arith}
use lib.Utf8.{encode}
use Rattle.std.proofs.lemmas.Str.{inside_one, encode_ascii, length-encode, len_utf8_bounds}
use Rattle.std.proofs.lemmas.List.{append-nil}
use Rattle.std.proofs.lemmas.Bool.{and_parts, eqb-true}
use Rattle.std.proofs.lemmas.Bool.Decides.{nat_tests}
use Rattle.cm_text.specs.Labels.{is_gap, collapse_after, settle_gaps}
use Rattle.cm_text.specs.Trims.{skip, keep_byte, trim_end_by}
use Rattle.cm_text.specs.steps.LabelSteps.{is_settled, put_after, settled_by}

-- what a text gives of which a front has been read, where a gap was read last or wasn't
abbrev pub after : (after_gap : Bool) → List ℕ → List ℕ
after after_gap [] = []
after after_gap (b ∷ bs) = elim (is_gap b) [
  | true ↦ after true bs
  | false ↦ elim after_gap [ true ↦ 32 ∷ b ∷ after false bs | false ↦ b ∷ after false bs ]
]

-- a stripped text after a gap
abbrev beyond_gap : List ℕ → List ℕ
beyond_gap [] = []
beyond_gap (b ∷ bs) = 32 ∷ collapse_after true (b ∷ bs)

after-gap : (g : Bool) (b : ℕ) (bs : List ℕ) → is_gap b ≡ true → after g (b ∷ bs) ≡ after true bs
after-gap g b bs h = ap (λ t. elim t as (λ _. List ℕ) [ true ↦ after true bs | false ↦ elim g as (λ _. List ℕ) [ true ↦ 32 ∷ b ∷ after false bs | false ↦ b ∷ after false bs ] ]) h

after-text : (g : Bool) (b : ℕ) (bs : List ℕ) → is_gap b ≡ false → after g (b ∷ bs) ≡ elim g as (λ _. List ℕ) [ true ↦ 32 ∷ b ∷ after false bs | false ↦ b ∷ after false bs ]
after-text g b bs h = ap (λ t. elim t as (λ _. List ℕ) [ true ↦ after true bs | false ↦ elim g as (λ _. List ℕ) [ true ↦ 32 ∷ b ∷ after false bs | false ↦ b ∷ after false bs ] ]) h

collapse-gap : (g : Bool) (b : ℕ) (bs : List ℕ) → is_gap b ≡ true → collapse_after g (b ∷ bs) ≡ (if g then collapse_after true bs else 32 ∷ collapse_after true bs)
collapse-gap g b bs h = ap (λ t. if t then (if g then collapse_after true bs else 32 ∷ collapse_after true bs) else b ∷ collapse_after false bs) h

collapse-text : (g : Bool) (b : ℕ) (bs : List ℕ) → is_gap b ≡ false → collapse_after g (b ∷ bs) ≡ b ∷ collapse_after false bs
collapse-text g b bs h = ap (λ t. if t then (if g then collapse_after true bs else 32 ∷ collapse_after true bs) else b ∷ collapse_after false bs) h

keep-gap : (b : ℕ) → is_gap b ≡ true → keep_byte is_gap b [] ≡ []
keep-gap b h = ap (λ t. if t then [] else b ∷ []) h

keep-text : (b : ℕ) (x : List ℕ) → is_gap b ≡ false → keep_byte is_gap b x ≡ b ∷ x
keep-text b [] h = ap (λ t. if t then [] else b ∷ []) h
keep-text b (c ∷ cs) h = refl

plain_is : (g : Bool) (b : ℕ) (bs : List ℕ) (x : List ℕ) → is_gap b ≡ g
    → after false bs ≡ collapse_after false x → after true bs ≡ beyond_gap x
    → after false (b ∷ bs) ≡ collapse_after false (keep_byte is_gap b x)
plain_is true b bs [] g p q = after-gap false b bs g ∙ q ∙ sym (ap (λ t. collapse_after false t) (keep-gap b g))
plain_is true b bs (c ∷ cs) g p q = after-gap false b bs g ∙ q ∙ sym (collapse-gap false b (c ∷ cs) g)
plain_is false b bs x g p q = after-text false b bs g ∙ ap (λ t. b ∷ t) p ∙ sym (ap (λ t. collapse_after false t) (keep-text b x g) ∙ collapse-text false b x g)

beyond_is : (g : Bool) (b : ℕ) (bs : List ℕ) (x : List ℕ) → is_gap b ≡ g
    → after false bs ≡ collapse_after false x → after true bs ≡ beyond_gap x
    → after true (b ∷ bs) ≡ beyond_gap (keep_byte is_gap b x)
beyond_is true b bs [] g p q = after-gap true b bs g ∙ q ∙ sym (ap (λ t. beyond_gap t) (keep-gap b g))
beyond_is true b bs (c ∷ cs) g p q = after-gap true b bs g ∙ q ∙ sym (ap (λ t. 32 ∷ t) (collapse-gap true b (c ∷ cs) g))
beyond_is false b bs x g p q = after-text true b bs g ∙ ap (λ t. 32 ∷ b ∷ t) p ∙ sym (ap (λ t. beyond_gap t) (keep-text b x g) ∙ ap (λ t. 32 ∷ t) (collapse-text true b x g))

both : (bs : List ℕ) → (after false bs ≡ collapse_after false (trim_end_by is_gap bs)) × (after true bs ≡ beyond_gap (trim_end_by is_gap bs))
unfolding trim_end_by
both [] = (refl, refl)
both (b ∷ bs) =
    let h = both bs in
    (plain_is (is_gap b) b bs (trim_end_by is_gap bs) refl h.0 h.1, beyond_is (is_gap b) b bs (trim_end_by is_gap bs) refl h.0 h.1)

pub after_is : (text : List ℕ) → after false (skip is_gap text) ≡ settle_gaps text
unfolding settle_gaps
after_is text = (both (skip is_gap text)).0

-- what the rest of a text gives after what was made of its front
abbrev pub rest_after : (made : List ℕ) (after_gap : Bool) → List ℕ → List ℕ
rest_after [] after_gap rest = after false (skip is_gap rest)
rest_after (b ∷ bs) after_gap rest = after after_gap rest

strip-gap : (b : ℕ) (bs : List ℕ) → is_gap b ≡ true → skip is_gap (b ∷ bs) ≡ skip is_gap bs
unfolding skip
strip-gap b bs h = ap (λ t. elim t as (λ _. List ℕ) [ true ↦ skip is_gap bs | false ↦ b ∷ bs ]) h

strip-text : (b : ℕ) (bs : List ℕ) → is_gap b ≡ false → skip is_gap (b ∷ bs) ≡ b ∷ bs
unfolding skip
strip-text b bs h = ap (λ t. elim t as (λ _. List ℕ) [ true ↦ skip is_gap bs | false ↦ b ∷ bs ]) h

gap_in : (made : List ℕ) (g : Bool) (b : ℕ) (bs : List ℕ) → is_gap b ≡ true → rest_after made g (b ∷ bs) ≡ rest_after made true bs
gap_in [] g b bs h = ap (λ t. after false t) (strip-gap b bs h)
gap_in (m ∷ ms) g b bs h = after-gap g b bs h

-- no byte of the text is a gap
abbrev NoGap : List ℕ → Type 0
NoGap bytes = (k : ℕ) → k < length bytes → is_gap (get_or bytes k 0) ≡ false

plain_run : (bytes rest : List ℕ) → NoGap bytes → after false (bytes ++ rest) ≡ bytes ++ after false rest
plain_run [] rest h = refl
plain_run (b ∷ bs) rest h = after-text false b (bs ++ rest) (h 0 (omega arith)) ∙ ap (λ t. b ∷ t) (plain_run bs rest (λ k l. h (suc k) (omega arith)))

text_in : (made : List ℕ) (g : Bool) (b : ℕ) (bs rest : List ℕ) → NoGap (b ∷ bs)
    → rest_after made g ((b ∷ bs) ++ rest) ≡ put_after made g (b ∷ bs) ++ after false rest
text_in [] g b bs rest h = ap (λ t. after false t) (strip-text b (bs ++ rest) (h 0 (omega arith))) ∙ plain_run (b ∷ bs) rest h
text_in (m ∷ ms) true b bs rest h = after-text true b (bs ++ rest) (h 0 (omega arith)) ∙ ap (λ t. 32 ∷ b ∷ t) (plain_run bs rest (λ k l. h (suc k) (omega arith)))
text_in (m ∷ ms) false b bs rest h = plain_run (b ∷ bs) rest h

ends_open : (made : List ℕ) (g : Bool) (b : ℕ) (bs rest : List ℕ) → rest_after (made ++ put_after made g (b ∷ bs)) false rest ≡ after false rest
ends_open [] g b bs rest = refl
ends_open (m ∷ ms) g b bs rest = refl

text_read : (made : List ℕ) (g : Bool) (bytes rest : List ℕ) → 0 < length bytes → NoGap bytes
    → (made ++ put_after made g bytes) ++ rest_after (made ++ put_after made g bytes) false rest ≡ made ++ rest_after made g (bytes ++ rest)
text_read made g [] rest l h = absurd (omega arith)
text_read made g (b ∷ bs) rest l h = ap (λ t. (made ++ put_after made g (b ∷ bs)) ++ t) (ends_open made g b bs rest)
    ∙ append_assoc made (put_after made g (b ∷ bs)) (after false rest) ∙ ap (λ t. made ++ t) (sym (text_in made g b bs rest h))

plain_byte : (b : ℕ) → b ≢ 32 → b ≢ 9 → b ≢ 10 → b ≢ 13 → is_gap b ≡ false
plain_byte b p q r s = grind (arith, nat_tests)

not_gap : (c : ℕ) → is_gap c ≡ false → NoGap (encode c)
not_gap c h k l =
    let to : get_or (encode c) k 0 < 128 → c ≡ get_or (encode c) k 0 = inside_one c [] (encode c) k (sym (append-nil (encode c))) l in
    let case : (b : ℕ) → b ≡ get_or (encode c) k 0 → b < 128 → is_gap b ≡ false = λ b e n. ap is_gap (e ∙ sym (to (omega (arith, e)))) ∙ h in
    let other : (n : ℕ) → n < 128 → is_gap n ≡ true → get_or (encode c) k 0 ≢ n = λ n m g e. let f : true ≡ false = sym g ∙ case n (sym e) m in cc in
    plain_byte (get_or (encode c) k 0) (other 32 (omega arith) refl) (other 9 (omega arith) refl) (other 10 (omega arith) refl) (other 13 (omega arith) refl)

below : (c : ℕ) → is_gap c ≡ true → c < 128
below c h = grind (arith, nat_tests)

-- a gap is read
pub gap_read : (made : List ℕ) (g : Bool) (c : ℕ) (rest text : List ℕ) → is_gap c ≡ true → text ≡ encode c ++ rest
    → rest_after made g text ≡ rest_after made true rest
gap_read made g c rest text h e = ap (λ t. rest_after made g t) (e ∙ ap (λ t. t ++ rest) (encode_ascii c (below c h))) ∙ gap_in made g c rest h

-- another character is read
pub char_read : (made next : List ℕ) (g : Bool) (c : ℕ) (rest text : List ℕ) → is_gap c ≡ false → text ≡ encode c ++ rest
    → next ≡ made ++ put_after made g (encode c) → next ++ rest_after next false rest ≡ made ++ rest_after made g text
char_read made next g c rest text h e n = rw (n, e) (text_read made g (encode c) rest (rw (length-encode c) ((len_utf8_bounds c).0)) (not_gap c h))

-- nothing is read yet
pub none_read : (made rest text : List ℕ) → made ≡ [] → rest ≡ text → made ++ rest_after made false rest ≡ settle_gaps text
none_read made rest text e f = rw (e, f) (after_is text)

-- ---- a text that is settled unchanged

module _ (b : ℕ) (bs : List ℕ) (plain : is_settled false bs ≡ true → after false bs ≡ bs) (beyond : is_settled true bs ≡ true → after true bs ≡ 32 ∷ bs) where
  settled_plain : (g : Bool) → is_gap b ≡ g → settled_by g false (b == 32) (is_settled true bs) (is_settled false bs) ≡ true → after false (b ∷ bs) ≡ b ∷ bs
  settled_plain true g h =
      let parts = and_parts (b == 32) (is_settled true bs) h in
      after-gap false b bs g ∙ beyond parts.1 ∙ ap (λ x. x ∷ bs) (sym (eqb-true b 32 parts.0))
  settled_plain false g h = after-text false b bs g ∙ ap (λ t. b ∷ t) (plain h)

  settled_beyond : (g : Bool) → is_gap b ≡ g → settled_by g true (b == 32) (is_settled true bs) (is_settled false bs) ≡ true → after true (b ∷ bs) ≡ 32 ∷ b ∷ bs
  settled_beyond true g h = cc
  settled_beyond false g h = after-text true b bs g ∙ ap (λ t. 32 ∷ b ∷ t) (plain h)

settled_both : (bs : List ℕ) → (is_settled false bs ≡ true → after false bs ≡ bs) × (is_settled true bs ≡ true → after true bs ≡ 32 ∷ bs)
settled_both [] = (λ h. refl, λ h. cc)
settled_both (b ∷ bs) =
    let h = settled_both bs in
    (settled_plain b bs h.0 h.1 (is_gap b) refl, settled_beyond b bs h.0 h.1 (is_gap b) refl)

settled_front : (g : Bool) (b : ℕ) (bs : List ℕ) → is_gap b ≡ g → settled_by g true (b == 32) (is_settled true bs) (is_settled false bs) ≡ true
    → after false (skip is_gap (b ∷ bs)) ≡ b ∷ bs
settled_front true b bs g h = cc
settled_front false b bs g h = ap (λ t. after false t) (strip-text b bs g) ∙ after-text false b bs g ∙ ap (λ t. b ∷ t) ((settled_both bs).0 h)

pub settled : (text : List ℕ) → is_settled true text ≡ true → settle_gaps text ≡ text
settled [] h = cc
settled (b ∷ bs) h = sym (after_is (b ∷ bs)) ∙ settled_front (is_gap b) b bs refl h
