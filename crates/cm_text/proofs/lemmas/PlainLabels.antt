-- Labels of visible characters that case folding keeps, and single spaces.
use Rattle.std.proofs.Common.{◌≡◌, ℕ, zero, suc, ◌<◌, ◌==◌, ◌&&◌, ◌||◌, not, Bool, true, false, List, [], ◌∷◌, ◌++◌, length, map, refl, ap, ap₂, sym, ◌∙◌, arith, chars}
use Rattle.std.specs.Prelude.{IsAscii, IsUtf8, nat_le, nat_lt, flat_map, encode_utf8_all}
use Rattle.std.specs.List.{list_all}
use Rattle.std.specs.Char.{to_ascii_lowercase}
use Rattle.std.proofs.lemmas.Bool.{and_parts}
use Rattle.std.proofs.lemmas.Bool.Decides.{nat_tests}
use Rattle.std.proofs.lemmas.Str.{encodes-chars}
use Rattle.caseless.specs.Caseless.{default_case_fold}
use Rattle.ucd_case.specs.CaseFolding.{full_fold, full_folding, or_itself}
use Rattle.cm_text.specs.Labels.{is_gap, case_fold, settle_gaps, fold_label}
use Rattle.cm_text.specs.steps.LabelSteps.{is_settled, settled_by}
use Rattle.cm_text.specs.PlainLabels.{is_plain_byte, is_plain, is_kept, is_all_ascii, is_own_fold, is_bracketing, is_bare}
use Rattle.cm_text.proofs.lemmas.FoldLemmas.{ascii_folds}
use Rattle.cm_text.proofs.lemmas.LabelLemmas.{settled}

-- a byte of an ASCII label is its own small letter

small : (after : Bool) (b : ℕ) (bs : List ℕ) → is_plain after (b ∷ bs) ≡ true → b < 128 → to_ascii_lowercase b ≡ b
small after b bs h ascii = by_kind (is_plain_byte b || nat_le 128 b) refl h
  where
    by_kind : (plain : Bool) → (is_plain_byte b || nat_le 128 b) ≡ plain → elim plain [ true ↦ is_plain false bs | false ↦ b == 32 && not after && is_plain true bs ] ≡ true → to_ascii_lowercase b ≡ b
    by_kind true e k = grind (arith, nat_tests, e, ascii)
    by_kind false e k = let space = (and_parts (b == 32) (not after) (and_parts (b == 32 && not after) (is_plain true bs) k).0).0 in grind (arith, nat_tests, space)

no_gap : (b : ℕ) → (is_plain_byte b || nat_le 128 b) ≡ true → is_gap b ≡ false
no_gap b h = grind (arith, nat_tests)

-- what follows such a byte is plain
rest_plain : (after : Bool) (b : ℕ) (bs : List ℕ) → is_plain after (b ∷ bs) ≡ true → is_plain (not (is_plain_byte b || nat_le 128 b)) bs ≡ true
rest_plain after b bs h = by_kind (is_plain_byte b || nat_le 128 b) h
  where
    by_kind : (plain : Bool) → elim plain [ true ↦ is_plain false bs | false ↦ b == 32 && not after && is_plain true bs ] ≡ true → is_plain (not plain) bs ≡ true
    by_kind true k = k
    by_kind false k = (and_parts (b == 32 && not after) (is_plain true bs) k).1

ascii_byte : (b : ℕ) → nat_lt b 128 ≡ true → b < 128
ascii_byte b h = grind (arith, nat_tests)

all_ascii : (text : List ℕ) → is_all_ascii text ≡ true → IsAscii text
all_ascii [] h zero = omega arith
all_ascii [] h (suc i) = omega arith
all_ascii (b ∷ bs) h zero = ascii_byte b (and_parts (nat_lt b 128) (is_all_ascii bs) h).0
all_ascii (b ∷ bs) h (suc i) = all_ascii bs (and_parts (nat_lt b 128) (is_all_ascii bs) h).1 i

plain_lower : (after : Bool) (text : List ℕ) → is_plain after text ≡ true → is_all_ascii text ≡ true → map to_ascii_lowercase text ≡ text
plain_lower after [] h a = refl
plain_lower after (b ∷ bs) h a =
    let parts = and_parts (nat_lt b 128) (is_all_ascii bs) a in
    λ i. small after b bs h (ascii_byte b parts.0) i ∷ plain_lower (not (is_plain_byte b || nat_le 128 b)) bs (rest_plain after b bs h) parts.1 i

plain_settled : (after : Bool) (text : List ℕ) → is_plain after text ≡ true → is_settled after text ≡ true
plain_settled after [] h = h
plain_settled after (b ∷ bs) h = by_kind (is_plain_byte b || nat_le 128 b) refl h (λ other. plain_settled other bs)
  where
    by_kind : (plain : Bool) → (is_plain_byte b || nat_le 128 b) ≡ plain → elim plain [ true ↦ is_plain false bs | false ↦ b == 32 && not after && is_plain true bs ] ≡ true
        → ((other : Bool) → is_plain other bs ≡ true → is_settled other bs ≡ true) → is_settled after (b ∷ bs) ≡ true
    by_kind true e k rest = ap (λ g. settled_by g after (b == 32) (is_settled true bs) (is_settled false bs)) (no_gap b e) ∙ rest false k
    by_kind false e k rest =
        let parts = and_parts (b == 32 && not after) (is_plain true bs) k in
        let space = and_parts (b == 32) (not after) parts.0 in
        spaced after space.0 space.1 (rest true parts.1)
      where
        spaced : (before : Bool) → (b == 32) ≡ true → not before ≡ true → is_settled true bs ≡ true → is_settled before (b ∷ bs) ≡ true
        spaced false s n r = grind (arith, nat_tests, s, r)
        spaced true s n r = cc

-- the case of such a text

no_string : (string : List ℕ) (c : ℕ) → (length string == 0) ≡ true → or_itself c string ≡ c ∷ []
no_string [] c h = refl
no_string (x ∷ xs) c h = absurd (grind (arith, nat_tests))

kept_fold : (cs : List ℕ) → list_all is_kept cs ≡ true → default_case_fold cs ≡ cs
unfolding default_case_fold
kept_fold [] h = refl
kept_fold (c ∷ cs) h =
    let parts = and_parts (is_kept c) (list_all is_kept cs) h in
    ap (λ string. string ++ flat_map full_fold cs) (no_string (full_folding c) c parts.0) ∙ ap (λ rest. c ∷ rest) (kept_fold cs parts.1)

kept_case : (text : List ℕ) → IsUtf8 text → list_all is_kept (chars text) ≡ true → case_fold text ≡ text
unfolding case_fold
kept_case text utf8 h = ap encode_utf8_all (kept_fold (chars text) h) ∙ encodes-chars text utf8

own_case : (text : List ℕ) → IsUtf8 text → is_plain true text ≡ true → (is_all_ascii text || list_all is_kept (chars text)) ≡ true → case_fold text ≡ text
own_case text utf8 plain h = by_kind (is_all_ascii text) refl h
  where
    by_kind : (ascii : Bool) → is_all_ascii text ≡ ascii → (ascii || list_all is_kept (chars text)) ≡ true → case_fold text ≡ text
    by_kind true e k = ascii_folds text (all_ascii text e) ∙ plain_lower true text plain e
    by_kind false e k = kept_case text utf8 k

-- such a text is bare

no_bracket : (b : ℕ) → (is_plain_byte b || nat_le 128 b) ≡ true → not (is_bracketing b) ≡ true
no_bracket b h = grind (arith, nat_tests)

space_no_bracket : (b : ℕ) → (b == 32) ≡ true → not (is_bracketing b) ≡ true
space_no_bracket b h = grind (arith, nat_tests)

no_brackets : (after : Bool) (text : List ℕ) → is_plain after text ≡ true → list_all (λ c. not (is_bracketing c)) text ≡ true
no_brackets after [] h = refl
no_brackets after (b ∷ bs) h =
    ap₂ ◌&&◌ (by_kind (is_plain_byte b || nat_le 128 b) refl h) (no_brackets (not (is_plain_byte b || nat_le 128 b)) bs (rest_plain after b bs h))
  where
    by_kind : (plain : Bool) → (is_plain_byte b || nat_le 128 b) ≡ plain → elim plain [ true ↦ is_plain false bs | false ↦ b == 32 && not after && is_plain true bs ] ≡ true → not (is_bracketing b) ≡ true
    by_kind true e k = no_bracket b e
    by_kind false e k = space_no_bracket b (and_parts (b == 32) (not after) (and_parts (b == 32 && not after) (is_plain true bs) k).0).0

pub plain_bare : (text : List ℕ) → is_plain true text ≡ true → is_bare text ≡ true
plain_bare [] h = h
plain_bare (b ∷ bs) h = ap₂ ◌&&◌ (by_kind (is_plain_byte b || nat_le 128 b) refl h) (no_brackets true (b ∷ bs) h)
  where
    by_kind : (plain : Bool) → (is_plain_byte b || nat_le 128 b) ≡ plain → elim plain [ true ↦ is_plain false bs | false ↦ b == 32 && false && is_plain true bs ] ≡ true → not (is_gap b) ≡ true
    by_kind true e k = ap not (no_gap b e)
    by_kind false e k = absurd (grind (arith, nat_tests, k))

-- it is read to its end, which no space is before
pub read_out : (label rest : List ℕ) (after : Bool) → is_plain true label ≡ is_plain after rest → rest ≡ [] → after ≡ false → is_plain true label ≡ true
read_out label rest after h none e = h ∙ ap (is_plain after) none ∙ ap not e

pub with_true : (test : Bool) → (test || true) ≡ true
with_true true = refl
with_true false = refl

-- such a label is its own folded form
pub own_folds : (label : List ℕ) → IsUtf8 label → is_own_fold label ≡ true → label ≡ fold_label label
unfolding fold_label
own_folds label utf8 h =
    let parts = and_parts (is_plain true label) (is_all_ascii label || list_all is_kept (chars label)) h in
    sym (ap settle_gaps (own_case label utf8 parts.0 parts.1) ∙ settled label (plain_settled true label parts.0))
