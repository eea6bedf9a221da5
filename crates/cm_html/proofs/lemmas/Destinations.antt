-- What a destination keeps, by the set of what it doesn't.
use Rattle.std.proofs.Common.{◌≡◌, ℕ, ◌/◌, ◌^◌, bit_and, get_or, ◌<◌, ◌≤◌, ◌==◌, ◌||◌, Bool, true, false, not, cond, List, [], ◌∷◌, ◌++◌, codes, refl, ap, sym, ◌∙◌, arith, ⊎_elim}
use Rattle.std.specs.Prelude.{flat_map, nat_lt}
use Rattle.std.specs.List.{list_any, list_all}
use Rattle.std.specs.Char.{is_ascii_alphanumeric}
use Rattle.std.proofs.lemmas.Bool.{agree_below, agree_below_at, and_parts, cases_lt, eqb-true, true≢false}
use Rattle.std.proofs.lemmas.Bool.Decides.{nat_tests}
use Rattle.percent_encoding.specs.declared.ascii_set.AsciiSet.{AsciiSet}
use Rattle.percent_encoding.specs.AsciiSet.{contains, should_percent_encode}
use Rattle.percent_encoding.specs.Percent.{percent_encode, encode_byte, percent_encode_byte}
use Rattle.cm_html.specs.declared.escape.TheConstants.{NOT_KEPT}
use Rattle.cm_html.specs.Escape.{is_kept, escape_byte, escape, destination_byte, destination_html}
use Rattle.cm_html.specs.steps.Bytes.{is_changed}
use Rattle.cm_html.specs.declared.search.TheConstants.{PLAIN_LOW, PLAIN_HIGH}
use Rattle.cm_text.proofs.lemmas.SearchLemmas.{hit}
use Rattle.std.specs.Simd.Lanes.{top}

-- of ASCII, by computation
ascii_kept : agree_below (contains NOT_KEPT) (λ b. not (is_kept b)) 128 ≡ true
unfolding is_kept
ascii_kept = refl

-- an ASCII byte is encoded where the set holds it
ascii_encoded : (set : AsciiSet) (b : ℕ) (t : Bool) → b < 128 → contains set b ≡ t → should_percent_encode set b ≡ t
unfolding should_percent_encode
ascii_encoded set b t low e = grind (arith, nat_tests)

-- any other byte always
other_encoded : (set : AsciiSet) (b : ℕ) → 128 ≤ b → should_percent_encode set b ≡ true
unfolding should_percent_encode
other_encoded set b high = grind (arith, nat_tests)

-- a byte outside ASCII is none of some ASCII bytes
not_among : (b : ℕ) (cs : List ℕ) → list_all (λ c. nat_lt c 128) cs ≡ true → 128 ≤ b → list_any (λ c. c == b) cs ≡ false
not_among b [] small high = refl
not_among b (c ∷ cs) small high =
    let parts = and_parts (nat_lt c 128) (list_all (λ d. nat_lt d 128) cs) small in
    let here = parts.0 in
    let rest = not_among b cs parts.1 high in grind (arith, nat_tests, here, rest)

not_letter : (b : ℕ) → 128 ≤ b → is_ascii_alphanumeric b ≡ false
not_letter b high = grind (arith, nat_tests)

-- and isn't kept
other_kept : (b : ℕ) → 128 ≤ b → is_kept b ≡ false
unfolding is_kept
other_kept b high = rw (not_letter b high) (not_among b (codes "-_.+!*'(),%#@?=;:/&$~") refl high)

kept : (b : ℕ) → should_percent_encode NOT_KEPT b ≡ not (is_kept b)
kept b = ⊎_elim
    (λ low. ascii_encoded NOT_KEPT b (not (is_kept b)) low (agree_below_at (contains NOT_KEPT) (λ c. not (is_kept c)) 128 b ascii_kept low))
    (λ high. other_encoded NOT_KEPT b high ∙ sym (ap not (other_kept b high)))
    (cases_lt b 128)

turned : (t : Bool) (xs ys : List ℕ) → cond (not t) xs ys ≡ cond t ys xs
turned true xs ys = refl
turned false xs ys = refl

byte : (b : ℕ) → encode_byte NOT_KEPT b ≡ destination_byte b
unfolding destination_byte
byte b = ap (λ t. cond t (percent_encode_byte b) (b ∷ [])) (kept b) ∙ turned (is_kept b) (percent_encode_byte b) (b ∷ [])

-- a destination, as the kit's crate encodes it
pub encoded : (bs : List ℕ) → percent_encode NOT_KEPT bs ≡ flat_map destination_byte bs
unfolding percent_encode
encoded [] = refl
encoded (b ∷ bs) = (λ i. byte b i ++ encoded bs i)

-- ---- a destination of which HTML changes no byte

another : (c : ℕ) → is_kept c ≡ false → (b : ℕ) → is_kept b ≡ true → (b == c) ≡ false
another c never b stays = go (b == c) refl
  where
    go : (t : Bool) → (b == c) ≡ t → t ≡ false
    go false e = refl
    go true e = absurd (true≢false (sym stays ∙ ap is_kept (eqb-true b c e) ∙ never))

kept-html : (b : ℕ) → is_kept b ≡ true → (b == 38) ≡ false → escape_byte b ≡ b ∷ []
unfolding is_kept
kept-html b stays other = rw (other, another 60 refl b stays, another 62 refl b stays, another 34 refl b stays) refl

plain : (b : ℕ) → not (is_changed b) ≡ true → (is_kept b ≡ true) × ((b == 38) ≡ false)
unfolding is_changed
plain b h = by (is_kept b) (b == 38) h
  where
    by : (s t : Bool) → not (not s || t) ≡ true → (s ≡ true) × (t ≡ false)
    by true false e = (refl, refl)
    by true true e = cc
    by false t e = cc

plain-byte : (b : ℕ) → is_kept b ≡ true → destination_byte b ≡ b ∷ []
unfolding destination_byte
plain-byte b stays = rw stays refl

pub unchanged : (bs : List ℕ) → list_all (λ b. not (is_changed b)) bs ≡ true → destination_html bs ≡ bs
unchanged [] h = refl
unchanged (b ∷ bs) h =
    let parts = and_parts (not (is_changed b)) (list_all (λ c. not (is_changed c)) bs) h in
    let here = plain b parts.0 in
    ap (λ l. escape (l ++ flat_map destination_byte bs)) (plain-byte b here.0)
    ∙ ap (λ l. l ++ destination_html bs) (kept-html b here.0 here.1)
    ∙ ap (λ l. b ∷ l) (unchanged bs parts.1)

-- the lookup in two tables
pub changed-looked-up : agree_below (λ x. top 7 (hit (bit_and (get_or PLAIN_LOW (bit_and x 15) 0) (get_or PLAIN_HIGH (x / 2 ^ 4) 0)) 0)) is_changed 256 ≡ true
unfolding is_changed is_kept
changed-looked-up = refl

changed-alone : agree_below (λ x. bit_and (get_or PLAIN_LOW (bit_and x 15) 0) (get_or PLAIN_HIGH (x / 2 ^ 4) 0) == 0) is_changed 256 ≡ true
unfolding is_changed is_kept
changed-alone = refl

pub changed-byte : (b : ℕ) → b < 256 → (bit_and (get_or PLAIN_LOW (bit_and b 15) 0) (get_or PLAIN_HIGH (b / 2 ^ 4) 0) == 0) ≡ is_changed b
changed-byte b small = agree_below_at (λ x. bit_and (get_or PLAIN_LOW (bit_and x 15) 0) (get_or PLAIN_HIGH (x / 2 ^ 4) 0) == 0) is_changed 256 b changed-alone small
