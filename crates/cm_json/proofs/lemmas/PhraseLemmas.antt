-- Which texts are written as they are held.
use Rattle.std.proofs.Common.{◌≡◌, ℕ, ◌<◌, ◌≤◌, ◌^◌, Bool, true, false, cond, List, [], ◌∷◌, ◌++◌, length, get_or, decimal, nat_lt, refl, sym, ap, ap₂, ◌∙◌, inl, inr, arith, zero, suc}
use Rattle.std.specs.List.{list_all}
use Rattle.std.specs.Prelude.{Result, Ok, Err, OnOk}
use Rattle.std.proofs.lemmas.Bool.{agree_below_at, and_parts, cases_lt, ltb-true}
use Rattle.std.proofs.lemmas.Fmt.{decimal_is_IsNumeral}
use Rattle.std.proofs.lemmas.List.Concat.{flat_map-append}
use Rattle.std.proofs.lemmas.Str.Parse.{digit_at}
use Rattle.json.specs.Print.{escape, escape_byte}
use Rattle.cm_json.specs.steps.Phrases.{is_held, phrases, written, expanded}

-- the byte isn't held for a phrase
abbrev is_free : ℕ → Bool
is_free b = nat_lt 31 b

pub free_is_written : (b : ℕ) → is_held b ≡ false → written b ≡ b ∷ []
free_is_written b free = ap (λ held. cond held (get_or phrases b []) (b ∷ [])) free

-- no phrase is long
pub phrases_are_short : (b : ℕ) → length (written b) ≤ 64
phrases_are_short b = elim (cases_lt b 32) [
  | inl low ↦ let short = agree_below_at (λ x. nat_lt (length (written x)) 65) (λ x. true) 32 b refl low in omega (arith, ltb-true (length (written b)) 65 short)
  | inr high ↦ omega (arith, ap length (free_is_written b (grind (arith, high))))
]

-- a text of such bytes
as_held : (bs : List ℕ) → ((i : ℕ) → i < length bs → 32 ≤ get_or bs i 0) → expanded bs ≡ bs
as_held [] free = refl
as_held (b ∷ bs) free =
    let low = free 0 (omega arith) in
    ap₂ (λ front rest. front ++ rest) (free_is_written b (grind (arith, low))) (as_held bs (λ i within. free (suc i) (omega arith)))

pub decimal_as_held : (n : ℕ) → n < 2 ^ 64 → expanded (decimal n) ≡ decimal n
decimal_as_held n small = as_held (decimal n) (λ i within. let d = digit_at _ i (decimal_is_IsNumeral n small).0.1 within in omega (arith, d))

free_at : (bs : List ℕ) (i : ℕ) → list_all is_free bs ≡ true → i < length bs → is_free (get_or bs i 0) ≡ true
free_at [] i free within = absurd (omega arith)
free_at (b ∷ bs) zero free within = (and_parts _ _ free).0
free_at (b ∷ bs) (suc i) free within = free_at bs i (and_parts _ _ free).1 (omega arith)

byte_as_held : (b : ℕ) → expanded (escape_byte b) ≡ escape_byte b
unfolding escape_byte
byte_as_held b = elim (cases_lt b 128) [
  | inl low ↦
      let free = agree_below_at (λ x. list_all is_free (escape_byte x)) (λ x. true) 128 b refl low in
      as_held (escape_byte b) (λ i within. let here = free_at (escape_byte b) i free within in omega (arith, ltb-true 31 (get_or (escape_byte b) i 0) here))
  | inr high ↦
      let same : escape_byte b ≡ b ∷ [] = grind (arith, high) in
      ap expanded same ∙ ap (λ t. t ++ []) (free_is_written b (grind (arith, high))) ∙ sym same
]

pub escape_as_held : (text : List ℕ) → expanded (escape text) ≡ escape text
escape_as_held [] = refl
escape_as_held (b ∷ bs) =
    flat_map-append written (escape_byte b) (escape bs) ∙ ap₂ (λ front rest. front ++ rest) (byte_as_held b) (escape_as_held bs)

-- such a text is put after a held one
pub held_pushed : {T E : Type 0} (r : Result T E) (old new more seen : List ℕ) → OnOk r (new ≡ old ++ more) → expanded more ≡ more → expanded old ≡ seen → OnOk r (expanded new ≡ seen ++ more)
held_pushed (Ok x) old new more seen pushed same view = ap expanded pushed ∙ flat_map-append written old more ∙ ap₂ (λ front rest. front ++ rest) view same
held_pushed (Err e) old new more seen pushed same view = tt
