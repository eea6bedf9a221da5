-- How a byte of a text is spelled: by its number, after a backslash, or as it is.
use Rattle.std.proofs.Common.{◌≡◌, ℕ, ◌+◌, ◌<◌, Bool, true, false, not, ◌&&◌, ◌||◌, ◌==◌, List, [], ◌∷◌, ◌++◌, length, take, drop, Some, None, refl, sym, ap, subst, ◌∙◌, arith, append_assoc, length-append}
use Rattle.std.specs.Prelude.{if◌then◌else◌}
use Rattle.std.specs.Char.{is_ascii_control, is_ascii_digit}
use Rattle.std.specs.Fmt.{decimal, digits}
use Rattle.std.specs.List.{list_all, prefix_len}
use Rattle.std.specs.Str.Parse.{digits_value}
use Rattle.std.specs.Int.{is_in_range}
use Rattle.std.proofs.lemmas.Bool.{and_parts, cond_both, cond-true, eqb-true, false≢true, agree_below, agree_below_at, not-true, or_parts}
use Rattle.std.proofs.lemmas.Bool.Decides.{nat_tests}
use lib.Seq.{take_at, drop_at}
use Rattle.cm_text.specs.Characters.{is_ascii_punct}
use Rattle.cm_text.specs.References.{begins_with, before_semicolon, numbered as read_number, numbered_character, reference}
use Rattle.cm_text.proofs.lemmas.ReferenceLemmas.{reference-decimal}
use Rattle.cm_scan.specs.Words.{is_empty}
use Rattle.cm_source.specs.Texts.{numbered, spelled_byte, spelled_bytes, edge_byte, spelled_text}

-- a byte that is written by its number
abbrev pub is_numbered : ℕ → Bool
is_numbered b = b == 96 || is_ascii_control b

-- these bytes spell this one, in one of three ways
pub data SpellsByte (b : ℕ) : List ℕ → Type 0 where
  ByNumber : b < 128 → SpellsByte b (numbered b)
  Escaped : is_ascii_punct b ≡ true → (b == 96) ≡ false → SpellsByte b (92 ∷ b ∷ [])
  AsItIs : is_numbered b ≡ false → is_ascii_punct b ≡ false → SpellsByte b (b ∷ [])

-- these bytes spell those of a text, each in one of these ways
pub data SpellsBytes : List ℕ → List ℕ → Type 0 where
  NoByte : SpellsBytes [] []
  OneByte : {b : ℕ} {bs first others : List ℕ} → SpellsByte b first → SpellsBytes bs others → SpellsBytes (b ∷ bs) (first ++ others)

-- a byte that isn't is no control character
pub no-control : (b : ℕ) → is_numbered b ≡ false → is_ascii_control b ≡ false
no-control b e = (or_parts (b == 96) (is_ascii_control b) e).1

numbered_small : (b : ℕ) → is_numbered b ≡ true → b < 128
numbered_small b e = grind (arith, nat_tests, e)

pub spells_byte : (b : ℕ) → SpellsByte b (spelled_byte b)
unfolding spelled_byte
spells_byte b =
    cond_both (is_numbered b) (numbered b) (if is_ascii_punct b then 92 ∷ b ∷ [] else b ∷ []) (SpellsByte b) (λ e. ByNumber (numbered_small b e))
    (λ e. cond_both (is_ascii_punct b) (92 ∷ b ∷ []) (b ∷ []) (SpellsByte b) (λ g. Escaped g (or_parts (b == 96) (is_ascii_control b) e).0) (λ g. AsItIs e g))

pub spells_edge : (at_edge : Bool) (b : ℕ) → SpellsByte b (edge_byte at_edge b)
spells_edge false b = spells_byte b
spells_edge true b = cond_both (b == 32) (numbered 32) (spelled_byte b) (SpellsByte b)
    (λ e. subst (λ c. SpellsByte c (numbered 32)) (sym (eqb-true b 32 e)) (ByNumber (omega arith))) (λ e. spells_byte b)

pub spells_bytes : (text : List ℕ) → SpellsBytes text (spelled_bytes text)
spells_bytes [] = NoByte
spells_bytes (b ∷ bs) = OneByte (spells_byte b) (spells_bytes bs)

pub spells_text : (first last : Bool) (text : List ℕ) → SpellsBytes text (spelled_text first last text)
unfolding spelled_text
spells_text first last [] = NoByte
spells_text first last (b ∷ bs) = OneByte (spells_edge (first || last && is_empty bs) b) (spells_text false last bs)

-- ---- a number is read back

-- the digits of a number below 128 are those of a decimal reference to it
abbrev is_read_back : ℕ → Bool
is_read_back b =
    list_all is_ascii_digit (decimal b) && (is_in_range 1 7 (length (decimal b)) && (numbered_character (digits_value 10 (decimal b)) == b || b == 0))
    && (not (begins_with 120 (decimal b)) && not (begins_with 88 (decimal b)))

all_read_back : agree_below is_read_back (λ b. true) 128 ≡ true
unfolding digits
all_read_back = refl

digits_passed : (ds cs : List ℕ) → list_all is_ascii_digit ds ≡ true → prefix_len is_ascii_digit (ds ++ 59 ∷ cs) ≡ length ds
digits_passed [] cs h = refl
digits_passed (d ∷ ds) cs h =
    let both = and_parts (is_ascii_digit d) (list_all is_ascii_digit ds) h in
    cond-true (is_ascii_digit d) (1 + prefix_len is_ascii_digit (ds ++ 59 ∷ cs)) 0 both.0 ∙ omega (arith, digits_passed ds cs both.1)

digits_read : (ds cs : List ℕ) → list_all is_ascii_digit ds ≡ true → before_semicolon is_ascii_digit (ds ++ 59 ∷ cs) ≡ Some ds
digits_read ds cs h =
    ap (λ n. if begins_with 59 (drop n (ds ++ 59 ∷ cs)) then Some (take n (ds ++ 59 ∷ cs)) else None) (digits_passed ds cs h)
    ∙ ap (λ t. if begins_with 59 t then Some (take (length ds) (ds ++ 59 ∷ cs)) else None) (drop_at ds (59 ∷ cs) (length ds) refl)
    ∙ ap (λ t. Some t) (take_at ds (59 ∷ cs) (length ds) refl)

begins_front : (x : ℕ) (ds cs : List ℕ) → (59 == x) ≡ false → not (begins_with x ds) ≡ true → begins_with x (ds ++ 59 ∷ cs) ≡ false
begins_front x [] cs e h = e
begins_front x (d ∷ ds) cs e h = not-true (d == x) h

either_way : (x y : Bool) → (x || y) ≡ true → y ≡ false → x ≡ true
either_way true y e h = refl
either_way false y e h = absurd (false≢true (sym h ∙ e))

pub number_read : (b : ℕ) (cs : List ℕ) → b < 128 → (b == 0) ≡ false → reference (numbered b ++ cs) ≡ Some (b ∷ [], length (numbered b))
number_read b cs low some =
    ap (λ t. reference (38 ∷ 35 ∷ t)) (append_assoc (decimal b) (59 ∷ []) cs)
    ∙ reference-decimal (decimal b ++ 59 ∷ cs) (begins_front 120 (decimal b) cs refl no_letter.0) (begins_front 88 (decimal b) cs refl no_letter.1)
    ∙ ap (read_number 10 7 3) (digits_read (decimal b) cs number.0)
    ∙ cond-true (is_in_range 1 7 (length (decimal b))) (Some (numbered_character (digits_value 10 (decimal b)) ∷ [], 3 + length (decimal b))) None value.0
    ∙ ap (λ c. Some (c ∷ [], 3 + length (decimal b))) (eqb-true (numbered_character (digits_value 10 (decimal b))) b (either_way _ (b == 0) value.1 some))
    ∙ ap (λ n. Some (b ∷ [], n)) (let long : 3 + length (decimal b) ≡ length (numbered b) = omega (arith, length-append (decimal b) (59 ∷ [])) in long)
  where
    all : is_read_back b ≡ true
    all = agree_below_at is_read_back (λ b. true) 128 b all_read_back low

    number : (list_all is_ascii_digit (decimal b) ≡ true) × ((is_in_range 1 7 (length (decimal b)) && (numbered_character (digits_value 10 (decimal b)) == b || b == 0)) ≡ true)
    number = and_parts _ _ (and_parts (list_all is_ascii_digit (decimal b) && (is_in_range 1 7 (length (decimal b)) && (numbered_character (digits_value 10 (decimal b)) == b || b == 0))) _ all).0

    value : (is_in_range 1 7 (length (decimal b)) ≡ true) × ((numbered_character (digits_value 10 (decimal b)) == b || b == 0) ≡ true)
    value = and_parts _ _ number.1

    no_letter : (not (begins_with 120 (decimal b)) ≡ true) × (not (begins_with 88 (decimal b)) ≡ true)
    no_letter = and_parts _ _ (and_parts (list_all is_ascii_digit (decimal b) && (is_in_range 1 7 (length (decimal b)) && (numbered_character (digits_value 10 (decimal b)) == b || b == 0))) _ all).1
