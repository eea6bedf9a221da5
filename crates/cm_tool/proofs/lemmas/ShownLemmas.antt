-- Texts as they are written to a terminal.
use Rattle.std.proofs.Common.{◌≡◌, ◌≢◌, ◌∙◌, ◌++◌, ◌||◌, ◌&&◌, ◌+◌, ◌<◌, ◌≤◌, ◌/◌, ◌%◌, ℕ, Bool, true, false, cond, List, [], ◌∷◌, refl, sym, ap, ap₂, subst, append_assoc, append-nil, length, arith, IsUtf8}
use Rattle.std.specs.Prelude.{flat_map, nat_lt}
use Rattle.std.specs.Bool.{beq}
use Rattle.std.specs.List.{AllByRecursion, list_any}
use Rattle.std.specs.Char.{digit_char, is_control}
use Rattle.std.specs.Char.Escape.{escape_unicode, hex_digit_at}
use Rattle.std.specs.Str.{chars}
use Rattle.std.proofs.lemmas.Str.{IsUtf8-append, IsUtf8-nil, chars_from_encodes, chars_past_char, encodes-append}
use Rattle.std.proofs.lemmas.List.Folds.{list_any-append}
use Rattle.std.proofs.lemmas.Bool.{and_parts}
use Rattle.std.proofs.lemmas.Bool.Decides.{nat_tests}
use Rattle.ucd_table.proofs.Computing.{tables}
use Rattle.ucd_table.proofs.Stepped.{Stepped, map_stepped}
use Rattle.ucd_table.proofs.Facts.{Stepped-below, same_from_beq}
use Rattle.ucd_category.proofs.GeneralCategoryLemmas.{general_category_stepped}
use Rattle.unicode.specs.GeneralCategory.{general_category}
use Rattle.ucd_category.specs.declared.GeneralCategory.{GeneralCategory}
use Rattle.ucd_category.specs.declared.GeneralCategory.TheVariants.{Format, LineSeparator, ParagraphSeparator}
use Rattle.cm_text.proofs.lemmas.CharacterLemmas.{other_category}
use Rattle.cm_tool.specs.Shown.{ShownIsPrintable, is_formatting, is_nonprinting, shown, shown_char}
use lib.Utf8.{encode, encodes, low_scalar, scalar, scalars}

pub control_prints_nothing : (c : ℕ) → is_control c ≡ true → true ≡ is_nonprinting c
unfolding is_nonprinting
control_prints_nothing c is = ap (λ b. b || is_formatting (general_category c)) (sym is)

-- of any other character the category decides
pub by_category : (c : ℕ) (result : Bool) → is_control c ≡ false → is_formatting (general_category c) ≡ result → result ≡ is_nonprinting c
unfolding is_nonprinting
by_category c result other is = sym is ∙ ap (λ b. b || is_formatting (general_category c)) (sym other)

pub not_formatting : (g : GeneralCategory) → g ≢ Format → g ≢ LineSeparator → g ≢ ParagraphSeparator → is_formatting g ≡ false
not_formatting g a b d = rw (other_category g Format a, other_category g LineSeparator b, other_category g ParagraphSeparator d) refl

-- one character of a text
pub shown_put : (made rest after whole : List ℕ) (c : ℕ) → IsUtf8 rest → rest ≡ encode c ++ after → made ++ shown rest ≡ whole
    → (made ++ encodes (shown_char c)) ++ shown after ≡ whole
shown_put made rest after whole c utf8 is so_far =
    append_assoc made (encodes (shown_char c)) (shown after)
    ∙ ap (λ t. made ++ t) (sym (encodes-append (shown_char c) (flat_map shown_char (chars after)))
    ∙ ap (λ cs. encodes (flat_map shown_char cs)) (sym (chars_past_char rest after c utf8 is)))
    ∙ so_far

-- its end
pub shown_end : (made rest whole : List ℕ) → length rest ≡ 0 → made ++ shown rest ≡ whole → made ≡ whole
unfolding chars
shown_end made [] whole none so_far =
    sym (append-nil made) ∙ ap (λ cs. made ++ encodes (flat_map shown_char cs)) (sym (chars_from_encodes [] [] IsUtf8-nil refl)) ∙ so_far
shown_end made (b ∷ rest) whole none so_far = absurd (omega (arith, none))

-- ---- all that is shown is printable

unfoldable pub is_formatting_stepped : Stepped (λ c. is_formatting (general_category c))
unfolding general_category_stepped
is_formatting_stepped = map_stepped is_formatting general_category general_category_stepped

-- of ASCII only the controls are nonprinting
no_formatting-ascii : (c : ℕ) → c < 128 → is_formatting (general_category c) ≡ false
unfolding tables is_formatting_stepped
no_formatting-ascii c low =
    same_from_beq _ _ (Stepped-below (λ x. is_formatting (general_category x)) is_formatting_stepped (λ x v. beq v false) 128 refl c low)

-- a character of ASCII that isn't a control
abbrev IsPlain : ℕ → Type 0
IsPlain c = (32 ≤ c) × (c < 127)

plain_is_shown : (c : ℕ) → IsPlain c → is_nonprinting c ≡ false
unfolding is_nonprinting
plain_is_shown c plain = rw (no_formatting-ascii c (omega (arith, plain.1))) (grind (arith, nat_tests, plain.0, plain.1))

digit_is_plain : (p c : ℕ) → IsPlain (hex_digit_at p c)
digit_is_plain p c = go (c / p % 16) (omega arith)
  where
    go : (d : ℕ) → d < 16 → IsPlain (digit_char d)
    go d low = either (nat_lt d 10)
      where
        either : (b : Bool) → IsPlain (cond b (48 + d) (87 + d))
        either true = (omega arith, omega (arith, low))
        either false = (omega arith, omega (arith, low))

abbrev ArePlain : List ℕ → Type 0
ArePlain = AllByRecursion IsPlain

with_digits : (digits : List ℕ) → ArePlain digits → ArePlain (92 ∷ 117 ∷ 123 ∷ (digits ++ 125 ∷ []))
with_digits digits plain = ((omega arith, omega arith), ((omega arith, omega arith), ((omega arith, omega arith), closed digits plain)))
  where
    closed : (ds : List ℕ) → ArePlain ds → ArePlain (ds ++ 125 ∷ [])
    closed [] plain = ((omega arith, omega arith), tt)
    closed (d ∷ ds) plain = (plain.0, closed ds plain.1)

escape_is_plain : (c : ℕ) → ArePlain (escape_unicode c)
escape_is_plain c =
    either (nat_lt c 0x10) _ _ (with_digits (hex_digit_at 1 c ∷ []) (d 1, tt))
    (either (nat_lt c 0x100) _ _ (with_digits (hex_digit_at 0x10 c ∷ hex_digit_at 1 c ∷ []) (d 0x10, (d 1, tt)))
    (either (nat_lt c 0x1000) _ _ (with_digits (hex_digit_at 0x100 c ∷ hex_digit_at 0x10 c ∷ hex_digit_at 1 c ∷ []) (d 0x100, (d 0x10, (d 1, tt))))
    (either (nat_lt c 0x1_0000) _ _
    (with_digits (hex_digit_at 0x1000 c ∷ hex_digit_at 0x100 c ∷ hex_digit_at 0x10 c ∷ hex_digit_at 1 c ∷ []) (d 0x1000, (d 0x100, (d 0x10, (d 1, tt)))))
    (either (nat_lt c 0x10_0000) _ _
    (with_digits (hex_digit_at 0x1_0000 c ∷ hex_digit_at 0x1000 c ∷ hex_digit_at 0x100 c ∷ hex_digit_at 0x10 c ∷ hex_digit_at 1 c ∷ [])
    (d 0x1_0000, (d 0x1000, (d 0x100, (d 0x10, (d 1, tt))))))
    (with_digits (hex_digit_at 0x10_0000 c ∷ hex_digit_at 0x1_0000 c ∷ hex_digit_at 0x1000 c ∷ hex_digit_at 0x100 c ∷ hex_digit_at 0x10 c ∷ hex_digit_at 1 c ∷ [])
    (d 0x10_0000, (d 0x1_0000, (d 0x1000, (d 0x100, (d 0x10, (d 1, tt)))))))))))
  where
    d : (p : ℕ) → IsPlain (hex_digit_at p c)
    d p = digit_is_plain p c

    either : (b : Bool) (xs ys : List ℕ) → ArePlain xs → ArePlain ys → ArePlain (cond b xs ys)
    either true xs ys f g = f
    either false xs ys f g = g

all_printable : (xs : List ℕ) → ArePlain xs → list_any is_nonprinting xs ≡ false
all_printable [] plain = refl
all_printable (x ∷ xs) plain = ap₂ (λ a b. a || b) (plain_is_shown x plain.0) (all_printable xs plain.1)

are_scalars : (xs : List ℕ) → ArePlain xs → scalars xs ≡ true
are_scalars [] plain = refl
are_scalars (x ∷ xs) plain = ap₂ (λ a b. a && b) (low_scalar x (omega (arith, plain.0.1))) (are_scalars xs plain.1)

-- these are characters, and none is nonprinting
abbrev AreShown : List ℕ → Type 0
AreShown cs = (list_any is_nonprinting cs ≡ false) × IsUtf8 (encodes cs)

char_is_shown : (c : ℕ) → scalar c ≡ true → AreShown (shown_char c)
char_is_shown c is_scalar = either (is_nonprinting c) refl
  where
    either : (b : Bool) → is_nonprinting c ≡ b → AreShown (cond b (escape_unicode c) (c ∷ []))
    either true is = (all_printable (escape_unicode c) (escape_is_plain c), (escape_unicode c, (are_scalars (escape_unicode c) (escape_is_plain c), refl)))
    either false is = (ap (λ b. b || false) is, (c ∷ [], (ap (λ b. b && true) is_scalar, refl)))

all_shown : (cs : List ℕ) → scalars cs ≡ true → AreShown (flat_map shown_char cs)
all_shown [] are = (refl, IsUtf8-nil)
all_shown (c ∷ cs) are =
    let parts = and_parts _ _ are in
    let first = char_is_shown c parts.0 in
    let rest = all_shown cs parts.1 in (
      list_any-append is_nonprinting (shown_char c) (flat_map shown_char cs) ∙ ap₂ (λ a b. a || b) first.0 rest.0,
      subst IsUtf8 (sym (encodes-append (shown_char c) (flat_map shown_char cs))) (IsUtf8-append _ _ first.1 rest.1),
    )

pub shown_is_printable : ShownIsPrintable
shown_is_printable text utf8 =
    let put = flat_map shown_char utf8.0 in
    let all = all_shown utf8.0 utf8.1.0 in
    ap (λ cs. list_any is_nonprinting (chars (encodes (flat_map shown_char cs)))) (sym (chars_from_encodes utf8.0 text utf8 utf8.1.1))
    ∙ ap (list_any is_nonprinting) (sym (chars_from_encodes put (encodes put) all.1 refl))
    ∙ all.0
