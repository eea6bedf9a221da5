-- Kinds of ASCII characters, by a walk over the tables.
use Rattle.std.proofs.Common.{◌≡◌, ◌≢◌, ◌<◌, ℕ, Bool, true, false, ◌||◌, ◌&&◌, ◌==◌, not, if◌then◌else◌, refl, ap, sym, arith}
use Rattle.std.specs.Bool.{beq}
use Rattle.std.proofs.lemmas.Bool.Decides.{nat_tests}
use Rattle.ucd_table.proofs.Computing.{tables}
use Rattle.ucd_table.proofs.Stepped.{Stepped, map_stepped}
use Rattle.ucd_table.proofs.Facts.{Stepped-below, same_from_beq}
use Rattle.std.specs.Char.{is_ascii}
use Rattle.ucd_category.specs.declared.GeneralCategory.{GeneralCategory}
use Rattle.unicode.specs.GeneralCategory.{general_category, general_category_eq, general_category_number}
use Rattle.unicode.specs.GeneralCategoryGroup.{in_group}
use Rattle.ucd_category.specs.declared.GeneralCategory.TheVariants.{SpaceSeparator}
use Rattle.ucd_category.specs.declared.GeneralCategoryGroup.TheVariants.{Punctuation, Symbol}
use Rattle.ucd_category.proofs.GeneralCategoryLemmas.{general_category_stepped, general_category_number_injective}
use Rattle.cm_text.specs.Rules.{Rules}
use Rattle.cm_text.specs.Characters.{is_ascii_punct, is_punct_by, is_space}

unfoldable pub is_symbol_stepped : Stepped (λ c. in_group Punctuation (general_category c) || in_group Symbol (general_category c))
unfolding general_category_stepped
is_symbol_stepped = map_stepped (λ g. in_group Punctuation g || in_group Symbol g) general_category general_category_stepped

unfoldable pub is_of_punctuation_stepped : Stepped (λ c. in_group Punctuation (general_category c))
unfolding general_category_stepped
is_of_punctuation_stepped = map_stepped (in_group Punctuation) general_category general_category_stepped

unfoldable pub is_separator_stepped : Stepped (λ c. general_category_eq (general_category c) SpaceSeparator)
unfolding general_category_stepped
is_separator_stepped = map_stepped (λ g. general_category_eq g SpaceSeparator) general_category general_category_stepped

-- among ASCII characters those of the categories P and S are the ASCII punctuation characters
symbols-ascii : (c : ℕ) → c < 128 → (in_group Punctuation (general_category c) || in_group Symbol (general_category c)) ≡ is_ascii_punct c
unfolding tables is_symbol_stepped
symbols-ascii c h =
    same_from_beq _ _ (Stepped-below (λ c. in_group Punctuation (general_category c) || in_group Symbol (general_category c)) is_symbol_stepped (λ x v. beq v (is_ascii_punct x)) 128 refl c h)

-- and so each of the category P is one
punctuation-ascii : (c : ℕ) → c < 128 → (in_group Punctuation (general_category c) || is_ascii_punct c) ≡ is_ascii_punct c
unfolding tables is_of_punctuation_stepped
punctuation-ascii c h =
    same_from_beq _ _ (Stepped-below (λ c. in_group Punctuation (general_category c)) is_of_punctuation_stepped (λ x v. beq (v || is_ascii_punct x) (is_ascii_punct x)) 128 refl c h)

pub is_punct-ascii : (rules : Rules) (c : ℕ) → c < 128 → is_ascii_punct c ≡ is_punct_by rules c
unfolding is_punct_by
is_punct-ascii rules c h = go rules.older
  where
    go : (older : Bool) → is_ascii_punct c ≡ (in_group Punctuation (general_category c) || (if older then is_ascii_punct c else in_group Symbol (general_category c)))
    go true = sym (punctuation-ascii c h)
    go false = sym (symbols-ascii c h)

-- the one ASCII character of the category Zs is the space
pub is_separator-ascii : (c : ℕ) → c < 128 → general_category_eq (general_category c) SpaceSeparator ≡ (c == 32)
unfolding tables is_separator_stepped
is_separator-ascii c h =
    same_from_beq _ _ (Stepped-below (λ c. general_category_eq (general_category c) SpaceSeparator) is_separator_stepped (λ x v. beq v (x == 32)) 128 refl c h)

-- among ASCII characters a space and four controls are white space
pub is_space-ascii : (c : ℕ) → c < 128 → (c == 32 || c == 9 || c == 10 || c == 12 || c == 13) ≡ is_space c
unfolding is_space
is_space-ascii c h = ap (λ t. t || c == 9 || c == 10 || c == 12 || c == 13) (sym (is_separator-ascii c h))

-- and beyond ASCII the category alone decides
pub is_space-beyond : (c : ℕ) (separator : Bool) → is_ascii c ≡ false → separator ≡ general_category_eq (general_category c) SpaceSeparator → separator ≡ is_space c
unfolding is_space
is_space-beyond c separator h e = grind (arith, nat_tests, h, e)

-- beyond ASCII the categories alone decide, with the older rules the category P
pub is_punct-groups : (rules : Rules) (c : ℕ) (category : GeneralCategory) (older punctuation symbol : Bool) → is_ascii c ≡ false → category ≡ general_category c
    → older ≡ rules.older → punctuation ≡ in_group Punctuation category → symbol ≡ in_group Symbol category → (punctuation || not older && symbol) ≡ is_punct_by rules c
unfolding is_punct_by
is_punct-groups rules c category older punctuation symbol beyond k o p s = rw (p, s, k, o) (go rules.older)
  where
    none : is_ascii_punct c ≡ false
    none = grind (arith, nat_tests, beyond)

    go : (o : Bool) → (in_group Punctuation (general_category c) || not o && in_group Symbol (general_category c))
        ≡ (in_group Punctuation (general_category c) || (if o then is_ascii_punct c else in_group Symbol (general_category c)))
    go true = ap (λ t. in_group Punctuation (general_category c) || t) (sym none)
    go false = refl

pub below_ascii : (c : ℕ) → is_ascii c ≡ true → c < 128
below_ascii c h = grind (arith, nat_tests, h)

pub other_category : (v w : GeneralCategory) → v ≢ w → general_category_eq v w ≡ false
other_category v w h =
    let n : general_category_number v ≢ general_category_number w = λ e. h (general_category_number_injective v w e) in
    grind (arith, nat_tests, n)
