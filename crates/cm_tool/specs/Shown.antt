-- Texts as they are written to a terminal.
use Rattle.std.specs.Prelude.{◌≡◌, ℕ, Bool, false, ◌||◌, if◌then◌else◌, List, [], ◌∷◌, flat_map, IsUtf8}
use Rattle.std.specs.Char.{is_control}
use Rattle.std.specs.Char.Escape.{escape_unicode}
use Rattle.std.specs.List.{list_any}
use Rattle.std.specs.Str.{chars, encode_utf8_all}
use Rattle.unicode.specs.GeneralCategory.{general_category, general_category_eq}
use Rattle.ucd_category.specs.declared.GeneralCategory.{GeneralCategory}
use Rattle.ucd_category.specs.declared.GeneralCategory.TheVariants.{Format, LineSeparator, ParagraphSeparator}

-- the category of characters that change how others are shown: overrides of direction, separators of lines, and the like
abbrev pub is_formatting : GeneralCategory → Bool
is_formatting g = general_category_eq g Format || general_category_eq g LineSeparator || general_category_eq g ParagraphSeparator

-- a terminal acts on the character instead of printing it
unfoldable pub is_nonprinting : ℕ → Bool
is_nonprinting c = is_control c || is_formatting (general_category c)

-- the character itself, or `\u{..}` with its code if it is nonprinting
abbrev pub shown_char : ℕ → List ℕ
shown_char c = if is_nonprinting c then escape_unicode c else c ∷ []

-- the text, with each character written like that
abbrev pub shown : List ℕ → List ℕ
shown text = encode_utf8_all (flat_map shown_char (chars text))

-- no nonprinting character is left in what is shown: a law, proved
abbrev pub ShownIsPrintable : Type 0
ShownIsPrintable = (text : List ℕ) → IsUtf8 text → list_any is_nonprinting (chars (shown text)) ≡ false
