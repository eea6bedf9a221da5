-- Kinds of characters (CommonMark 0.31.2, 2.1 Characters and lines).
use Rattle.std.specs.Prelude.{ℕ, Bool, ◌==◌, ◌||◌, if◌then◌else◌}
use Rattle.std.specs.Int.{is_in_range}
use Rattle.std.specs.Str.{byte}
use Rattle.unicode.specs.GeneralCategory.{general_category, general_category_eq}
use Rattle.unicode.specs.GeneralCategoryGroup.{in_group}
use Rattle.ucd_category.specs.declared.GeneralCategory.TheVariants.{SpaceSeparator}
use Rattle.ucd_category.specs.declared.GeneralCategoryGroup.TheVariants.{Punctuation, Symbol}
use Rattle.cm_text.specs.Rules.{Rules}

-- a space or a tab
abbrev pub is_space_or_tab : ℕ → Bool
is_space_or_tab c = c == byte " " || c == byte "\t"

-- An ASCII punctuation character is `!`, `"`, `#`, `$`, `%`, `&`, `'`, `(`, `)`, `*`, `+`, `,`, `-`, `.`, `/` (U+0021-2F),
-- `:`, `;`, `<`, `=`, `>`, `?`, `@` (U+003A-0040), `[`, `\`, `]`, `^`, `_`, a backtick (U+005B-0060), `{`, `|`, `}`, or `~`
-- (U+007B-007E).
abbrev pub is_ascii_punct : ℕ → Bool
is_ascii_punct c = is_in_range 0x21 0x2F c || is_in_range 0x3A 0x40 c || is_in_range 0x5B 0x60 c || is_in_range 0x7B 0x7E c

-- A Unicode punctuation character is a character in the Unicode P (punctuation) or S (symbol) general categories. With the
-- older rules it is a character in P, or ASCII punctuation.
unfoldable pub is_punct_by : Rules → ℕ → Bool
is_punct_by rules c = in_group Punctuation (general_category c) || (if rules.older then is_ascii_punct c else in_group Symbol (general_category c))

-- A Unicode whitespace character is a character in the Unicode Zs general category, or a tab (U+0009), line feed
-- (U+000A), form feed (U+000C), or carriage return (U+000D).
unfoldable pub is_space : ℕ → Bool
is_space c = general_category_eq (general_category c) SpaceSeparator || c == byte "\t" || c == byte "\n" || c == byte "\u{c}" || c == byte "\r"
