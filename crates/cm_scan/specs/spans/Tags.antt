-- Tags of HTML (CommonMark 0.31.2, 6.6 Raw HTML). Each reading gives what is left of the text after it.
use Rattle.std.specs.Prelude.{ℕ, zero, suc, Bool, true, false, not, ◌||◌, List, [], ◌∷◌, length, Option, Some, None, ◌==◌, if◌then◌else◌, codes}
use Rattle.std.specs.Option.{option_map}
use Rattle.std.specs.Str.{byte}
use Rattle.std.specs.Char.{is_ascii_digit, is_ascii_alphabetic, is_ascii_alphanumeric}
use Rattle.cm_scan.specs.Words.{is_space_or_tab, skip, front_of, trim_start, after_word, ◌and_then◌}

-- a space, a tab, or a line feed, which is the line ending of a leaf's source
abbrev pub is_blank_byte : ℕ → Bool
is_blank_byte b = is_space_or_tab b || b == byte "\n"

abbrev pub after_line_ending : List ℕ → List ℕ
after_line_ending [] = []
after_line_ending (b ∷ bs) = if b == byte "\n" then trim_start bs else b ∷ bs

-- what is left after spaces, tabs, and up to one line ending
unfoldable pub after_gap : List ℕ → List ℕ
after_gap text = after_line_ending (trim_start text)

-- a space, a tab or a line ending comes next
abbrev pub is_blank_next : List ℕ → Bool
is_blank_next [] = false
is_blank_next (b ∷ bs) = is_blank_byte b

-- a name, and what is left after it
pub record Named : Type 0 where
  pub name : List ℕ
  pub rest : List ℕ

-- A tag name consists of an ASCII letter followed by zero or more ASCII letters, digits, or hyphens.
unfoldable pub tag_name : List ℕ → Option Named
tag_name [] = None
tag_name (b ∷ bs) = elim (is_ascii_alphabetic b) [
  | true ↦ Some (record { name = b ∷ front_of (λ c. is_ascii_alphanumeric c || c == byte "-") bs; rest = skip (λ c. is_ascii_alphanumeric c || c == byte "-") bs })
  | false ↦ None
]

-- An attribute name consists of an ASCII letter, `_`, or `:`, followed by zero or more ASCII letters, digits, `_`, `.`, `:`, or `-`.
abbrev pub begins_attribute : ℕ → Bool
begins_attribute b = is_ascii_alphabetic b || b == byte "_" || b == byte ":"

abbrev pub continues_attribute : ℕ → Bool
continues_attribute b = begins_attribute b || is_ascii_digit b || b == byte "." || b == byte "-"

-- An unquoted attribute value doesn't include spaces, tabs, line endings, `"`, `'`, `=`, `<`, `>`, or a backtick.
abbrev pub is_unquoted : ℕ → Bool
is_unquoted b = not (is_blank_byte b || b == byte "\"" || b == byte "'" || b == byte "=" || b == byte "<" || b == byte ">" || b == byte "`")

-- a value that this quotation mark ends
unfoldable pub after_quoted : ℕ → List ℕ → Option (List ℕ)
after_quoted quote [] = None
after_quoted quote (b ∷ bs) = elim (b == quote) [ true ↦ Some bs | false ↦ after_quoted quote bs ]

unfoldable pub after_unquoted : List ℕ → List ℕ
after_unquoted text = skip is_unquoted text

-- an attribute value: in double quotes, in single quotes, or unquoted, which has at least one character
unfoldable pub after_value : List ℕ → Option (List ℕ)
after_value [] = None
after_value (b ∷ bs) = elim (b == byte "\"") [
  | true ↦ after_quoted (byte "\"") bs
  | false ↦ elim (b == byte "'") [
    | true ↦ after_quoted (byte "'") bs
    | false ↦ elim (is_unquoted b) [ true ↦ Some (after_unquoted bs) | false ↦ None ]
  ]
]

-- An attribute value specification after a name: a gap, `=`, a gap and a value. If no `=` comes next, there is none.
unfoldable pub after_specification : List ℕ → Option (List ℕ)
after_specification text = elim (after_word (codes "=") (after_gap text)) [
  | Some after ↦ after_value (after_gap after)
  | None ↦ Some text
]

-- an attribute after its gap
unfoldable pub after_attribute : List ℕ → Option (List ℕ)
after_attribute [] = None
after_attribute (b ∷ bs) = elim (begins_attribute b) [ true ↦ after_specification (skip continues_attribute bs) | false ↦ None ]

-- the end of an open tag: `/` or not, and `>`
unfoldable pub after_tag_end : List ℕ → Option (List ℕ)
after_tag_end text = elim (after_word (codes "/>") text) [ Some rest ↦ Some rest | None ↦ after_word (codes ">") text ]

-- After the name of an open tag: attributes, each after a gap, a gap or none, and the end. There are no more attributes than bytes.
unfoldable pub after_attributes : ℕ → List ℕ → Option (List ℕ)
after_attributes zero text = None
after_attributes (suc n) text = elim (after_tag_end (after_gap text)) [
  | Some rest ↦ Some rest
  | None ↦ elim (is_blank_next text) [
    | true ↦ elim (after_attribute (after_gap text)) [ Some rest ↦ after_attributes n rest | None ↦ None ]
    | false ↦ None
  ]
]

-- what is left after a tag whose name was read
abbrev pub with_rest : List ℕ → Option (List ℕ) → Option Named
with_rest name rest = option_map (λ r. record { name = name; rest = r }) rest

-- An open tag consists of a `<` character, a tag name, zero or more attributes, optional spaces, tabs, and up to one line
-- ending, an optional `/` character, and a `>` character.
unfoldable pub open_tag : List ℕ → Option Named
open_tag text = after_word (codes "<") text and_then λ inside. tag_name inside and_then λ tag.
    with_rest tag.name (after_attributes (suc (length tag.rest)) tag.rest)

-- A closing tag consists of the string `</`, a tag name, optional spaces, tabs, and up to one line ending, and the character `>`.
unfoldable pub closing_tag : List ℕ → Option Named
closing_tag text = after_word (codes "</") text and_then λ inside. tag_name inside and_then λ tag.
    with_rest tag.name (after_word (codes ">") (after_gap tag.rest))
