-- Texts in HTML.
use Rattle.std.specs.Prelude.{ℕ, ◌==◌, Bool, ◌||◌, List, [], ◌∷◌, codes, if◌then◌else◌, flat_map}
use Rattle.std.specs.Char.{is_ascii_alphanumeric}
use Rattle.std.specs.List.{list_any, before_first}
use Rattle.std.specs.Str.{byte}
use Rattle.percent_encoding.specs.Percent.{percent_encode_byte}
pub use Rattle.cm_text.specs.Characters.{is_space_or_tab}

-- a byte as it is written in HTML: `&`, `<`, `>` and `"` are references
abbrev pub escape_byte : ℕ → List ℕ
escape_byte b =
    if b == byte "&" then codes "&amp;"
    else (if b == byte "<" then codes "&lt;" else (if b == byte ">" then codes "&gt;" else (if b == byte "\"" then codes "&quot;" else b ∷ [])))

-- a text with each `&`, `<`, `>` and `"` as a reference
abbrev pub escape : List ℕ → List ℕ
escape text = flat_map escape_byte text

-- the bytes that a destination keeps
unfoldable pub is_kept : ℕ → Bool
is_kept b = is_ascii_alphanumeric b || list_any (λ c. c == b) (codes "-_.+!*'(),%#@?=;:/&$~")

-- a byte of a destination: kept, or written as `%` and its two upper-case hexadecimal digits
unfoldable pub destination_byte : ℕ → List ℕ
destination_byte b = if is_kept b then b ∷ [] else percent_encode_byte b

-- A destination as the value of an attribute: ASCII letters, digits and ``-_.+!*'(),%#@?=;:/&$~`` are kept,
-- and each other byte is `%` and its two hexadecimal digits; then `&` is a reference.
abbrev pub destination_html : List ℕ → List ℕ
destination_html destination = escape (flat_map destination_byte destination)

-- the class word of a code block: its info string up to the first space or tab (4.5 Fenced code blocks)
unfoldable pub class_word : List ℕ → List ℕ
class_word info = before_first is_space_or_tab info
