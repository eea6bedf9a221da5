-- Backslash escapes (CommonMark 0.31.2, 2.4 Backslash escapes), and texts in which escapes and references are resolved.
use Rattle.std.specs.Prelude.{ℕ, zero, suc, ◌-◌, ◌==◌, ◌&&◌, if◌then◌else◌, List, [], ◌∷◌, ◌++◌, Option, Some, None, encode_utf8_all}
use Rattle.std.specs.Str.{byte}
use Rattle.cm_text.specs.Characters.{is_ascii_punct}
use Rattle.cm_text.specs.References.{first_of_all, reference}

-- "Any ASCII punctuation character may be backslash-escaped." The escape at the start of a text: the character, and how
-- many bytes it has.
abbrev pub escape : List ℕ → Option (List ℕ × ℕ)
escape [] = None
escape (b ∷ []) = None
escape (b ∷ c ∷ rest) = if b == byte "\\" && is_ascii_punct c then Some (c ∷ [], 2) else None

-- the escape or the reference at the start of a text
unfoldable pub special : List ℕ → Option (List ℕ × ℕ)
special text = first_of_all (escape text ∷ reference text ∷ [])

-- A text with its escapes and references resolved, from the left; the given number of bytes at its start belong to one
-- that has been resolved.
unfoldable pub unescape_after : ℕ → List ℕ → List ℕ
unescape_after n [] = []
unescape_after (suc n) (b ∷ bs) = unescape_after n bs
unescape_after zero (b ∷ bs) = elim (special (b ∷ bs)) [
  | None ↦ b ∷ unescape_after 0 bs
  | Some read ↦ encode_utf8_all read.0 ++ unescape_after (read.1 - 1) bs
]

-- a text with its escapes and references resolved, from the left (2.4 Backslash escapes, 2.5 Entity and numeric character
-- references)
abbrev pub unescape : List ℕ → List ℕ
unescape text = unescape_after 0 text
