-- Entity and numeric character references (CommonMark 0.31.2, 2.5 Entity and numeric character references). A text is
-- its UTF-8 bytes, and a reference is read as code points.
use Rattle.std.specs.Prelude.{ℕ, ◌+◌, Bool, true, false, ◌==◌, ◌||◌, nat_lt, if◌then◌else◌, List, [], ◌∷◌, take, drop, length, Option, Some, None, codes}
use Rattle.std.specs.Char.{is_ascii_digit, is_ascii_hexdigit, is_ascii_alphanumeric}
use Rattle.std.specs.List.{prefix_len}
use Rattle.std.specs.Str.{bytes_eq, byte}
use Rattle.std.specs.Str.Parse.{digits_value}
use Rattle.std.specs.Int.{is_in_range}
use Rattle.cm_text.specs.declared.references.Chars.{Chars}
use Rattle.cm_text.specs.NamedReferences.{names}

-- what follows a word, if the text starts with it
unfoldable pub after_word : List ℕ → List ℕ → Option (List ℕ)
after_word [] text = Some text
after_word (w ∷ ws) [] = None
after_word (w ∷ ws) (b ∷ bs) = elim (b == w) [ true ↦ after_word ws bs | false ↦ None ]

-- the text starts with this byte
abbrev pub begins_with : ℕ → List ℕ → Bool
begins_with c [] = false
begins_with c (b ∷ bs) = b == c

-- what comes before a semicolon: the bytes at the front that pass the test
abbrev pub before_semicolon : (ℕ → Bool) → List ℕ → Option (List ℕ)
before_semicolon passes text =
    if begins_with (byte ";") (drop (prefix_len passes text) text) then Some (take (prefix_len passes text) text) else None

-- what comes between this front and a semicolon
abbrev pub between : List ℕ → (ℕ → Bool) → List ℕ → Option (List ℕ)
between front passes text = elim (after_word front text) [ None ↦ None | Some rest ↦ before_semicolon passes rest ]

-- The character with a number. "Invalid Unicode code points will be replaced by the REPLACEMENT CHARACTER (U+FFFD). For
-- security reasons, the code point U+0000 will also be replaced by U+FFFD."
abbrev pub numbered_character : ℕ → ℕ
numbered_character n = if n == 0 || is_in_range 0xD800 0xDFFF n || nat_lt 0x10FFFF n then 0xFFFD else n

-- The character of a number in a radix that has from one digit to the given number of them, and how many bytes are
-- read: the digits, and the given number around them.
abbrev pub numbered : (radix most round : ℕ) → Option (List ℕ) → Option (List ℕ × ℕ)
numbered radix most round None = None
numbered radix most round (Some digits) =
    if is_in_range 1 most (length digits) then Some (numbered_character (digits_value radix digits) ∷ [], round + length digits) else None

-- "Decimal numeric character references consist of &# + a string of 1-7 arabic digits + ;."
abbrev pub decimal_reference : List ℕ → Option (List ℕ × ℕ)
decimal_reference text = numbered 10 7 3 (between (codes "&#") is_ascii_digit text)

-- "Hexadecimal numeric character references consist of &# + either X or x + a string of 1-6 hexadecimal digits + ;."
abbrev pub hexadecimal_reference : List ℕ → List ℕ → Option (List ℕ × ℕ)
hexadecimal_reference front text = numbered 16 6 4 (between front is_ascii_hexdigit text)

-- what the first entry with this name has
abbrev pub entry : List (List ℕ × List ℕ) → List ℕ → Option (List ℕ)
entry [] name = None
entry (e ∷ es) name = elim (bytes_eq e.0 name) [ true ↦ Some e.1 | false ↦ entry es name ]

-- the code points of an entity by its name, and how many bytes the reference has
abbrev pub named : Option (List ℕ) → Option (List ℕ × ℕ)
named None = None
named (Some name) = elim (entry names name) [ None ↦ None | Some characters ↦ Some (characters, 2 + length name) ]

-- "Entity references consist of & + any of the valid HTML5 entity names + ;." Those of the list `names` are read.
abbrev pub entity_reference : List ℕ → Option (List ℕ × ℕ)
entity_reference text = named (between (codes "&") is_ascii_alphanumeric text)

-- the first of some results that isn't none
abbrev pub first_of_all : {A : Type 0} → List (Option A) → Option A
first_of_all [] = None
first_of_all (None ∷ others) = first_of_all others
first_of_all (Some a ∷ others) = Some a

-- the reference at the start of a text: its code points, and how many bytes it has
unfoldable pub reference : List ℕ → Option (List ℕ × ℕ)
reference text = first_of_all (decimal_reference text ∷ hexadecimal_reference (codes "&#x") text
    ∷ hexadecimal_reference (codes "&#X") text ∷ entity_reference text ∷ [])

-- the reference at a place of a text: its code points, and the place after it
abbrev pub reference_at : List ℕ → ℕ → Option (List ℕ × ℕ)
reference_at text place = elim (reference (drop place text)) [ None ↦ None | Some read ↦ Some (read.0, place + read.1) ]

-- the code points of the one or two characters that a reference is read as
abbrev pub chars_of : Chars → List ℕ
chars_of chars = chars.first ∷ elim chars.second [ None ↦ [] | Some second ↦ second ∷ [] ]

-- what the program read as a reference, with its characters as code points
abbrev pub read_of : Option (Chars × ℕ) → Option (List ℕ × ℕ)
read_of None = None
read_of (Some read) = Some (chars_of read.0, read.1)
