-- How texts are spelled, so that no character of them is markup.
use Rattle.std.specs.Prelude.{ℕ, suc, max, Bool, false, not, ◌==◌, ◌&&◌, ◌||◌, if◌then◌else◌, List, [], ◌∷◌, ◌++◌, replicate, flat_map, codes}
use Rattle.std.specs.List.{list_all}
use Rattle.std.specs.Fmt.{decimal}
use Rattle.std.specs.Char.{is_ascii_control}
use Rattle.std.specs.Str.{byte}
use Rattle.cm_text.specs.Characters.{is_ascii_punct}
use Rattle.cm_scan.specs.Words.{is_empty, begins_with}
use Rattle.cm_scan.specs.spans.Autolinks.{ends_with}

-- a character as a decimal numeric character reference (2.5 Entity and numeric character references)
abbrev pub numbered : ℕ → List ℕ
numbered c = codes "&#" ++ decimal c ++ codes ";"

-- A backtick and each ASCII control character is a decimal numeric character reference (2.5 Entity and numeric character
-- references), each other ASCII punctuation character is backslash-escaped (2.4 Backslash escapes), and every other character is as
-- it is.
unfoldable pub spelled_byte : ℕ → List ℕ
spelled_byte b = if b == byte "`" || is_ascii_control b then numbered b else (if is_ascii_punct b then byte "\\" ∷ b ∷ [] else b ∷ [])

-- a text so spelled
abbrev pub spelled_bytes : List ℕ → List ℕ
spelled_bytes text = flat_map spelled_byte text

-- A space at the start or the end of a line is a decimal numeric character reference, since it would be stripped there.
abbrev pub edge_byte : (at_edge : Bool) → ℕ → List ℕ
edge_byte at_edge b = if at_edge && b == byte " " then numbered (byte " ") else spelled_byte b

-- a text at the start of a line or not, and at the end of one or not
unfoldable pub spelled_text : (first last : Bool) → List ℕ → List ℕ
spelled_text first last [] = []
spelled_text first last (b ∷ bs) = edge_byte (first || last && is_empty bs) b ++ spelled_text false last bs

-- the longest run of backticks in a text, with the given number of backticks before it
unfoldable pub longest_run : (before : ℕ) → List ℕ → ℕ
longest_run before [] = before
longest_run before (b ∷ bs) = if b == byte "`" then longest_run (suc before) bs else max before (longest_run 0 bs)

-- A code span has a space at both ends if its text starts or ends with a backtick, or starts and ends with a space and has another
-- character, since reading strips these spaces (6.1 Code spans).
abbrev pub is_padded : List ℕ → Bool
is_padded text = begins_with (byte "`") text || ends_with (byte "`") text || begins_with (byte " ") text && ends_with (byte " ") text && not (list_all (λ b. b == byte " ") text)

-- that space, or none
abbrev pub padding : List ℕ → List ℕ
padding text = if is_padded text then byte " " ∷ [] else []

-- A code span has one backtick more in its backtick strings than the longest run of backticks in its text (6.1 Code spans).
unfoldable pub spelled_code : List ℕ → List ℕ
spelled_code text = let marks = replicate (suc (longest_run 0 text)) (byte "`") in marks ++ padding text ++ text ++ padding text ++ marks

-- the title of a link, unless it is empty
abbrev pub spelled_title : List ℕ → List ℕ
spelled_title [] = []
spelled_title (b ∷ bs) = codes " \"" ++ spelled_bytes (b ∷ bs) ++ codes "\""

-- what follows the content of a link or an image: the destination between `<` and `>`, and the title (6.3 Links)
unfoldable pub spelled_target : (dest title : List ℕ) → List ℕ
spelled_target dest title = codes "](<" ++ spelled_bytes dest ++ codes ">" ++ spelled_title title ++ codes ")"
