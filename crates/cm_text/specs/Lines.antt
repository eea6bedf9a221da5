-- Lines of a text (CommonMark 0.31.2, 2.1 Characters and lines). A text is its UTF-8 bytes.
use Rattle.std.specs.Prelude.{◌≡◌, ◌≢◌, ℕ, Bool, true, false, ◌==◌, if◌then◌else◌, List, [], ◌∷◌, ◌++◌, map}
use Rattle.std.specs.List.{flat_map, list_all}
use Rattle.std.specs.Str.Lossy.{replacement_bytes}
use Rattle.std.specs.String.{string_bytes}
use Rattle.std.specs.Str.{byte}
use Rattle.cm_text.specs.declared.lines.Line.{Line}
use Rattle.cm_text.specs.LineText.{is_line, is_line_ending}

-- a byte as it is read: U+0000 becomes U+FFFD (2.3 Insecure characters)
abbrev pub text_of_byte : ℕ → List ℕ
text_of_byte b = if b == 0 then replacement_bytes else b ∷ []

-- the text of UTF-8 bytes, with U+FFFD in place of each U+0000 (2.3 Insecure characters)
abbrev pub text_of : List ℕ → List ℕ
text_of bytes = flat_map text_of_byte bytes

-- what ends a line: a line feed, a carriage return and a line feed, a carriage return, or the end of the text
pub data Ending : Type 0 where
  LineFeed : Ending
  CarriageReturnLineFeed : Ending
  CarriageReturn : Ending
  EndOfText : Ending

abbrev pub begins_with_line_feed : List ℕ → Bool
begins_with_line_feed [] = false
begins_with_line_feed (b ∷ bs) = b == byte "\n"

-- The text is this line, its ending and this rest. No line feed follows a carriage return that is an ending by
-- itself, and a line that the end of the text ends isn't empty.
abbrev pub Ends : Ending → List ℕ → List ℕ → List ℕ → Type 0
Ends LineFeed line rest text = text ≡ line ++ byte "\n" ∷ rest
Ends CarriageReturnLineFeed line rest text = text ≡ line ++ byte "\r" ∷ byte "\n" ∷ rest
Ends CarriageReturn line rest text = (text ≡ line ++ byte "\r" ∷ rest) × (begins_with_line_feed rest ≡ false)
Ends EndOfText line rest text = (text ≡ line) × (line ≢ []) × (rest ≡ [])

-- These are the lines of the text: each is without line endings, and each followed by its ending they give the text.
-- Only the last may lack an ending, and then it isn't empty.
abbrev pub AreLinesOf : List ℕ → List (List ℕ) → Type 0
AreLinesOf text [] = text ≡ []
AreLinesOf text (line ∷ lines) =
    (is_line line ≡ true) × ((ending : Ending) × ((rest : List ℕ) × (Ends ending line rest text × AreLinesOf rest lines)))

-- a line that the end of the text ends, as a list: none if it is empty
abbrev pub last_line : List ℕ → List (List ℕ)
last_line [] = []
last_line (b ∷ bs) = (b ∷ bs) ∷ []

-- The lines of a text after the part of a line that has been read. A line feed that follows a carriage return
-- belongs to the same ending.
abbrev pub lines_after : (after_return : Bool) (line text : List ℕ) → List (List ℕ)
lines_after after_return line [] = last_line line
lines_after after_return line (b ∷ bs) = elim (b == byte "\n") [
  | true ↦ elim after_return [ true ↦ lines_after false line bs | false ↦ line ∷ lines_after false [] bs ]
  | false ↦ elim (b == byte "\r") [ true ↦ line ∷ lines_after true [] bs | false ↦ lines_after false (line ++ b ∷ []) bs ]
]

-- the lines of a text, computed from the left
abbrev pub lines_of : List ℕ → List (List ℕ)
lines_of text = lines_after false [] text

-- a line: its start column, its text, and whether it is a lazy continuation line
pub record LineView : Type 0 where
  pub column : ℕ
  pub text : List ℕ
  pub lazy : Bool

-- the line that a value of the program represents
abbrev pub seen_line : Line → LineView
seen_line line = record { column = line.column; text = string_bytes line.text; lazy = line.lazy }

-- a line of a text as it is read at first: its start column is 0, and it isn't lazy
abbrev pub plain_line : List ℕ → LineView
plain_line text = record { column = 0; text = text; lazy = false }

-- the lines of a text as they are read at first
abbrev pub plain_lines_of : List ℕ → List LineView
plain_lines_of text = map plain_line (lines_of text)

-- the text ends with a line feed or a carriage return
abbrev pub ends_a_line : List ℕ → Bool
ends_a_line [] = false
ends_a_line (b ∷ []) = is_line_ending b
ends_a_line (b ∷ c ∷ bs) = ends_a_line (c ∷ bs)

-- a list without its last element
abbrev pub but_last : {X : Type 0} → List X → List X
but_last [] = []
but_last (x ∷ []) = []
but_last (x ∷ y ∷ ys) = x ∷ but_last (y ∷ ys)

-- the lines of a text that have ended: all, or all but the last if no line-ending character ends it
abbrev pub ended_lines_of : List ℕ → List LineView
ended_lines_of text = if ends_a_line text then plain_lines_of text else but_last (plain_lines_of text)

-- a text has only one list of lines
abbrev pub LinesAreDetermined : Type 0
LinesAreDetermined = (text : List ℕ) (lines others : List (List ℕ)) → AreLinesOf text lines → AreLinesOf text others → lines ≡ others

-- `lines_of` computes the lines of a text
abbrev pub LinesAreComputed : Type 0
LinesAreComputed = (text : List ℕ) → AreLinesOf text (lines_of text)

-- no line of a text contains a line ending
abbrev pub LinesAreLines : Type 0
LinesAreLines = (text : List ℕ) (lines : List (List ℕ)) → AreLinesOf text lines → list_all is_line lines ≡ true

-- a line followed by a line feed
abbrev pub with_line_feed : List ℕ → List ℕ
with_line_feed line = line ++ byte "\n" ∷ []

-- a text made of lines without endings, each followed by a line feed, has these lines
abbrev pub LinesWithLineFeeds : Type 0
LinesWithLineFeeds = (lines : List (List ℕ)) → list_all is_line lines ≡ true → lines_of (flat_map with_line_feed lines) ≡ lines
