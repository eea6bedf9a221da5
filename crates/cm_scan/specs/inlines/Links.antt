-- Link labels, destinations, titles and link reference definitions (CommonMark 0.31.2, 6.3 Links, 4.7 Link reference
-- definitions). A text is a leaf's source: its lines are separated by line feeds.
use Rattle.std.specs.Prelude.{ℕ, zero, suc, ◌-◌, Bool, true, false, not, ◌&&◌, ◌||◌, List, [], ◌∷◌, length, Option, Some, None, ◌==◌, nat_le, if◌then◌else◌, count_by, codes}
use Rattle.std.specs.List.{list_all}
use Rattle.std.specs.Option.{option_map}
use Rattle.std.specs.Str.{byte}
use Rattle.std.specs.Int.{is_in_range}
use Rattle.std.specs.Char.{is_ascii_control}
use Rattle.cm_text.specs.Characters.{is_ascii_punct}
use Rattle.cm_scan.specs.Words.{is_empty, begins_with, trim_start, after_word, given, ◌<|>◌, ◌and_then◌}
use Rattle.cm_scan.specs.spans.Tags.{is_blank_byte, is_blank_next, after_gap}

-- a part of a text, as it is written, and what is left after it
pub record Reading : Type 0 where
  pub text : List ℕ
  pub rest : List ℕ

-- a byte added to the front of what was read
abbrev pub beyond : ℕ → Option Reading → Option Reading
beyond b None = None
beyond b (Some r) = Some (record { text = b ∷ r.text; rest = r.rest })

-- a reading that passes a test
abbrev pub keep_if : (Reading → Bool) → Option Reading → Option Reading
keep_if test read = read and_then λ r. given (test r) r

-- the byte escapes what follows it (2.4 Backslash escapes)
abbrev pub escapes_next : ℕ → List ℕ → Bool
escapes_next b [] = false
escapes_next b (c ∷ cs) = b == byte "\\" && is_ascii_punct c

-- Up to the first byte that closes, which is removed; none if a forbidden byte comes before it. The mark says that the first byte
-- is escaped: it neither closes nor is forbidden.
unfoldable pub up_to_closing : (ℕ → Bool) → (ℕ → Bool) → (escaped : Bool) → List ℕ → Option Reading
up_to_closing closes forbidden escaped [] = None
up_to_closing closes forbidden true (b ∷ bs) = beyond b (up_to_closing closes forbidden false bs)
up_to_closing closes forbidden false (b ∷ bs) = elim (closes b) [
  | true ↦ Some (record { text = []; rest = bs })
  | false ↦ elim (forbidden b) [ true ↦ None | false ↦ beyond b (up_to_closing closes forbidden (escapes_next b bs) bs) ]
]

-- how many characters a text has: each has one byte that isn't a continuation byte
abbrev pub characters : List ℕ → ℕ
characters text = count_by (λ b. not (is_in_range 128 191 b)) text

-- at most 999 characters, at least one of them no space, tab or line ending
abbrev pub is_label : Reading → Bool
is_label r = nat_le (characters r.text) 999 && not (list_all is_blank_byte r.text)

-- A link label begins with a left bracket and ends with the first right bracket that is not backslash-escaped. Between these
-- brackets there must be at least one character that is not a space, tab, or line ending. Unescaped square bracket characters are
-- not allowed inside. A link label can have at most 999 characters.
unfoldable pub label : List ℕ → Option Reading
label [] = None
label (b ∷ bs) = elim (b == byte "[") [ true ↦ keep_if is_label (up_to_closing (λ c. c == byte "]") (λ c. c == byte "[") false bs) | false ↦ None ]

-- how many parentheses are open after a byte
abbrev pub opened_by : ℕ → ℕ → ℕ
opened_by opened b = if b == byte "(" then suc opened else (if b == byte ")" then opened - 1 else opened)

-- Up to the first space, ASCII control character, or right parenthesis without a left one. None if a parenthesis is still open
-- then, or more than 32 are open at once. The mark says that the first byte is escaped.
unfoldable pub bare_run : ℕ → (escaped : Bool) → List ℕ → Option Reading
bare_run opened escaped [] = given (opened == 0) (record { text = []; rest = [] })
bare_run opened true (b ∷ bs) = beyond b (bare_run opened false bs)
bare_run opened false (b ∷ bs) = elim (b == byte " " || is_ascii_control b || (b == byte ")" && opened == 0)) [
  | true ↦ given (opened == 0) (record { text = []; rest = b ∷ bs })
  | false ↦ elim (b == byte "(" && opened == 32) [ true ↦ None | false ↦ beyond b (bare_run (opened_by opened b) (escapes_next b bs) bs) ]
]

abbrev pub is_filled : Reading → Bool
is_filled r = not (is_empty r.text)

-- A link destination is zero or more characters between `<` and `>` without line endings or unescaped `<` or `>`; or a nonempty
-- sequence of characters that does not start with `<`, does not include ASCII control characters or space character, and includes
-- parentheses only if they are escaped or balanced, at most 32 deep.
unfoldable pub destination : List ℕ → Option Reading
destination [] = None
destination (b ∷ bs) = elim (b == byte "<") [
  | true ↦ up_to_closing (λ c. c == byte ">") (λ c. c == byte "<" || c == byte "\n") false bs
  | false ↦ keep_if is_filled (bare_run 0 false (b ∷ bs))
]

-- two line endings with nothing but spaces and tabs between
unfoldable pub has_blank_line : List ℕ → Bool
has_blank_line [] = false
has_blank_line (b ∷ bs) = (b == byte "\n" && begins_with (byte "\n") (trim_start bs)) || has_blank_line bs

abbrev pub has_no_blank_line : Reading → Bool
has_no_blank_line r = not (has_blank_line r.text)

-- the title that a byte starts: between `"`, between `'`, or between `(` and `)`
unfoldable pub title_in : ℕ → List ℕ → Option Reading
title_in b text =
    if b == byte "\"" then up_to_closing (λ c. c == byte "\"") (λ c. false) false text
    else if b == byte "'" then up_to_closing (λ c. c == byte "'") (λ c. false) false text
    else if b == byte "(" then up_to_closing (λ c. c == byte ")") (λ c. c == byte "(") false text else None

-- A link title is between `"`, between `'`, or between `(` and `)`. Although link titles may span multiple lines, they may not
-- contain a blank line.
unfoldable pub title : List ℕ → Option Reading
title [] = None
title (b ∷ bs) = keep_if has_no_blank_line (title_in b bs)

-- a link reference definition, each part as it is written, and what is left after its last line
pub record LinkDefinition : Type 0 where
  pub label : List ℕ
  pub dest : List ℕ
  pub title : List ℕ
  pub rest : List ℕ

abbrev pub at_line_end : List ℕ → Option (List ℕ)
at_line_end [] = Some []
at_line_end (b ∷ bs) = given (b == byte "\n") bs

-- after the end of the line, if only spaces and tabs come before that
unfoldable pub after_line : List ℕ → Option (List ℕ)
after_line text = at_line_end (trim_start text)

abbrev pub defined : List ℕ → List ℕ → List ℕ → Option (List ℕ) → Option LinkDefinition
defined label dest title rest = option_map (λ r. record { label = label; dest = dest; title = title; rest = r }) rest

-- after a destination: a title, separated from it by spaces, tabs or a line ending, and the end of its line
unfoldable pub titled : List ℕ → List ℕ → List ℕ → Option LinkDefinition
titled label dest text = elim (is_blank_next text) [
  | true ↦ elim (title (after_gap text)) [ Some r ↦ defined label dest r.text (after_line r.rest) | None ↦ None ]
  | false ↦ None
]

-- after a destination: no title, and the end of its line
unfoldable pub untitled : List ℕ → List ℕ → List ℕ → Option LinkDefinition
untitled label dest text = defined label dest [] (after_line text)

-- A link reference definition consists of a link label, followed by a colon, optional spaces or tabs (including up to one line
-- ending), a link destination, optional spaces or tabs (including up to one line ending), and an optional link title, which if it
-- is present must be separated from the link destination by spaces or tabs. No further character may occur.
unfoldable pub link_definition : List ℕ → Option LinkDefinition
link_definition text = label text and_then λ l. after_word (codes ":") l.rest and_then λ rest. destination (after_gap rest) and_then λ d.
    titled l.text d.text d.rest <|> untitled l.text d.text d.rest

-- the definitions at the start of a text, one after another, and what is left of it
pub record Definitions : Type 0 where
  pub taken : List LinkDefinition
  pub left : List ℕ

-- at most the given number of definitions
unfoldable pub definitions_within : ℕ → List ℕ → Definitions
definitions_within zero text = record { taken = []; left = text }
definitions_within (suc n) text = elim (link_definition text) [
  | Some d ↦ let more = definitions_within n d.rest in record { taken = d ∷ more.taken; left = more.left }
  | None ↦ record { taken = []; left = text }
]

-- the link reference definitions at the start of a text, and what is left of it (4.7 Link reference definitions)
unfoldable pub definitions_of : List ℕ → Definitions
definitions_of text = definitions_within (length text) text
