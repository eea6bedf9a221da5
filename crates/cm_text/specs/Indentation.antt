-- Indentation of a line, counted in columns (CommonMark 0.31.2, 2.2 Tabs).
use Rattle.std.specs.Prelude.{◌≡◌, ℕ, min, ◌+◌, ◌-◌, ◌%◌, true, false, ◌==◌, ◌||◌, nat_lt, if◌then◌else◌, List, [], ◌∷◌, ◌++◌, replicate}
use Rattle.std.specs.Str.{byte}
use Rattle.cm_text.specs.Lines.{LineView}

-- how many columns a tab at this column takes: it reaches to the next multiple of 4
abbrev pub tab_width : ℕ → ℕ
tab_width column = 4 - column % 4

-- the columns before the first character that is neither space nor tab, in a text that starts at this column
abbrev pub indent_from : ℕ → List ℕ → ℕ
indent_from column [] = 0
indent_from column (b ∷ bs) = elim (b == byte " ") [
  | true ↦ 1 + indent_from (column + 1) bs
  | false ↦ elim (b == byte "\t") [ true ↦ tab_width column + indent_from (column + tab_width column) bs | false ↦ 0 ]
]

-- the columns before the first character of a line that is neither space nor tab
abbrev pub indent_of : LineView → ℕ
indent_of line = indent_from line.column line.text

-- the columns that a space or a tab takes at this column; no other character is indentation
abbrev pub blank_width : ℕ → ℕ → ℕ
blank_width column b = if b == byte " " then 1 else if b == byte "\t" then tab_width column else 0

-- A text without the given number of columns, or without its indentation if that is less, and the column at which the
-- rest starts. If only some columns of a tab are taken, the others are left as spaces.
abbrev pub strip_from : ℕ → ℕ → List ℕ → ℕ × List ℕ
strip_from n column [] = (column, [])
strip_from n column (b ∷ bs) = elim (n == 0 || blank_width column b == 0) [
  | true ↦ (column, b ∷ bs)
  | false ↦ elim (nat_lt n (blank_width column b)) [
    | true ↦ (column + n, replicate (blank_width column b - n) (byte " ") ++ bs)
    | false ↦ strip_from (n - blank_width column b) (column + blank_width column b) bs
  ]
]

-- A line without the given number of columns, or without its indentation if that is less. If only some columns of a
-- tab are taken, the others are left as spaces.
abbrev pub strip_columns : ℕ → LineView → LineView
strip_columns n line =
    let left = strip_from n line.column line.text in
    record { column = left.0; text = left.1; lazy = line.lazy }

-- what follows the indentation of a text
abbrev pub after_indent : List ℕ → List ℕ
after_indent [] = []
after_indent (b ∷ bs) = elim (b == byte " " || b == byte "\t") [ true ↦ after_indent bs | false ↦ b ∷ bs ]

-- Stripping adds the columns that it takes to the start column, and leaves the rest of the indentation and what
-- follows it.
abbrev pub StripTakesColumns : Type 0
StripTakesColumns = (n : ℕ) (line : LineView) →
    ((strip_columns n line).column ≡ line.column + min n (indent_of line))
    × (indent_of (strip_columns n line) ≡ indent_of line - n)
    × (after_indent (strip_columns n line).text ≡ after_indent line.text)

-- Stripping columns in two steps is stripping their sum.
abbrev pub StripInParts : Type 0
StripInParts = (n m : ℕ) (line : LineView) → strip_columns m (strip_columns n line) ≡ strip_columns (n + m) line

-- a line that starts the given number of columns later
abbrev pub after_spaces : ℕ → LineView → LineView
after_spaces n line = record { column = line.column + n; text = line.text; lazy = line.lazy }

-- a line with the given number of spaces before it
abbrev pub with_spaces : ℕ → LineView → LineView
with_spaces n line = record { column = line.column; text = replicate n (byte " ") ++ line.text; lazy = line.lazy }

-- Each space before a line is one column of its indentation.
abbrev pub SpacesAreColumns : Type 0
SpacesAreColumns = (n : ℕ) (line : LineView) → indent_of (with_spaces n line) ≡ n + indent_of (after_spaces n line)

-- Stripping as many columns as there are spaces before a line takes just these spaces.
abbrev pub SpacesAreStripped : Type 0
SpacesAreStripped = (n : ℕ) (line : LineView) → strip_columns n (with_spaces n line) ≡ after_spaces n line
