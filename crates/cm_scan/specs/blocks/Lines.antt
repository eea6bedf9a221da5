-- Lines, and what is left of them after a marker (CommonMark 0.31.2, 2.1 Characters and lines, 2.2 Tabs).
use Rattle.std.specs.Prelude.{ℕ, suc, ◌+◌, Bool, true, List, [], ◌∷◌, drop, if◌then◌else◌}
use Rattle.cm_text.specs.Lines.{LineView, with_line_feed}
use Rattle.cm_text.specs.Indentation.{indent_of}
use Rattle.cm_scan.specs.Words.{is_space_or_tab, is_blank_text, trim_start}

-- a blank line: nothing but spaces and tabs
abbrev pub is_blank : LineView → Bool
is_blank line = is_blank_text line.text

-- the text of a line after its indentation
abbrev pub content_of : LineView → List ℕ
content_of line = trim_start line.text

-- what is left of a line after its indentation and the given number of bytes, none of them a tab
unfoldable pub past : ℕ → LineView → LineView
past n line = record { column = line.column + indent_of line + n; text = drop n (content_of line); lazy = line.lazy }

-- the line as a lazy continuation line
abbrev pub as_lazy : LineView → LineView
as_lazy line = record { column = line.column; text = line.text; lazy = true }

-- the line as it is in the text of a block: followed by a line feed
abbrev pub with_ending : LineView → List ℕ
with_ending line = with_line_feed line.text

-- how many bytes of a text are neither space nor tab
unfoldable pub marks : List ℕ → ℕ
marks [] = 0
marks (b ∷ bs) = if is_space_or_tab b then marks bs else suc (marks bs)

-- A measure of lines by which the recursion on them ends: a container removes a marker, and every other block
-- a line.
unfoldable pub size : List LineView → ℕ
size [] = 0
size (line ∷ lines) = suc (marks line.text + size lines)
