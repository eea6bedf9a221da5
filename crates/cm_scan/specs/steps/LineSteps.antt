-- The steps that the scanners of one line take.
use Rattle.std.specs.Prelude.{ℕ, ◌+◌, ◌-◌, ◌*◌, Bool, true, false, not, ◌||◌, ◌==◌, List, Option, None, if◌then◌else◌}
use Rattle.std.specs.Str.{byte}
use Rattle.cm_scan.specs.Words.{is_space_or_tab}
use Rattle.cm_scan.specs.blocks.LineForms.{underline}
use Rattle.cm_scan.specs.blocks.Starts.{Start, TextLine, IndentedCode}
use Rattle.cm_scan.specs.blocks.Blocks.{NextLine, GoesOn, Ends}

-- neither a space nor a tab
abbrev pub is_plain : ℕ → Bool
is_plain b = not (is_space_or_tab b)

-- `-`, `_` or `*`, which a thematic break is made of
abbrev pub is_break_marker : ℕ → Bool
is_break_marker b = b == 45 || b == 95 || b == 42

-- a byte that a thematic break of the marker may have
abbrev pub is_in_break : ℕ → ℕ → Bool
is_in_break marker b = b == marker || is_space_or_tab b

-- a number with one more digit after it
abbrev pub with_digit : ℕ → ℕ → ℕ
with_digit n b = n * 10 + (b - 48)

-- a byte that is trimmed from the end of a text: a space, or a tab if tabs are trimmed too
abbrev pub is_trimmed : (tabs : Bool) → ℕ → Bool
is_trimmed true b = is_space_or_tab b
is_trimmed false b = b == byte " "

-- the start of a line that is lazy or not, and has four columns of indentation or not
abbrev pub start_by : (lazy indented : Bool) → Start → Start
start_by lazy indented start = if lazy then TextLine else if indented then IndentedCode else start

-- the level of an underline, if the test passes
abbrev pub underline_if : Bool → List ℕ → Option ℕ
underline_if test text = if test then underline text else None

-- a line that interrupts a run of text, or continues it
abbrev pub by_interruption : Bool → NextLine
by_interruption interrupts = if interrupts then Ends else GoesOn
