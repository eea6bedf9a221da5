-- The extent of the lines of text at the start of a text.
use Rattle.std.specs.Prelude.{◌≡◌, ℕ, ◌≤◌, true, List, length, take, drop}
use Rattle.std.specs.List.{flat_map}
use Rattle.std.specs.Str.{IsCharBoundary}
use Rattle.cm_text.specs.Lines.{lines_of, with_line_feed}
use Rattle.cm_text.specs.TextLines.{are_text}
use Rattle.cm_text.specs.steps.FirstLine.{IsFirstLine}
use Rattle.cm_text.specs.declared.text_lines.TextAhead.{TextAhead}

-- This number of bytes is this number of lines of text, each with its line feed, and the line after them has as many bytes as is said.
pub record IsAhead (ahead : TextAhead) (text : List ℕ) : Type 0 where
  pub within : ahead.len ≤ length text
  pub boundary : IsCharBoundary text ahead.len
  pub lines : take ahead.len text ≡ flat_map with_line_feed (lines_of (take ahead.len text))
  pub counted : ahead.count ≡ length (lines_of (take ahead.len text))
  pub are_text : are_text ahead.spaces (lines_of (take ahead.len text)) ≡ true
  pub first : IsFirstLine ahead.line (drop ahead.len text)
