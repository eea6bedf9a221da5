-- What a line starts, and what can interrupt a paragraph (CommonMark 0.31.2, chapters 4 and 5).
use Rattle.std.specs.Prelude.{ℕ, ◌+◌, Bool, true, false, not, ◌&&◌, ◌||◌, List, Option, Some, None, ◌==◌, nat_lt, nat_le, if◌then◌else◌}
use Rattle.std.specs.Option.{option_map}
use Rattle.std.specs.Str.{byte}
use Rattle.cm_text.specs.Rules.{Rules}
use Rattle.cm_text.specs.Lines.{LineView}
use Rattle.cm_text.specs.Indentation.{indent_of, strip_columns}
use Rattle.cm_tree.specs.declared.tree.ListKind.{ListKind}
use Rattle.cm_tree.specs.declared.tree.ListKind.TheVariants.{Dot, Paren}
use Rattle.cm_scan.specs.Words.{begins_with, given, ◌<|>◌}
use Rattle.cm_scan.specs.blocks.Lines.{is_blank, content_of, past, as_lazy}
use Rattle.cm_scan.specs.blocks.LineForms.{is_thematic_break, Heading, atx_heading, underline, Fence, opening_fence, ItemMarker, marker_width, item_marker}
use Rattle.cm_scan.specs.blocks.HtmlBlocks.{HtmlKind, AnyTag, html_start}

-- what a line that isn't blank starts
pub data Start : Type 0 where
  IndentedCode : Start
  QuoteMarker : Start
  AtxHeading : Heading → Start
  OpeningFence : Fence → Start
  HtmlStart : HtmlKind → Start
  BreakLine : Start
  ItemStart : ItemMarker → Start
  TextLine : Start

-- a start, or else text
abbrev pub or_text : Option Start → Start
or_text None = TextLine
or_text (Some start) = start

-- What a line with at most 3 columns of indentation starts: the first that fits of a block quote marker, an ATX heading, a code
-- fence, an HTML block, a thematic break and a list marker, or else text.
unfoldable pub start_of_content : Rules → List ℕ → Start
start_of_content rules text = or_text (
    given (begins_with (byte ">") text) QuoteMarker
    <|> option_map AtxHeading (atx_heading text)
    <|> option_map OpeningFence (opening_fence text)
    <|> option_map HtmlStart (html_start rules text)
    <|> given (is_thematic_break text) BreakLine
    <|> option_map ItemStart (item_marker text))

-- What a line starts: text if it is a lazy continuation line, indented code if it has four columns of indentation or more (4.4
-- Indented code blocks), and else the first that fits.
unfoldable pub start_of : Rules → LineView → Start
start_of rules line =
    if line.lazy then TextLine else if nat_le 4 (indent_of line) then IndentedCode else start_of_content rules (content_of line)

-- what is left of a line after its list marker (5.2 List items)
abbrev pub after_marker : ItemMarker → LineView → LineView
after_marker marker line = past (marker_width marker) line

-- a bullet, or the number 1
abbrev pub starts_at_one : ListKind → Bool
starts_at_one (Dot number) = number == 1
starts_at_one (Paren number) = number == 1
starts_at_one _ = true

-- what can interrupt a paragraph
abbrev pub can_interrupt : Start → LineView → Bool
can_interrupt IndentedCode line = false
can_interrupt (HtmlStart AnyTag) line = false
can_interrupt (ItemStart marker) line = starts_at_one marker.kind && not (is_blank (after_marker marker line))
can_interrupt TextLine line = false
can_interrupt _ line = true

-- The line can interrupt a paragraph: indented code and HTML of the last kind can't (4.4 Indented code blocks, 4.6 HTML blocks),
-- and an item can only if it isn't empty and its number is 1 (5.2 List items).
unfoldable pub interrupts_paragraph : Rules → LineView → Bool
interrupts_paragraph rules line = can_interrupt (start_of rules line) line

-- the level that the line gives to the text above it as a setext heading underline; a lazy continuation line is none (4.3 Setext
-- headings)
unfoldable pub underline_of : LineView → Option ℕ
underline_of line = if not line.lazy && nat_le (indent_of line) 3 then underline (content_of line) else None

-- Where a line that follows those of an open container is: in it, given as what is left of the line; in it only if they leave a
-- paragraph open; or after it.
pub data Continuation : Type 0 where
  Stays : LineView → Continuation
  StaysIfOpen : LineView → Continuation
  Leaves : Continuation

-- what a lazy continuation line can look like, though it is read as text (5.1 Block quotes, 5.2 List items)
abbrev pub may_be_lazy : Start → Bool
may_be_lazy TextLine = true
may_be_lazy IndentedCode = true
may_be_lazy (HtmlStart AnyTag) = true
may_be_lazy _ = false

-- where a line without the container's marker or indentation is
unfoldable pub continuation_if_lazy : Rules → LineView → Continuation
continuation_if_lazy rules line = elim (not (is_blank line) && may_be_lazy (start_of rules line)) [ true ↦ StaysIfOpen (as_lazy line) | false ↦ Leaves ]

-- what is left of a line after the marker of a block quote, and one column of space if there is one (5.1 Block quotes)
unfoldable pub after_quote_marker : LineView → LineView
after_quote_marker line = strip_columns 1 (past 1 line)

-- where a line is, given what it starts
abbrev pub quote_continuation : Rules → Start → LineView → Continuation
quote_continuation rules QuoteMarker line = Stays (after_quote_marker line)
quote_continuation rules _ line = continuation_if_lazy rules line

-- Where a line that follows those of an open block quote is: inside if it has the marker again, else inside only as a lazy
-- continuation line (5.1 Block quotes).
unfoldable pub continuation_in_quote : Rules → LineView → Continuation
continuation_in_quote rules line = quote_continuation rules (start_of rules line) line

-- the columns of space between a list marker and the content: 1 to 4, or 1 if there are more or the rest is blank
unfoldable pub content_offset : LineView → ℕ
content_offset beyond = if is_blank beyond || nat_lt 4 (indent_of beyond) then 1 else indent_of beyond

-- the column at which an item's content starts, counted like indentation (5.2 List items)
unfoldable pub content_column : ItemMarker → LineView → ℕ
content_column marker line = indent_of line + marker_width marker + content_offset (after_marker marker line)

-- the content on the line of the marker
unfoldable pub first_content : ItemMarker → LineView → LineView
first_content marker line = let beyond = after_marker marker line in strip_columns (content_offset beyond) beyond

-- the same, given whether the line is blank, whether there is only a marker so far, and whether it reaches the column
abbrev pub item_continuation : (blank bare reaches : Bool) → (inner : LineView) → (otherwise : Continuation) → Continuation
item_continuation true true reaches inner otherwise = Leaves
item_continuation true false reaches inner otherwise = Stays inner
item_continuation false bare true inner otherwise = Stays inner
item_continuation false bare false inner otherwise = otherwise

-- Where a line that follows those of an open item is: inside if it is blank or reaches the content column, else inside only as a
-- lazy continuation line. After a marker with nothing on its line a blank line ends the item: the mark says that there is only such
-- a marker so far (5.2 List items).
unfoldable pub continuation_in_item : Rules → (column : ℕ) → (bare : Bool) → LineView → Continuation
continuation_in_item rules column bare line = elim line.lazy [
  | true ↦ continuation_if_lazy rules line
  | false ↦ item_continuation (is_blank line) bare (nat_le column (indent_of line)) (strip_columns column line) (continuation_if_lazy rules line)
]
