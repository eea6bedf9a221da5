-- The leaf block that is open while lines are read one at a time, and what one more line does to it (CommonMark 0.31.2, chapter 4).
-- It is held as its text so far, and its number of lines.
use Rattle.std.specs.Prelude.{ℕ, suc, ◌+◌, Bool, true, false, ◌&&◌, List, [], ◌∷◌, ◌++◌, Option, Some, None, nat_le}
use Rattle.cm_text.specs.Rules.{Rules}
use Rattle.cm_text.specs.Lines.{LineView}
use Rattle.cm_text.specs.Indentation.{indent_of, strip_columns}
use Rattle.cm_tree.specs.declared.tree.ListKind.{ListKind}
use Rattle.cm_scan.specs.blocks.Lines.{is_blank, content_of, with_ending}
use Rattle.cm_scan.specs.blocks.LineForms.{Fence}
use Rattle.cm_scan.specs.blocks.HtmlBlocks.{HtmlKind, is_html_end, ends_at_blank_line}
use Rattle.cm_scan.specs.blocks.Starts.{Start, IndentedCode, QuoteMarker, AtxHeading, OpeningFence, HtmlStart, BreakLine, ItemStart, TextLine, start_of, after_quote_marker, content_column, first_content}
use Rattle.cm_scan.specs.blocks.Parts.{info_of, LeafPart, heading, code, html, thematic_break}
use Rattle.cm_scan.specs.blocks.Blocks.{add_text, NextLine, GoesOn, Ends, Underlines, next_line, leaves_of_run, closes_fence, code_line}

-- What is open: nothing; a run of text, by its source; indented code, with the text and number of the blank lines that need another
-- line of code after them; a fenced code block, with the columns removed from each line; an HTML block.
pub data OpenLeaf : Type 0 where
  no_leaf : OpenLeaf
  open_text : (source : List ℕ) → OpenLeaf
  open_code : (text : List ℕ) → (lines : ℕ) → (blank_text : List ℕ) → (blank_lines : ℕ) → OpenLeaf
  open_fence : Fence → (columns : ℕ) → (text : List ℕ) → (lines : ℕ) → OpenLeaf
  open_html : HtmlKind → (text : List ℕ) → (lines : ℕ) → OpenLeaf

-- the leaves of a run of text with this source, which an underline may have ended
abbrev pub run_leaves : Option ℕ → List ℕ → List (LeafPart × ℕ)
run_leaves level source = leaves_of_run (record { source = source; level = level; following = [] })

-- the leaves of the open block once it is closed, each with its number of lines
unfoldable pub closed_leaves : OpenLeaf → List (LeafPart × ℕ)
closed_leaves no_leaf = []
closed_leaves (open_text source) = run_leaves None source
closed_leaves (open_code text lines blank_text blank_lines) = (code [] text, lines) ∷ []
closed_leaves (open_fence fence columns text lines) = (code fence.info text, lines) ∷ []
closed_leaves (open_html kind text lines) = (html text, lines) ∷ []

-- how many blank lines follow these leaves then
abbrev pub blank_lines_after : OpenLeaf → ℕ
blank_lines_after (open_code text lines blank_text blank_lines) = blank_lines
blank_lines_after _ = 0

-- no leaf is open
abbrev pub is_no_leaf : OpenLeaf → Bool
is_no_leaf no_leaf = true
is_no_leaf _ = false

-- a lazy continuation line can follow
abbrev pub is_open_text : OpenLeaf → Bool
is_open_text (open_text source) = true
is_open_text _ = false

-- A line of a leaf block: the block is still open after it, or it was the last, and these are the leaves.
pub data LeafLine : Type 0 where
  stays_open : OpenLeaf → LeafLine
  is_last : List (LeafPart × ℕ) → LeafLine

-- what a line is to an open run of text (4.8 Paragraphs, 4.3 Setext headings)
abbrev pub line_of_text : (source : List ℕ) → LineView → NextLine → Option LeafLine
line_of_text source line GoesOn = Some (stays_open (open_text (add_text source line)))
line_of_text source line (Underlines level) = Some (is_last (run_leaves (Some level) source))
line_of_text source line Ends = None

-- what a line is to open indented code, given whether it is blank and has 4 columns of indentation (4.4 Indented code blocks)
abbrev pub line_of_code : (text : List ℕ) → (lines : ℕ) → (blank_text : List ℕ) → (blank_lines : ℕ) → LineView → (blank indented : Bool) → Option LeafLine
line_of_code text lines blank_text blank_lines line true indented = Some (stays_open (open_code text lines (blank_text ++ code_line line) (suc blank_lines)))
line_of_code text lines blank_text blank_lines line false true = Some (stays_open (open_code (text ++ blank_text ++ code_line line) (lines + blank_lines + 1) [] 0))
line_of_code text lines blank_text blank_lines line false false = None

-- what a line is to open fenced code, given whether it is the closing fence (4.5 Fenced code blocks)
abbrev pub line_of_fence : Fence → (columns : ℕ) → (text : List ℕ) → (lines : ℕ) → LineView → (closes : Bool) → LeafLine
line_of_fence fence columns text lines line true = is_last ((code fence.info text, suc lines) ∷ [])
line_of_fence fence columns text lines line false = stays_open (open_fence fence columns (text ++ with_ending (strip_columns columns line)) (suc lines))

-- what a line, the first or a later one, is to an HTML block, given whether it meets the end condition (4.6 HTML blocks)
abbrev pub line_of_html : HtmlKind → (text : List ℕ) → (lines : ℕ) → LineView → (ends : Bool) → LeafLine
line_of_html kind text lines line true = is_last ((html (text ++ with_ending line), suc lines) ∷ [])
line_of_html kind text lines line false = stays_open (open_html kind (text ++ with_ending line) (suc lines))

-- the line as one of the open leaf, if it belongs to that
unfoldable pub line_of_leaf : Rules → OpenLeaf → LineView → Option LeafLine
line_of_leaf rules no_leaf line = None
line_of_leaf rules (open_text source) line = line_of_text source line (next_line rules source line)
line_of_leaf rules (open_code text lines blank_text blank_lines) line =
    line_of_code text lines blank_text blank_lines line (is_blank line) (nat_le 4 (indent_of line))
line_of_leaf rules (open_fence fence columns text lines) line = Some (line_of_fence fence columns text lines line (closes_fence fence line))
line_of_leaf rules (open_html kind text lines) line = elim (ends_at_blank_line kind && is_blank line) [
  | true ↦ None
  | false ↦ Some (line_of_html kind text lines line (is_html_end kind line.text))
]

-- What a line starts if no leaf is open: nothing, since it is blank; a leaf block; a block quote, with what is left of the line
-- after its marker; a list item, with the column at which its content starts and what is left of the line after its marker.
pub data LineOpens : Type 0 where
  begins_nothing : LineOpens
  begins_leaf : LeafLine → LineOpens
  begins_quote : LineView → LineOpens
  begins_item : ListKind → (column : ℕ) → LineView → LineOpens

-- an open fence whose info string is that of the tree
abbrev pub open_as : Rules → Fence → Fence
open_as rules fence = record fence { info = info_of rules fence.info }

-- the same, given the start of the line
abbrev pub begin_of_start : Rules → Start → LineView → LineOpens
begin_of_start rules IndentedCode line = begins_leaf (stays_open (open_code (code_line line) 1 [] 0))
begin_of_start rules QuoteMarker line = begins_quote (after_quote_marker line)
begin_of_start rules (AtxHeading h) line = begins_leaf (is_last ((heading h.level h.content, 1) ∷ []))
begin_of_start rules (OpeningFence fence) line = begins_leaf (stays_open (open_fence (open_as rules fence) (indent_of line) [] 1))
begin_of_start rules (HtmlStart kind) line = begins_leaf (line_of_html kind [] 0 line (is_html_end kind line.text))
begin_of_start rules BreakLine line = begins_leaf (is_last ((thematic_break, 1) ∷ []))
begin_of_start rules (ItemStart marker) line = begins_item marker.kind (content_column marker line) (first_content marker line)
begin_of_start rules TextLine line = begins_leaf (stays_open (open_text (content_of line)))

-- what a line starts if no leaf is open
unfoldable pub begin_of : Rules → LineView → LineOpens
begin_of rules line = elim (is_blank line) [ true ↦ begins_nothing | false ↦ begin_of_start rules (start_of rules line) line ]
