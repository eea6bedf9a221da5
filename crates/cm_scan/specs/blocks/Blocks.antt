-- The block structure of a list of lines (CommonMark 0.31.2, chapters 3 to 5), by cases on what the first line starts, and then on
-- the lines that are left.
use Rattle.std.specs.Prelude.{ℕ, zero, suc, ◌+◌, ◌-◌, Bool, true, false, not, ◌&&◌, List, [], ◌∷◌, ◌++◌, length, Option, Some, None, ◌==◌, nat_lt, nat_le, if◌then◌else◌}
use Rattle.std.specs.List.{flat_map, position}
use Rattle.std.specs.Option.{option_map}
use Rattle.std.specs.Str.{byte}
use Rattle.cm_text.specs.Rules.{Rules}
use Rattle.cm_text.specs.Lines.{LineView}
use Rattle.cm_text.specs.Indentation.{indent_of, strip_columns}
use Rattle.cm_tree.specs.declared.tree.Block.{Block}
use Rattle.cm_tree.specs.declared.tree.Owner.{Owner}
use Rattle.cm_tree.specs.Definitions.{Targets}
use Rattle.cm_scan.specs.Words.{is_empty, trim_end}
use Rattle.cm_scan.specs.blocks.Lines.{is_blank, content_of, with_ending, size}
use Rattle.cm_scan.specs.blocks.LineForms.{Fence, is_closing_fence, ItemMarker}
use Rattle.cm_scan.specs.blocks.HtmlBlocks.{HtmlKind, is_html_end, ends_at_blank_line}
use Rattle.cm_scan.specs.inlines.Links.{LinkDefinition, definitions_of}
use Rattle.cm_scan.specs.blocks.Starts.{Start, IndentedCode, QuoteMarker, AtxHeading, OpeningFence, HtmlStart, BreakLine, ItemStart, TextLine, start_of, interrupts_paragraph, underline_of, Continuation, Stays, StaysIfOpen, Leaves, after_quote_marker, continuation_in_quote, content_column, first_content, continuation_in_item}
use Rattle.cm_scan.specs.blocks.Parts.{info_of, LeafPart, paragraph, heading, code, html, thematic_break, definition, Parts, none, blank, leaf, quote, leaves_paragraph_open, put_item, put_leaves, blocks_of_parts, line_owners, depths_of, table_of}

-- the source of a run of text with one more line, without its leading spaces and tabs (4.8 Paragraphs)
abbrev pub add_text : List ℕ → LineView → List ℕ
add_text [] line = content_of line
add_text (b ∷ bs) line = (b ∷ bs) ++ byte "\n" ∷ content_of line

-- what is left of a run of text after the definitions at its start; the spaces and tabs at its end are removed
unfoldable pub rest_of : List ℕ → List ℕ
rest_of source = (definitions_of (trim_end source)).left

-- what the next line is to a run of text with this source: more text, after its end, or its underline
pub data NextLine : Type 0 where
  GoesOn : NextLine
  Ends : NextLine
  Underlines : ℕ → NextLine

-- the same, given the level of the underline, whether there is text above it, and whether the line interrupts
abbrev pub by_underline : Option ℕ → (something_left interrupts : Bool) → NextLine
by_underline (Some level) true interrupts = Underlines level
by_underline (Some level) false interrupts = if interrupts then Ends else GoesOn
by_underline None something_left interrupts = if interrupts then Ends else GoesOn

-- What the next line is to a run of text. An underline takes precedence over a thematic break and an item, and it needs text above
-- it that is no definition (4.3 Setext headings, 4.8 Paragraphs).
unfoldable pub next_line : Rules → List ℕ → LineView → NextLine
next_line rules source line = elim (is_blank line) [
  | true ↦ Ends
  | false ↦ by_underline (underline_of line) (not (is_empty (rest_of source))) (interrupts_paragraph rules line)
]

-- A run of text: its source, the level of its underline if it has one, and the lines that follow.
pub record TextRun : Type 0 where
  pub source : List ℕ
  pub level : Option ℕ
  pub following : List LineView

-- the run of text with this source so far (4.8 Paragraphs, 4.3 Setext headings)
unfoldable pub text_run : Rules → List ℕ → List LineView → TextRun
text_run rules source [] = record { source = source; level = None; following = [] }
text_run rules source (line ∷ lines) = elim (next_line rules source line) [
  | GoesOn ↦ text_run rules (add_text source line) lines
  | Ends ↦ record { source = source; level = None; following = line ∷ lines }
  | Underlines level ↦ record { source = source; level = Some level; following = lines }
]

-- how many line feeds a text has
unfoldable pub line_feeds : List ℕ → ℕ
line_feeds [] = 0
line_feeds (b ∷ bs) = if b == byte "\n" then suc (line_feeds bs) else line_feeds bs

-- how many lines a text has, separated by line feeds
abbrev pub line_count : List ℕ → ℕ
line_count [] = 0
line_count (b ∷ bs) = suc (line_feeds (b ∷ bs))

-- the definitions at the start of a text, each with its number of lines
unfoldable pub definition_leaves : List ℕ → List LinkDefinition → List (LeafPart × ℕ)
definition_leaves text [] = []
definition_leaves text (d ∷ ds) = (definition d.label d.dest d.title, line_count text - line_count d.rest) ∷ definition_leaves d.rest ds

-- the rest of a run of text is a paragraph, or a heading with an underline, which is one more line
abbrev pub content_leaf : Option ℕ → List ℕ → List (LeafPart × ℕ)
content_leaf level [] = []
content_leaf None (b ∷ bs) = (paragraph (b ∷ bs), line_count (b ∷ bs)) ∷ []
content_leaf (Some level) (b ∷ bs) = (heading level (b ∷ bs), suc (line_count (b ∷ bs))) ∷ []

-- the leaves of a run of text: the definitions at its start, then the paragraph or heading
unfoldable pub leaves_of_run : TextRun → List (LeafPart × ℕ)
leaves_of_run run =
    let source = trim_end run.source in
    let found = definitions_of source in
    definition_leaves source found.taken ++ content_leaf run.level found.left

-- The text of a code or HTML block, its number of lines, and the lines that follow.
pub record Taken : Type 0 where
  pub text : List ℕ
  pub lines : ℕ
  pub following : List LineView

-- a block with this text and number of lines, and the lines that follow
abbrev pub taken : List ℕ → ℕ → List LineView → Taken
taken text lines following = record { text = text; lines = lines; following = following }

-- a closing code fence: at most 3 columns of indentation (4.5 Fenced code blocks)
abbrev pub closes_fence : Fence → LineView → Bool
closes_fence fence line = nat_le (indent_of line) 3 && is_closing_fence fence (content_of line)

-- The lines after an opening code fence, up to the closing fence or the end. Each loses its indentation up to that of the opening
-- fence (4.5 Fenced code blocks). The text and the number of lines so far are given.
unfoldable pub fenced : Fence → (columns : ℕ) → List ℕ → ℕ → List LineView → Taken
fenced fence columns text n [] = taken text n []
fenced fence columns text n (line ∷ lines) = elim (closes_fence fence line) [
  | true ↦ taken text (suc n) lines
  | false ↦ fenced fence columns (text ++ with_ending (strip_columns columns line)) (suc n) lines
]

-- the lines of an HTML block up to the one that meets its end condition, or to the end (4.6 HTML blocks)
unfoldable pub html_to_end : HtmlKind → List ℕ → ℕ → List LineView → Taken
html_to_end kind text n [] = taken text n []
html_to_end kind text n (line ∷ lines) = elim (is_html_end kind line.text) [
  | true ↦ taken (text ++ with_ending line) (suc n) lines
  | false ↦ html_to_end kind (text ++ with_ending line) (suc n) lines
]

-- the lines of an HTML block up to a blank line, which doesn't belong to it
unfoldable pub html_to_blank : List ℕ → ℕ → List LineView → Taken
html_to_blank text n [] = taken text n []
html_to_blank text n (line ∷ lines) = elim (is_blank line) [
  | true ↦ taken text n (line ∷ lines)
  | false ↦ html_to_blank (text ++ with_ending line) (suc n) lines
]

-- the lines of an HTML block: up to the one that meets its end condition, or up to a blank line, or to the end (4.6 HTML blocks)
unfoldable pub html_lines : HtmlKind → List LineView → Taken
html_lines kind lines = if ends_at_blank_line kind then html_to_blank [] 0 lines else html_to_end kind [] 0 lines

-- a line of indented code: without 4 columns of its indentation, and with its line feed
abbrev pub code_line : LineView → List ℕ
code_line line = with_ending (strip_columns 4 line)

-- The lines of indented code. Blank lines belong to it only if a line of code follows them: those since the last one are given too
-- (4.4 Indented code blocks).
unfoldable pub indented : List ℕ → ℕ → (blanks : List LineView) → List LineView → Taken
indented text n blanks [] = taken text n blanks
indented text n blanks (line ∷ lines) = elim (is_blank line) [
  | true ↦ indented text n (blanks ++ line ∷ []) lines
  | false ↦ elim (nat_le 4 (indent_of line)) [
    | true ↦ indented (text ++ flat_map code_line blanks ++ code_line line) (n + length blanks + 1) [] lines
    | false ↦ taken text n (blanks ++ line ∷ lines)
  ]
]

-- The lines of a container, as they go inward, and the lines that follow it.
pub record Inside : Type 0 where
  pub inner : List LineView
  pub following : List LineView

-- the lines of an item so far are one blank line, so it has only its marker
abbrev pub is_bare : List LineView → Bool
is_bare (line ∷ []) = is_blank line
is_bare _ = false

-- The cases; `parts` gives the parts of fewer lines, or of lines from which a marker was taken.
module _ (rules : Rules) (parts : List LineView → Parts) where
  -- The lines of a container, as long as each is inside it; those so far are given. A line without the marker or the indentation
  -- is inside if those so far leave a paragraph open: it is a lazy continuation line.
  unfoldable pub inside : (Bool → LineView → Continuation) → List LineView → List LineView → Inside
  inside continuation so_far [] = record { inner = so_far; following = [] }
  inside continuation so_far (line ∷ lines) = elim (continuation (is_bare so_far) line) [
    | Stays inner ↦ inside continuation (so_far ++ inner ∷ []) lines
    | StaysIfOpen inner ↦ elim (leaves_paragraph_open (parts so_far)) [
      | true ↦ inside continuation (so_far ++ inner ∷ []) lines
      | false ↦ record { inner = so_far; following = line ∷ lines }
    ]
    | Leaves ↦ record { inner = so_far; following = line ∷ lines }
  ]

  -- a block quote, and what follows it (5.1 Block quotes)
  unfoldable pub quote_parts : LineView → List LineView → Parts
  quote_parts line lines =
      let i = inside (λ bare l. continuation_in_quote rules l) (after_quote_marker line ∷ []) lines in
      quote (parts i.inner) (parts i.following)

  -- a list item, and what follows it (5.2 List items, 5.3 Lists)
  unfoldable pub item_parts : ItemMarker → LineView → List LineView → Parts
  item_parts marker line lines =
      let i = inside (continuation_in_item rules (content_column marker line)) (first_content marker line ∷ []) lines in
      put_item marker.kind (parts i.inner) (parts i.following)

  -- a fenced code block, and what follows it (4.5 Fenced code blocks)
  unfoldable pub fence_parts : Fence → LineView → List LineView → Parts
  fence_parts fence line lines =
      let t = fenced fence (indent_of line) [] 1 lines in
      leaf (code (info_of rules fence.info) t.text) t.lines (parts t.following)

  -- an HTML block, whose first line may be its last, and what follows it (4.6 HTML blocks)
  unfoldable pub html_parts : HtmlKind → LineView → List LineView → Parts
  html_parts kind line lines =
      let t = html_lines kind (line ∷ lines) in
      leaf (html t.text) t.lines (parts t.following)

  -- an indented code block, and what follows it (4.4 Indented code blocks)
  unfoldable pub code_parts : LineView → List LineView → Parts
  code_parts line lines =
      let t = indented (code_line line) 1 [] lines in
      leaf (code [] t.text) t.lines (parts t.following)

  -- the leaves of a run of text, and what follows them (4.7 Link reference definitions, 4.8 Paragraphs, 4.3 Setext headings)
  unfoldable pub text_parts : LineView → List LineView → Parts
  text_parts line lines =
      let run = text_run rules (content_of line) lines in
      put_leaves (leaves_of_run run) (parts run.following)

  -- the parts, given what the first line starts
  unfoldable pub parts_by_start : Start → LineView → List LineView → Parts
  parts_by_start IndentedCode line lines = code_parts line lines
  parts_by_start QuoteMarker line lines = quote_parts line lines
  parts_by_start (AtxHeading h) line lines = leaf (heading h.level h.content) 1 (parts lines)
  parts_by_start (OpeningFence fence) line lines = fence_parts fence line lines
  parts_by_start (HtmlStart kind) line lines = html_parts kind line lines
  parts_by_start BreakLine line lines = leaf thematic_break 1 (parts lines)
  parts_by_start (ItemStart marker) line lines = item_parts marker line lines
  parts_by_start TextLine line lines = text_parts line lines

  -- The parts of lines by what the first line starts, given the parts of fewer lines. A blank line separates blocks and is
  -- otherwise ignored (4.9 Blank lines).
  unfoldable pub parts_by_cases : List LineView → Parts
  parts_by_cases [] = none
  parts_by_cases (line ∷ lines) = elim (is_blank line) [ true ↦ blank (parts lines) | false ↦ parts_by_start (start_of rules line) line lines ]

-- the cases, nested up to a given depth; the size of the lines is enough
unfoldable pub parts_within : Rules → ℕ → List LineView → Parts
parts_within rules zero lines = none
parts_within rules (suc n) lines = parts_by_cases rules (λ fewer. parts_within rules n fewer) lines

-- the parts of a list of lines
unfoldable pub parts_of : Rules → List LineView → Parts
parts_of rules lines = parts_within rules (size lines) lines

-- the blocks of a list of lines; the source of a paragraph or heading is one text
unfoldable pub blocks_of : Rules → List LineView → List Block
blocks_of rules lines = blocks_of_parts (parts_of rules lines)

-- the owner of each line of a list of lines
unfoldable pub owners_of : Rules → List LineView → List Owner
owners_of rules lines = line_owners (parts_of rules lines)

-- the table of the link reference definitions of a list of lines (4.7 Link reference definitions)
unfoldable pub reference_table : Rules → List LineView → Targets
reference_table rules lines = table_of (parts_of rules lines)

-- the number of the first line, counted from 1, that is in more block quotes and list items than the limit
unfoldable pub first_too_deep : Rules → ℕ → List LineView → Option ℕ
first_too_deep rules limit lines = option_map suc (position (λ depth. nat_lt limit depth) (depths_of (parts_of rules lines)))
