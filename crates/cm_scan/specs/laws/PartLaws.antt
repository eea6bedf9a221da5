-- The parts of lines, case by case. The definition computes up to a bound; these laws don't mention it, and what is built on the
-- block structure uses them.
use Rattle.std.specs.Prelude.{◌≡◌, ℕ, suc, ◌+◌, ◌==◌, Bool, true, false, ◌&&◌, if◌then◌else◌, List, [], ◌∷◌, ◌++◌, length, map, Option, Some, None, ⊤}
use Rattle.std.specs.List.{list_all}
use Rattle.std.specs.Option.{option_map}
use Rattle.cm_text.specs.LineText.{is_line}
use Rattle.cm_tree.specs.declared.tree.Block.{Block, Block-F}
use Rattle.cm_tree.specs.declared.tree.Block.TheOpen as block
use Rattle.cm_tree.specs.declared.tree.Block.TheFolds.{fold-Block}
use Rattle.cm_tree.specs.declared.tree.Owner.{Owner}
use Rattle.cm_tree.specs.HeadingLevels.{have_levels}
use Rattle.cm_tree.specs.declared.tree.Owner.TheVariants.{Leaf, Marker, Blank}
use Rattle.cm_text.specs.Rules.{Rules}
use Rattle.cm_text.specs.Lines.{LineView}
use Rattle.cm_text.specs.Indentation.{indent_of}
use Rattle.cm_scan.specs.blocks.Lines.{is_blank, content_of}
use Rattle.cm_scan.specs.blocks.LineForms.{Heading, Fence, ItemMarker}
use Rattle.cm_scan.specs.blocks.HtmlBlocks.{HtmlKind}
use Rattle.cm_scan.specs.blocks.Parts.{info_of, code, html, heading, thematic_break, none, blank, leaf, quote, put_item, put_leaves, leaves_paragraph_open}
use Rattle.cm_scan.specs.blocks.Starts.{Start, IndentedCode, QuoteMarker, AtxHeading, OpeningFence, HtmlStart, BreakLine, ItemStart, TextLine, start_of, Continuation, Stays, StaysIfOpen, Leaves, after_quote_marker, continuation_in_quote, content_column, first_content, continuation_in_item}
use Rattle.cm_scan.specs.blocks.Blocks.{text_run, leaves_of_run, fenced, html_lines, indented, code_line, inside, is_bare, parts_by_cases, parts_of, blocks_of, owners_of}

-- No lines have no parts.
abbrev pub NoLines : Type 0
NoLines = (rules : Rules) → parts_of rules [] ≡ none

-- The parts of lines are given by the cases on the first one, in which the parts of fewer lines occur.
abbrev pub FixedPoint : Type 0
FixedPoint = (rules : Rules) (line : LineView) (lines : List LineView) → parts_of rules (line ∷ lines) ≡ parts_by_cases rules (parts_of rules) (line ∷ lines)

-- A blank line is a part by itself (4.9 Blank lines).
abbrev pub BlankCase : Type 0
BlankCase = (rules : Rules) (line : LineView) (lines : List LineView) → is_blank line ≡ true → parts_of rules (line ∷ lines) ≡ blank (parts_of rules lines)

-- the line isn't blank, and starts this
abbrev pub Begins : Rules → LineView → Start → Type 0
Begins rules line start = (is_blank line ≡ false) × (start_of rules line ≡ start)

-- A thematic break is one line (4.1 Thematic breaks).
abbrev pub BreakCase : Type 0
BreakCase = (rules : Rules) (line : LineView) (lines : List LineView) → Begins rules line BreakLine
    → parts_of rules (line ∷ lines) ≡ leaf thematic_break 1 (parts_of rules lines)

-- An ATX heading is one line (4.2 ATX headings).
abbrev pub HeadingCase : Type 0
HeadingCase = (rules : Rules) (h : Heading) (line : LineView) (lines : List LineView) → Begins rules line (AtxHeading h)
    → parts_of rules (line ∷ lines) ≡ leaf (heading h.level h.content) 1 (parts_of rules lines)

-- An opening code fence starts a code block up to its closing fence (4.5 Fenced code blocks).
abbrev pub FenceCase : Type 0
FenceCase = (rules : Rules) (fence : Fence) (line : LineView) (lines : List LineView) → Begins rules line (OpeningFence fence)
    → let t = fenced fence (indent_of line) [] 1 lines in parts_of rules (line ∷ lines) ≡ leaf (code (info_of rules fence.info) t.text) t.lines (parts_of rules t.following)

-- A line that meets a start condition starts an HTML block up to its end (4.6 HTML blocks).
abbrev pub HtmlCase : Type 0
HtmlCase = (rules : Rules) (kind : HtmlKind) (line : LineView) (lines : List LineView) → Begins rules line (HtmlStart kind)
    → let t = html_lines kind (line ∷ lines) in parts_of rules (line ∷ lines) ≡ leaf (html t.text) t.lines (parts_of rules t.following)

-- Indented lines are a code block (4.4 Indented code blocks).
abbrev pub CodeCase : Type 0
CodeCase = (rules : Rules) (line : LineView) (lines : List LineView) → Begins rules line IndentedCode
    → let t = indented (code_line line) 1 [] lines in parts_of rules (line ∷ lines) ≡ leaf (code [] t.text) t.lines (parts_of rules t.following)

-- Text starts a run, whose leaves are definitions and then a paragraph or a heading (4.7 Link reference definitions, 4.8 Paragraphs,
-- 4.3 Setext headings).
abbrev pub TextCase : Type 0
TextCase = (rules : Rules) (line : LineView) (lines : List LineView) → Begins rules line TextLine
    → let run = text_run rules (content_of line) lines in parts_of rules (line ∷ lines) ≡ put_leaves (leaves_of_run run) (parts_of rules run.following)

-- what is left of a line in a container, if it is inside; the mark says whether the lines so far leave a paragraph open
abbrev pub goes_inward : Continuation → Bool → Option LineView
goes_inward (Stays inner) left_open = Some inner
goes_inward (StaysIfOpen inner) true = Some inner
goes_inward (StaysIfOpen inner) false = None
goes_inward Leaves left_open = None

-- what is left of the line in the container with these lines so far, if it is inside
abbrev pub next_inward : Rules → (Bool → LineView → Continuation) → List LineView → LineView → Option LineView
next_inward rules continuation so_far line = goes_inward (continuation (is_bare so_far) line) (leaves_paragraph_open (parts_of rules so_far))

-- The lines are all in the container, one after another, after those so far; together they are the inner ones.
pub data AllStay (rules : Rules) (continuation : Bool → LineView → Continuation) : List LineView → List LineView → List LineView → Type 0 where
  no_more : {so_far : List LineView} → AllStay rules continuation so_far [] so_far
  one_stays : {so_far lines inner : List LineView} {line i : LineView} → next_inward rules continuation so_far line ≡ Some i
      → AllStay rules continuation (so_far ++ i ∷ []) lines inner → AllStay rules continuation so_far (line ∷ lines) inner

-- the first of the lines, if there is one, isn't in the container
abbrev pub FirstLeaves : Rules → (Bool → LineView → Continuation) → List LineView → List LineView → Type 0
FirstLeaves rules continuation inner [] = ⊤
FirstLeaves rules continuation inner (line ∷ lines) = next_inward rules continuation inner line ≡ None

-- One more line that is inside can be added to them.
abbrev pub OneMoreStays : Type 0
OneMoreStays = (rules : Rules) (continuation : Bool → LineView → Continuation) (so_far lines inner : List LineView) (line i : LineView)
    → AllStay rules continuation so_far lines inner → next_inward rules continuation inner line ≡ Some i
    → AllStay rules continuation so_far (lines ++ line ∷ []) (inner ++ i ∷ [])

-- A block quote has the lines that stay in it; the others follow it (5.1 Block quotes).
abbrev pub QuoteCase : Type 0
QuoteCase = (rules : Rules) (line : LineView) (lines inner rest : List LineView) → Begins rules line QuoteMarker
    → AllStay rules (λ bare l. continuation_in_quote rules l) (after_quote_marker line ∷ []) lines inner
    → FirstLeaves rules (λ bare l. continuation_in_quote rules l) inner rest
    → parts_of rules (line ∷ lines ++ rest) ≡ quote (parts_of rules inner) (parts_of rules rest)

-- A list item has the lines that stay in it; the others follow it (5.2 List items).
abbrev pub ItemCase : Type 0
ItemCase = (rules : Rules) (marker : ItemMarker) (line : LineView) (lines inner rest : List LineView) → Begins rules line (ItemStart marker)
    → AllStay rules (continuation_in_item rules (content_column marker line)) (first_content marker line ∷ []) lines inner
    → FirstLeaves rules (continuation_in_item rules (content_column marker line)) inner rest
    → parts_of rules (line ∷ lines ++ rest) ≡ put_item marker.kind (parts_of rules inner) (parts_of rules rest)

-- Owners of lines

-- each line is without line endings
abbrev pub AreLines : List LineView → Type 0
AreLines lines = list_all (λ line. is_line line.text) lines ≡ true

-- Each line has one owner.
abbrev pub OneOwnerALine : Type 0
OneOwnerALine = (rules : Rules) (lines : List LineView) → AreLines lines → length (owners_of rules lines) ≡ length lines

-- how many leaves have been named, and whether the last line belongs to the last one
pub record LeavesNamed : Type 0 where
  pub in_leaf : Bool
  pub count : ℕ

-- One more line: it starts the next leaf, continues the last one, or belongs to none; anything else is out of order.
abbrev pub name_line : LeavesNamed → Owner → Option LeavesNamed
name_line so_far (Leaf number) =
    if number == suc so_far.count then Some (record { in_leaf = true; count = suc so_far.count })
    else (if so_far.in_leaf && number == so_far.count then Some so_far else None)
name_line so_far Marker = Some (record { in_leaf = false; count = so_far.count })
name_line so_far Blank = Some (record { in_leaf = false; count = so_far.count })

abbrev pub name_next : Option LeavesNamed → Owner → Option LeavesNamed
name_next None owner = None
name_next (Some so_far) owner = name_line so_far owner

abbrev pub name_lines : Option LeavesNamed → List Owner → Option LeavesNamed
name_lines so_far [] = so_far
name_lines so_far (owner ∷ owners) = name_lines (name_next so_far owner) owners

-- How many leaves the lines have, if the lines of each leaf are one unbroken run, and the runs are in the order of the leaves'
-- numbers.
abbrev pub leaves_named : List Owner → Option ℕ
leaves_named owners = option_map (λ (named : LeavesNamed). named.count) (name_lines (Some (record { in_leaf = false; count = 0 })) owners)

abbrev pub total : List ℕ → ℕ
total [] = 0
total (n ∷ ns) = n + total ns

abbrev pub total_of_all : List (List ℕ) → ℕ
total_of_all [] = 0
total_of_all (ns ∷ nss) = total ns + total_of_all nss

-- one block, given the number of leaves of each block inside
abbrev pub leaves_step : Block-F ℕ → ℕ
leaves_step (block.Quote inside) = total inside
leaves_step (block.List kind tight items) = total_of_all items
leaves_step _ = 1

-- how many leaf blocks are in the blocks, at any depth
abbrev pub leaves_in : List Block → ℕ
leaves_in blocks = total (map (fold-Block ℕ leaves_step) blocks)

-- The leaves of the tree are those that the lines name: each leaf has one nonempty run of lines, and the runs are in order. Every
-- other line belongs to a marker or is blank.
abbrev pub RunsInOrder : Type 0
RunsInOrder = (rules : Rules) (lines : List LineView) → AreLines lines → leaves_named (owners_of rules lines) ≡ Some (leaves_in (blocks_of rules lines))

-- Each heading has a level from 1 to 6.
abbrev pub HeadingLevels : Type 0
HeadingLevels = (rules : Rules) (lines : List LineView) → have_levels (blocks_of rules lines) ≡ true
