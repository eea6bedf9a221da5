-- Laws of single blocks, whatever lines follow.
use Rattle.std.specs.Prelude.{◌≡◌, ⊤, ℕ, zero, suc, ◌+◌, Bool, true, false, not, List, [], ◌∷◌, ◌++◌, length, Some, None}
use Rattle.std.specs.List.{list_all, flat_map}
use Rattle.cm_text.specs.Rules.{Rules}
use Rattle.cm_text.specs.Lines.{LineView}
use Rattle.cm_text.specs.Indentation.{indent_of, strip_columns}
use Rattle.cm_tree.specs.declared.tree.ListKind.{ListKind}
use Rattle.cm_scan.specs.Words.{is_space_or_tab}
use Rattle.cm_scan.specs.blocks.Lines.{is_blank, content_of, with_ending}
use Rattle.cm_scan.specs.blocks.LineForms.{underline, Fence, ItemMarker, marker_width, is_same_kind}
use Rattle.cm_scan.specs.blocks.HtmlBlocks.{HtmlKind, is_html_end, ends_at_blank_line}
use Rattle.cm_scan.specs.blocks.Starts.{start_of_content, start_of, underline_of, Continuation, Stays, StaysIfOpen, Leaves, after_quote_marker, continuation_in_quote, content_column, first_content, continuation_in_item}
use Rattle.cm_scan.specs.blocks.Parts.{Parts, blank, list, ItemParts, last_item, item, next_items, put_item}
use Rattle.cm_scan.specs.blocks.Blocks.{add_text, GoesOn, Ends, Underlines, next_line, text_run, taken, closes_fence, fenced, html_lines}

-- Lines at the margin

-- a text that starts with neither a space nor a tab, and isn't empty
abbrev pub is_unindented : List ℕ → Bool
is_unindented [] = false
is_unindented (b ∷ bs) = not (is_space_or_tab b)

-- what a line starts, and whether it is an underline, is given by its whole text
pub record ReadsAtMargin (rules : Rules) (line : LineView) : Type 0 where
  pub not_blank : is_blank line ≡ false
  pub no_columns : indent_of line ≡ 0
  pub content : content_of line ≡ line.text
  pub start : start_of rules line ≡ start_of_content rules line.text
  pub level : underline_of line ≡ underline line.text

-- A line that isn't indented and isn't lazy is read by its whole text.
abbrev pub UnindentedLine : Type 0
UnindentedLine = (rules : Rules) (line : LineView) → line.lazy ≡ false → is_unindented line.text ≡ true → ReadsAtMargin rules line

-- Markers followed by a space

-- a line after the given number of columns, with this text left
abbrev pub after_columns : ℕ → List ℕ → LineView → LineView
after_columns n text line = record { column = line.column + n; text = text; lazy = line.lazy }

-- After `>` and a space the rest of the line is inside the block quote.
abbrev pub QuoteAndSpace : Type 0
QuoteAndSpace = (line : LineView) (text : List ℕ) → line.text ≡ 62 ∷ 32 ∷ text → after_quote_marker line ≡ after_columns 2 text line

-- After `>` alone an empty line is inside the block quote.
abbrev pub QuoteAlone : Type 0
QuoteAlone = (line : LineView) → line.text ≡ 62 ∷ [] → after_quote_marker line ≡ after_columns 1 [] line

-- the content of an item starts one column after the marker, and this is its first line
abbrev pub ContentAt : ItemMarker → LineView → LineView → Type 0
ContentAt marker line first = (content_column marker line ≡ suc (marker_width marker)) × (first_content marker line ≡ first)

-- After a list marker and a space the rest of the line is the item's content.
abbrev pub ItemAndSpace : Type 0
ItemAndSpace = (marker : ItemMarker) (line : LineView) (mark text : List ℕ) → line.text ≡ mark ++ 32 ∷ text → length mark ≡ marker_width marker
    → is_unindented mark ≡ true → is_unindented text ≡ true → ContentAt marker line (after_columns (suc (marker_width marker)) text line)

-- After a list marker alone an empty line is the item's content.
abbrev pub ItemAlone : Type 0
ItemAlone = (marker : ItemMarker) (line : LineView) → length line.text ≡ marker_width marker → is_unindented line.text ≡ true
    → ContentAt marker line (after_columns (marker_width marker) [] line)

-- Runs of text

-- the lines all continue a run of text, one after another, and make its source the longer one
pub data AllGoOn (rules : Rules) : List ℕ → List LineView → List ℕ → Type 0 where
  no_more : {source : List ℕ} → AllGoOn rules source [] source
  one_goes_on : {source longer : List ℕ} {line : LineView} {lines : List LineView} → next_line rules source line ≡ GoesOn
      → AllGoOn rules (add_text source line) lines longer → AllGoOn rules source (line ∷ lines) longer

-- the first of the lines, if there is one, ends the run
abbrev pub FirstEnds : Rules → List ℕ → List LineView → Type 0
FirstEnds rules source [] = ⊤
FirstEnds rules source (line ∷ lines) = next_line rules source line ≡ Ends

-- A run of text has the lines that continue it, up to the one that ends it.
abbrev pub RunUpToItsEnd : Type 0
RunUpToItsEnd = (rules : Rules) (source longer : List ℕ) (lines rest : List LineView) → AllGoOn rules source lines longer → FirstEnds rules longer rest
    → text_run rules source (lines ++ rest) ≡ record { source = longer; level = None; following = rest }

-- A run of text has the lines that continue it, up to its underline.
abbrev pub RunUpToItsUnderline : Type 0
RunUpToItsUnderline = (rules : Rules) (source longer : List ℕ) (lines rest : List LineView) (line : LineView) (level : ℕ) → AllGoOn rules source lines longer
    → next_line rules longer line ≡ Underlines level
    → text_run rules source (lines ++ line ∷ rest) ≡ record { source = longer; level = Some level; following = rest }

-- Fenced code and HTML

-- no line closes the fence
abbrev pub none_closes : Fence → List LineView → Bool
none_closes fence lines = list_all (λ line. not (closes_fence fence line)) lines

-- the text of lines without the given number of columns of each
abbrev pub text_without : ℕ → List LineView → List ℕ
text_without columns lines = flat_map (λ line. with_ending (strip_columns columns line)) lines

-- Fenced code has the lines up to its closing fence.
abbrev pub FencedUpToItsEnd : Type 0
FencedUpToItsEnd = (fence : Fence) (columns n : ℕ) (text : List ℕ) (lines rest : List LineView) (line : LineView) → none_closes fence lines ≡ true
    → closes_fence fence line ≡ true
    → fenced fence columns text n (lines ++ line ∷ rest) ≡ taken (text ++ text_without columns lines) (suc (n + length lines)) rest

-- Fenced code without a closing fence has all lines.
abbrev pub FencedToTheLast : Type 0
FencedToTheLast = (fence : Fence) (columns n : ℕ) (text : List ℕ) (lines : List LineView) → none_closes fence lines ≡ true
    → fenced fence columns text n lines ≡ taken (text ++ text_without columns lines) (n + length lines) []

-- no line meets the end condition
abbrev pub none_ends : HtmlKind → List LineView → Bool
none_ends kind lines = list_all (λ line. not (is_html_end kind line.text)) lines

-- An HTML block of the first five kinds has the lines up to the one that meets its end condition.
abbrev pub HtmlUpToItsEnd : Type 0
HtmlUpToItsEnd = (kind : HtmlKind) (lines rest : List LineView) (line : LineView) → ends_at_blank_line kind ≡ false → none_ends kind lines ≡ true
    → is_html_end kind line.text ≡ true
    → html_lines kind (lines ++ line ∷ rest) ≡ taken (flat_map with_ending lines ++ with_ending line) (suc (length lines)) rest

-- the first of the lines, if there is one, is blank
abbrev pub first_is_blank : List LineView → Bool
first_is_blank [] = true
first_is_blank (line ∷ lines) = is_blank line

-- An HTML block of the last two kinds has the lines up to a blank line.
abbrev pub HtmlUpToABlankLine : Type 0
HtmlUpToABlankLine = (kind : HtmlKind) (lines rest : List LineView) → ends_at_blank_line kind ≡ true → list_all (λ line. not (is_blank line)) lines ≡ true
    → first_is_blank rest ≡ true → html_lines kind (lines ++ rest) ≡ taken (flat_map with_ending lines) (length lines) rest

-- Items

-- Two items with the same marker are of one kind.
abbrev pub KindOfItself : Type 0
KindOfItself = (kind : ListKind) → is_same_kind kind kind ≡ true

-- the given number of blank lines before what follows
abbrev pub blank_lines : ℕ → Parts → Parts
blank_lines zero rest = rest
blank_lines (suc n) rest = blank (blank_lines n rest)

-- An item before a list of its kind, with blank lines or none between them, is the first of that list.
abbrev pub ItemBeforeItsList : Type 0
ItemBeforeItsList = (kind other : ListKind) (n : ℕ) (inside rest : Parts) (items : ItemParts) → is_same_kind kind other ≡ true
    → put_item kind inside (blank_lines n (list other items rest)) ≡ list kind (item inside n items) rest

-- An item before anything else is a list by itself.
abbrev pub ItemByItself : Type 0
ItemByItself = (kind : ListKind) (inside rest : Parts) → next_items kind 0 rest ≡ None → put_item kind inside rest ≡ list kind (last_item inside) rest

-- What is left of lines in containers

-- What is left of the line is an end of it, indentation aside. So the place of what is left is given by its length.
abbrev pub EndsLine : (left line : LineView) → Type 0
EndsLine left line = (front : List ℕ) × (content_of line ≡ front ++ content_of left)

-- The same where the line stays in a container.
abbrev pub EndsIfInside : Continuation → LineView → Type 0
EndsIfInside (Stays left) line = EndsLine left line
EndsIfInside (StaysIfOpen left) line = EndsLine left line
EndsIfInside Leaves line = ⊤

-- The content of a line ends its text.
abbrev pub ContentEndsText : Type 0
ContentEndsText = (line : LineView) → (front : List ℕ) × (line.text ≡ front ++ content_of line)

-- What is left after the marker of a block quote ends the line, and so does what stays in an open one.
abbrev pub QuotedEndsLine : Type 0
QuotedEndsLine = (line : LineView) → EndsLine (after_quote_marker line) line

abbrev pub StayingInQuoteEndsLine : Type 0
StayingInQuoteEndsLine = (rules : Rules) (line : LineView) → EndsIfInside (continuation_in_quote rules line) line

-- The content of an item on the line of its marker ends the line, and so does what stays in an open item.
abbrev pub ListedEndsLine : Type 0
ListedEndsLine = (marker : ItemMarker) (line : LineView) → EndsLine (first_content marker line) line

abbrev pub StayingInItemEndsLine : Type 0
StayingInItemEndsLine = (rules : Rules) (column : ℕ) (bare : Bool) (line : LineView)
    → EndsIfInside (continuation_in_item rules column bare line) line
