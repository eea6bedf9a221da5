-- One pass over the lines: what is open, what one more line closes and opens, and what closing gives. No line is kept.
use Rattle.std.specs.Prelude.{ℕ, zero, suc, Bool, false, List, [], ◌∷◌, ◌++◌, replicate, Option, Some, None}
use Rattle.cm_text.specs.Rules.{Rules}
use Rattle.cm_text.specs.Lines.{LineView}
use Rattle.cm_tree.specs.declared.tree.ListKind.{ListKind}
use Rattle.cm_scan.specs.blocks.Lines.{is_blank, marks}
use Rattle.cm_scan.specs.blocks.Parts.{LeafPart, Parts, none, blank, leaf, quote, put_item}
use Rattle.cm_scan.specs.blocks.Starts.{continuation_in_quote, continuation_in_item}
use Rattle.cm_scan.specs.laws.PartLaws.{goes_inward}
use Rattle.cm_block.specs.OpenLeaf.{OpenLeaf, no_leaf, closed_leaves, blank_lines_after, is_open_text, LeafLine, stays_open, is_last, line_of_leaf, LineOpens, begins_nothing, begins_leaf, begins_quote, begins_item, begin_of}

-- A part that is closed at one level: a blank line, a leaf with its number of lines, a block quote, a list item.
pub data ClosedPart : Type 0 where
  closed_blank : ClosedPart
  closed_leaf : LeafPart → ℕ → ClosedPart
  closed_quote : Parts → ClosedPart
  closed_item : ListKind → Parts → ClosedPart

-- a closed part, followed by others
abbrev pub put : ClosedPart → Parts → Parts
put closed_blank rest = blank rest
put (closed_leaf x lines) rest = leaf x lines rest
put (closed_quote inside) rest = quote inside rest
put (closed_item kind inside) rest = put_item kind inside rest

-- closed parts, followed by others
unfoldable pub put_all : List ClosedPart → Parts → Parts
put_all [] rest = rest
put_all (closed_part ∷ closed_parts) rest = put closed_part (put_all closed_parts rest)

-- What is open at one level: a leaf, or a container with what is closed in it and what is open in it. An item also has the column
-- at which its content starts, and whether it is only a marker so far, with nothing on its line.
pub data Open (A : Type 0) : Type 0 where
  in_leaf : OpenLeaf → Open A
  in_quote : A → Open A → Open A
  in_item : ListKind → (column : ℕ) → (bare : Bool) → A → Open A → Open A

-- a run of text is open, so that a lazy continuation line can follow
unfoldable pub has_open_text : {A : Type 0} → Open A → Bool
has_open_text (in_leaf x) = is_open_text x
has_open_text (in_quote closed now) = has_open_text now
has_open_text (in_item kind column bare closed now) = has_open_text now

-- What a line does at one level: the parts that it closes, and what is then open.
pub record Change : Type 0 where
  pub closed : List ClosedPart
  pub now : Open (List ClosedPart)

abbrev pub change : List ClosedPart → Open (List ClosedPart) → Change
change closed now = record { closed = closed; now = now }

abbrev pub parts_of_leaves : List (LeafPart × ℕ) → List ClosedPart
parts_of_leaves [] = []
parts_of_leaves (x ∷ xs) = closed_leaf x.0 x.1 ∷ parts_of_leaves xs

-- what the open block gives when it is closed
unfoldable pub closing : Open (List ClosedPart) → List ClosedPart
closing (in_leaf x) = parts_of_leaves (closed_leaves x) ++ replicate (blank_lines_after x) closed_blank
closing (in_quote closed now) = closed_quote (put_all (closed ++ closing now) none) ∷ []
closing (in_item kind column bare closed now) = closed_item kind (put_all (closed ++ closing now) none) ∷ []

abbrev pub leaf_change : LeafLine → Change
leaf_change (stays_open x) = change [] (in_leaf x)
leaf_change (is_last leaves) = change (parts_of_leaves leaves) (in_leaf no_leaf)

-- what a line starts; `begin` gives it for a line after a marker
abbrev pub begin_by : (LineView → Change) → LineOpens → Change
begin_by begin begins_nothing = change (closed_blank ∷ []) (in_leaf no_leaf)
begin_by begin (begins_leaf x) = leaf_change x
begin_by begin (begins_quote inner) = let c = begin inner in change [] (in_quote c.closed c.now)
begin_by begin (begins_item kind column inner) = let c = begin inner in change [] (in_item kind column (is_blank inner) c.closed c.now)

-- the same with at most the given number of markers within one another; those of the line are enough
unfoldable pub begin_within : Rules → ℕ → LineView → Change
begin_within rules zero line = change [] (in_leaf no_leaf)
begin_within rules (suc n) line = begin_by (λ inner. begin_within rules n inner) (begin_of rules line)

unfoldable pub begin : Rules → LineView → Change
begin rules line = begin_within rules (suc (marks line.text)) line

-- the parts are closed, and the line starts something
abbrev pub after_closing : Rules → List ClosedPart → LineView → Change
after_closing rules closed_parts line = let c = begin rules line in change (closed_parts ++ c.closed) c.now

-- the same for an open leaf, given whether the line belongs to it
abbrev pub leaf_step : Rules → OpenLeaf → LineView → Option LeafLine → Change
leaf_step rules x line (Some l) = leaf_change l
leaf_step rules x line None = after_closing rules (closing (in_leaf x)) line

-- one more line
unfoldable pub step : Rules → Open (List ClosedPart) → LineView → Change
step rules (in_leaf x) line = leaf_step rules x line (line_of_leaf rules x line)
step rules (in_quote closed now) line = elim (goes_inward (continuation_in_quote rules line) (has_open_text now)) [
  | Some inner ↦ let c = step rules now inner in change [] (in_quote (closed ++ c.closed) c.now)
  | None ↦ after_closing rules (closing (in_quote closed now)) line
]
step rules (in_item kind column bare closed now) line = elim (goes_inward (continuation_in_item rules column bare line) (has_open_text now)) [
  | Some inner ↦ let c = step rules now inner in change [] (in_item kind column false (closed ++ c.closed) c.now)
  | None ↦ after_closing rules (closing (in_item kind column bare closed now)) line
]

-- the closed parts of the document, and what is open
abbrev pub Machine : Type 0
Machine = Change

abbrev pub new_machine : Machine
new_machine = change [] (in_leaf no_leaf)

unfoldable pub take_line : Rules → Machine → LineView → Machine
take_line rules m line = let c = step rules m.now line in change (m.closed ++ c.closed) c.now

unfoldable pub take_lines : Rules → Machine → List LineView → Machine
take_lines rules m [] = m
take_lines rules m (line ∷ lines) = take_lines rules (take_line rules m line) lines

unfoldable pub close : Machine → Parts
close m = put_all (m.closed ++ closing m.now) none

-- the parts of lines, made by one pass over them
unfoldable pub parts_in_one_pass : Rules → List LineView → Parts
parts_in_one_pass rules lines = close (take_lines rules new_machine lines)
