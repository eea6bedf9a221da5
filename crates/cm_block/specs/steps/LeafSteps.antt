-- Steps of the code over the open leaf and the closed ones.
use Rattle.std.specs.Prelude.{◌≡◌, ⊤, ℕ, suc, replicate, Bool, true, false, List, [], ◌∷◌, ◌++◌, not, Option, Some, None, string_bytes}
use Rattle.cm_text.specs.Lines.{LineView}
use Rattle.cm_text.specs.Labels.{fold_label}
use Rattle.cm_tree.specs.Definitions.{Target, add_first}
use Rattle.cm_tree.specs.declared.tree.Owner.TheVariants as owner
use Rattle.cm_block.specs.Stack.{Owned}
use Rattle.cm_scan.specs.Words.{is_empty}
use Rattle.cm_scan.specs.blocks.Starts.{underline_of}
use Rattle.cm_scan.specs.blocks.Parts.{LeafPart, code, html}
use Rattle.cm_scan.specs.blocks.Blocks.{line_feeds, rest_of, NextLine, GoesOn, Ends, Underlines}
use Rattle.cm_block.specs.declared.leaf_kind.LeafKind.{LeafKind}
use Rattle.cm_block.specs.declared.leaf_kind.LeafKind.TheVariants.{Nothing, Run, Code, Fence, Html}
use Rattle.cm_block.specs.declared.open_leaf.OpenLeaf.{OpenLeaf}
use Rattle.cm_block.specs.declared.open_leaf.Ending.{Ending}
use Rattle.cm_block.specs.declared.open_leaf.Ending.TheVariants.{Plain, Underline, ClosingFence}
use Rattle.cm_block.specs.declared.open_leaf.LeafLine.{LeafLine}
use Rattle.cm_block.specs.declared.open_leaf.LeafLine.TheVariants.{Stays, Last, Leaves}
use Rattle.cm_block.specs.OpenLeaf as spec
use Rattle.cm_block.specs.OpenLeaf.{run_leaves, stays_open, is_last}
use Rattle.cm_block.specs.LeafViews.{ended, leaf_of}

-- what the next line of a run of text is to that
abbrev pub leaf_line : NextLine → LeafLine
leaf_line GoesOn = Stays
leaf_line Ends = Leaves
leaf_line (Underlines level) = Last (Underline level)

abbrev pub level_above : (something_left : Bool) → Option ℕ → Option ℕ
level_above true level = level
level_above false level = None

-- the level of the heading that a line makes of a run with this source
abbrev pub heading_level : List ℕ → LineView → Option ℕ
heading_level source line = level_above (not (is_empty (rest_of source))) (underline_of line)

-- the level of an underline
abbrev pub underline_level : Ending → Option ℕ
underline_level Plain = None
underline_level (Underline level) = Some level
underline_level ClosingFence = None

-- a fenced code block has its opening fence, its text's lines, and its closing fence if that ends it
abbrev pub fence_lines : Ending → List ℕ → ℕ
fence_lines Plain text = suc (line_feeds text)
fence_lines (Underline level) text = suc (line_feeds text)
fence_lines ClosingFence text = suc (suc (line_feeds text))

-- the leaves that an open one of this kind makes with this text and this info string
abbrev pub leaves_of_kind : Ending → LeafKind → (text info : List ℕ) → List (LeafPart × ℕ)
leaves_of_kind ending Nothing text info = []
leaves_of_kind ending Run text info = run_leaves (underline_level ending) text
leaves_of_kind ending Code text info = (code [] (ended text), suc (line_feeds text)) ∷ []
leaves_of_kind ending (Fence kind columns) text info = (code info text, fence_lines ending text) ∷ []
leaves_of_kind ending (Html kind) text info = (html (ended text), suc (line_feeds text)) ∷ []

-- the leaves that the open one makes where it ends like this
abbrev pub leaves_with : Ending → OpenLeaf → List (LeafPart × ℕ)
leaves_with ending leaf = leaves_of_kind ending leaf.kind leaf.text (string_bytes leaf.info)

-- what a line is to the open leaf, which this is then
abbrev pub taken_of : LeafLine → OpenLeaf → Option spec.LeafLine
taken_of Stays now = Some (stays_open (leaf_of now))
taken_of (Last ending) now = Some (is_last (leaves_with ending now))
taken_of Leaves now = None

-- a line that is none of the leaf leaves it as it is
abbrev pub Left : LeafLine → (before now : OpenLeaf) → Type 0
Left Leaves before now = leaf_of now ≡ leaf_of before
Left _ before now = ⊤

-- lines of one more leaf that is no definition
abbrev pub own_plain_leaf : Owned → ℕ → Owned
own_plain_leaf owned lines = record { owners = owned.owners ++ replicate lines (owner.Leaf (suc owned.leaves)); leaves = suc owned.leaves; table = owned.table }

-- lines of a definition under this label, with a destination and a title
abbrev pub own_definition : Owned → List ℕ → Target → ℕ → Owned
own_definition owned label target lines = record (own_plain_leaf owned lines) { table = add_first owned.table (fold_label label) target }
