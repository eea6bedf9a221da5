-- The open leaf as the code holds it, which counts the lines of a leaf by the line feeds in its text. A
-- reader of the contracts needn't believe this: a new parser has taken no lines, and the clauses of its calls
-- say how many more it has taken.
use Rattle.std.specs.Prelude.{ℕ, suc, List, [], ◌∷◌, ◌++◌, string_bytes}
use Rattle.cm_scan.specs.blocks.HtmlKinds.{kind_of}
use Rattle.cm_scan.specs.blocks.Blocks.{line_feeds}
use Rattle.cm_block.specs.declared.open_leaf.OpenLeaf.{OpenLeaf}
use Rattle.cm_block.specs.declared.leaf_kind.LeafKind.{LeafKind}
use Rattle.cm_block.specs.declared.leaf_kind.LeafKind.TheVariants.{Nothing, Run, Code, Fence, Html}
use Rattle.cm_block.specs.OpenLeaf as spec
use Rattle.cm_block.specs.OpenLeaf.{no_leaf, open_text, open_code, open_fence, open_html, run_leaves, stays_open, is_last}

-- lines in the text of a block, separated by line feeds
abbrev pub ended : List ℕ → List ℕ
ended text = text ++ 10 ∷ []

-- indented code with these lines, and with these blank lines after it
abbrev pub code_of : List ℕ → List ℕ → spec.OpenLeaf
code_of text blank_lines = open_code (ended text) (suc (line_feeds text)) blank_lines (line_feeds blank_lines)

-- the leaf of this kind with this text, these blank lines after it, and this info string
abbrev pub leaf_with : LeafKind → (text blank_lines info : List ℕ) → spec.OpenLeaf
leaf_with Nothing text blank_lines info = no_leaf
leaf_with Run text blank_lines info = open_text text
leaf_with Code text blank_lines info = code_of text blank_lines
leaf_with (Fence kind columns) text blank_lines info =
    open_fence (record { marker = kind.marker; count = kind.count; info = info }) columns text (suc (line_feeds text))
leaf_with (Html kind) text blank_lines info = open_html (kind_of kind) (ended text) (suc (line_feeds text))

-- the open leaf that a value of the program represents
abbrev pub leaf_of : OpenLeaf → spec.OpenLeaf
leaf_of leaf = leaf_with leaf.kind leaf.text leaf.blank_lines (string_bytes leaf.info)
