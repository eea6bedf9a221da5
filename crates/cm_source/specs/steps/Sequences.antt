-- The blocks of a tree as a sequence, in which each block is followed by the rest. It is a step of the proof that blocks
-- read back: nobody has to believe it.
use Rattle.std.specs.Prelude.{ℕ, Bool, true, false, not, ◌&&◌, ◌||◌, List, [], ◌∷◌, ◌++◌, map}
use Rattle.cm_tree.specs.declared.tree.Block.{Block, Block-F}
use Rattle.cm_tree.specs.declared.tree.Block.TheOpen as block
use Rattle.cm_tree.specs.declared.tree.Block.TheVariants.{Quote, List as ListBlock}
use Rattle.cm_tree.specs.declared.tree.Block.TheFolds.{fold-Block}
use Rattle.cm_tree.specs.declared.tree.ListKind.{ListKind}
use Rattle.cm_scan.specs.blocks.LineForms.{is_same_kind}
use Rattle.cm_scan.specs.blocks.Parts.{LeafPart, paragraph, heading, code, html, thematic_break, definition, leaf_block}
use Rattle.cm_scan.specs.blocks.Starts.{starts_at_one}
use Rattle.cm_source.specs.Inlines.{spelled_content}
use Rattle.cm_source.specs.Spelling.{break_line, parted_lines, ended_lines, heading_lines, code_lines, gap, quote_lines, marker, item_lines}

-- a leaf block, and the lines that are spelled for it
pub record SpelledLeaf : Type 0 where
  pub part : LeafPart
  pub lines : List (List ℕ)

-- blocks, each followed by the rest; and items, of which a list has at least one
mutual
  pub data Sequence : Type 0 where
    no_blocks : Sequence
    leaf_then : SpelledLeaf → Sequence → Sequence
    quote_then : Sequence → Sequence → Sequence
    list_then : ListKind → (tight : Bool) → SequenceItems → Sequence → Sequence

  pub data SequenceItems : Type 0 where
    last_one : Sequence → SequenceItems
    one_and : Sequence → SequenceItems → SequenceItems

abbrev pub is_none : Sequence → Bool
is_none no_blocks = true
is_none _ = false

-- the blocks, with the source of each content in its place
unfoldable mutual
  pub tree : Sequence → List Block
  tree no_blocks = []
  tree (leaf_then x rest) = leaf_block x.part ∷ tree rest
  tree (quote_then inside rest) = Quote (tree inside) ∷ tree rest
  tree (list_then kind tight items rest) = ListBlock kind tight (items_tree items) ∷ tree rest

  pub items_tree : SequenceItems → List (List Block)
  items_tree (last_one inside) = tree inside ∷ []
  items_tree (one_and inside items) = tree inside ∷ items_tree items

-- whether an empty line follows a block: the blocks are apart, and others follow it; or the last one has one after it
abbrev pub gap_before : (apart beyond_last : Bool) → Sequence → Bool
gap_before apart beyond_last no_blocks = beyond_last
gap_before apart beyond_last _ = apart

-- the lines that are spelled for blocks, with an empty line after the last or not; and for items
unfoldable mutual
  pub block_lines : (apart beyond_last : Bool) → Sequence → List (List ℕ)
  block_lines apart beyond_last no_blocks = []
  block_lines apart beyond_last (leaf_then x rest) = x.lines ++ gap (gap_before apart beyond_last rest) ++ block_lines apart beyond_last rest
  block_lines apart beyond_last (quote_then inside rest) =
      quote_lines (block_lines true false inside) ++ gap (gap_before apart beyond_last rest) ++ block_lines apart beyond_last rest
  block_lines apart beyond_last (list_then kind tight items rest) =
      lines_of_items kind tight items ++ gap (gap_before apart beyond_last rest) ++ block_lines apart beyond_last rest

  pub lines_of_items : ListKind → (tight : Bool) → SequenceItems → List (List ℕ)
  lines_of_items kind tight (last_one inside) = item_lines (marker kind) (block_lines (not tight) false inside)
  lines_of_items kind tight (one_and inside items) =
      item_lines (marker kind) (block_lines (not tight) false inside) ++ gap (not tight) ++ lines_of_items kind tight items

-- What blocks are to those before them

abbrev pub is_paragraph : LeafPart → Bool
is_paragraph (paragraph source) = true
is_paragraph _ = false

abbrev pub is_code : LeafPart → Bool
is_code (code info text) = true
is_code _ = false

abbrev pub first_inside : SequenceItems → Sequence
first_inside (last_one inside) = inside
first_inside (one_and inside items) = inside

-- one block that can interrupt a paragraph: code, a quote, or a list whose first item has a block
abbrev pub interrupts_alone : Sequence → Bool
interrupts_alone no_blocks = false
interrupts_alone (leaf_then x rest) = is_none rest && is_code x.part
interrupts_alone (quote_then inside rest) = is_none rest
interrupts_alone (list_then kind tight items rest) = is_none rest && starts_at_one kind && not (is_none (first_inside items))

-- an item of a tight list has no block; one; or a paragraph and one such block
abbrev pub fits_tight : Sequence → Bool
fits_tight no_blocks = true
fits_tight (leaf_then x rest) = is_none rest || is_paragraph x.part && interrupts_alone rest
fits_tight (quote_then inside rest) = is_none rest
fits_tight (list_then kind tight items rest) = is_none rest

-- a loose list has a second item, or a second block in its item
abbrev pub has_two_blocks : Sequence → Bool
has_two_blocks no_blocks = false
has_two_blocks (leaf_then x rest) = not (is_none rest)
has_two_blocks (quote_then inside rest) = not (is_none rest)
has_two_blocks (list_then kind tight items rest) = not (is_none rest)

abbrev pub can_be_loose : SequenceItems → Bool
can_be_loose (last_one inside) = has_two_blocks inside
can_be_loose (one_and inside items) = true

abbrev pub begins_with_list : Sequence → Bool
begins_with_list (list_then kind tight items rest) = true
begins_with_list _ = false

-- a list with items of this kind comes first
abbrev pub begins_with_kind : ListKind → Sequence → Bool
begins_with_kind kind (list_then other tight items rest) = is_same_kind kind other
begins_with_kind kind _ = false

-- The sequence of a tree

-- blocks, each followed by the rest
abbrev pub chain : List (Sequence → Sequence) → Sequence
chain [] = no_blocks
chain (block ∷ blocks) = block (chain blocks)

abbrev pub chain_items : List (List (Sequence → Sequence)) → SequenceItems
chain_items [] = last_one no_blocks
chain_items (item ∷ []) = last_one (chain item)
chain_items (item ∷ next ∷ items) = one_and (chain item) (chain_items (next ∷ items))

-- one block, followed by the rest, with each block inside followed by its rest
abbrev pub sequence_step : Block-F (Sequence → Sequence) → Sequence → Sequence
sequence_step (block.Paragraph content) rest = leaf_then (record { part = paragraph (spelled_content content); lines = parted_lines (spelled_content content) }) rest
sequence_step (block.Heading level content) rest = leaf_then (record { part = heading level (spelled_content content); lines = heading_lines level content }) rest
sequence_step (block.Code info text) rest = leaf_then (record { part = code info text; lines = code_lines info text }) rest
sequence_step (block.Html text) rest = leaf_then (record { part = html text; lines = ended_lines text }) rest
sequence_step block.Break rest = leaf_then (record { part = thematic_break; lines = break_line ∷ [] }) rest
sequence_step (block.Definition label dest title) rest = leaf_then (record { part = definition label dest title; lines = [] }) rest
sequence_step (block.Quote blocks) rest = quote_then (chain blocks) rest
sequence_step (block.List kind tight items) rest = list_then kind tight (chain_items items) rest

abbrev pub in_front_of : Block → Sequence → Sequence
in_front_of = fold-Block (Sequence → Sequence) sequence_step

abbrev pub sequence_of : List Block → Sequence
sequence_of blocks = chain (map in_front_of blocks)
