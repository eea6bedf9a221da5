-- How deep the inlines of a document's leaves nest.
use Rattle.std.specs.Prelude.{ℕ, nat_lt, List, [], ◌∷◌, map, Option}
use Rattle.std.specs.List.{concat, flat_map, position_from}
use Rattle.cm_tree.specs.Depth.{inlines_depth}
use Rattle.cm_tree.specs.declared.tree.Block.{Block, Block-F}
use Rattle.cm_tree.specs.declared.tree.Block.TheOpen as block
use Rattle.cm_tree.specs.declared.tree.Block.TheFolds.{fold-Block}

-- how deep the inlines of each leaf of a block nest, given those of each block inside; 0 for a leaf without inlines
abbrev pub depths_step : Block-F (List ℕ) → List ℕ
depths_step (block.Paragraph content) = inlines_depth content ∷ []
depths_step (block.Heading level content) = inlines_depth content ∷ []
depths_step (block.Quote blocks) = concat blocks
depths_step (block.List kind tight items) = flat_map concat items
depths_step _ = 0 ∷ []

abbrev pub depths_in : Block → List ℕ
depths_in = fold-Block (List ℕ) depths_step

-- how deep the inlines of each leaf of the blocks nest, in the order of the document
abbrev pub leaf_depths : List Block → List ℕ
leaf_depths blocks = concat (map depths_in blocks)

-- the number of the first leaf whose inlines nest deeper than the limit, counted from this number
abbrev pub first_past : (limit first : ℕ) → (depths : List ℕ) → Option ℕ
first_past limit first depths = position_from (λ depth. nat_lt limit depth) first depths

-- the first leaf of the blocks, counted from 1, whose inlines nest deeper than the limit
abbrev pub first_leaf_past : (limit : ℕ) → List Block → Option ℕ
first_leaf_past limit blocks = first_past limit 1 (leaf_depths blocks)
