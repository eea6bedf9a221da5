-- The levels of a tree's headings (CommonMark 0.31.2, 4.2 ATX headings, 4.3 Setext headings).
use Rattle.std.specs.Prelude.{ℕ, nat_le, Bool, true, ◌&&◌, List, map}
use Rattle.std.specs.List.{list_all}
use Rattle.cm_tree.specs.declared.tree.Block.{Block, Block-F}
use Rattle.cm_tree.specs.declared.tree.Block.TheOpen as block
use Rattle.cm_tree.specs.declared.tree.Block.TheFolds.{fold-Block}

-- a number from 1 to 6
abbrev pub is_level : ℕ → Bool
is_level level = nat_le 1 level && nat_le level 6

-- each value is true
abbrev pub all_of : List Bool → Bool
all_of answers = list_all (λ answer. answer) answers

-- one block, given the value for each block inside
abbrev pub level_step : Block-F Bool → Bool
level_step (block.Heading level content) = is_level level
level_step (block.Quote blocks) = all_of blocks
level_step (block.List kind tight items) = list_all all_of items
level_step _ = true

abbrev pub has_levels : Block → Bool
has_levels = fold-Block Bool level_step

-- each heading in the blocks, at any depth, has a level from 1 to 6
abbrev pub have_levels : List Block → Bool
have_levels blocks = all_of (map has_levels blocks)
