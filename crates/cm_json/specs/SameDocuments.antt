-- Documents are told apart by their JSON.
use Rattle.std.specs.Prelude.{◌≡◌, ◌<◌, ◌^◌, nat_lt, Bool, true, ◌&&◌, List, length, map, Some}
use Rattle.std.specs.List.{list_all}
use Rattle.cm_tree.specs.HeadingLevels.{all_of}
use Rattle.cm_tree.specs.declared.tree.Block.{Block, Block-F}
use Rattle.cm_tree.specs.declared.tree.Block.TheOpen as block
use Rattle.cm_tree.specs.declared.tree.Block.TheFolds.{fold-Block}
use Rattle.cm_tree.specs.declared.tree.ListKind.{ListKind}
use Rattle.cm_tree.specs.declared.tree.ListKind.TheVariants.{Dot, Paren}
use Rattle.cm_tree.specs.declared.tree.Owner.{Owner}
use Rattle.cm_scan.specs.laws.PartLaws.{leaves_named, leaves_in}
use Rattle.cm_json.specs.Mdast.{json_of}

-- the number of the first item, if there is one, has 32 bits
abbrev pub is_start_in_range : ListKind → Bool
is_start_in_range (Dot start) = nat_lt start (2 ^ 32)
is_start_in_range (Paren start) = nat_lt start (2 ^ 32)
is_start_in_range _ = true

-- one block, with the answer for each block inside in its place
abbrev pub range_step : Block-F Bool → Bool
range_step (block.Heading level content) = nat_lt level (2 ^ 8)
range_step (block.Quote blocks) = all_of blocks
range_step (block.List kind tight items) = is_start_in_range kind && list_all all_of items
range_step _ = true

abbrev pub is_in_range : Block → Bool
is_in_range = fold-Block Bool range_step

-- levels and numbers of lists are in range, as the types of the tree have them, at any depth
abbrev pub are_in_range : List Block → Bool
are_in_range blocks = all_of (map is_in_range blocks)

-- What holds of every document that was read.
pub record IsInOrder (blocks : List Block) (owners : List Owner) : Type 0 where
  pub in_range : are_in_range blocks ≡ true
  pub lines : length owners < 2 ^ 63
  -- each leaf has one unbroken run of lines, and the runs are in the order of the leaves
  pub runs : leaves_named owners ≡ Some (leaves_in blocks)

-- two documents with the same JSON are the same
abbrev pub SameJsonSameDocument : Type 0
SameJsonSameDocument =
    (blocks other_blocks : List Block) (owners other_owners : List Owner) → IsInOrder blocks owners → IsInOrder other_blocks other_owners
    → json_of blocks owners ≡ json_of other_blocks other_owners → (blocks ≡ other_blocks) × (owners ≡ other_owners)
