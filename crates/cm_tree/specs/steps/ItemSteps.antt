-- What a walk over the items of a list comes to.
use Rattle.std.specs.Prelude.{ℕ, Bool, List, map}
use Rattle.std.specs.List.{list_any}
use Rattle.cm_tree.specs.declared.tree.Block.{Block}
use Rattle.cm_tree.specs.Depth.{greatest_item, depth_of_block}
use Rattle.cm_tree.specs.RawHtml.{block_has_raw, any_of}

-- how many quotes and items are nested in one another, each of these items counted
abbrev pub items_depth : List (List Block) → ℕ
items_depth items = greatest_item (map (map depth_of_block) items)

-- raw HTML or an HTML block is in the items, at any depth, except in an image
abbrev pub items_have_raw : List (List Block) → Bool
items_have_raw items = list_any any_of (map (map block_has_raw) items)
