-- How deep the finished items of a leaf nest.
use Rattle.std.specs.Prelude.{ℕ, List, map}
use Rattle.cm_tree.specs.Depth.{depth_of, greatest}
use Rattle.cm_scan.specs.inlines.Pairing.{Item, Finished, Linked}

abbrev pub item_depth : Item → ℕ
item_depth (Finished inline) = depth_of inline
item_depth (Linked inline) = depth_of inline
item_depth _ = 0

abbrev pub items_depth : List Item → ℕ
items_depth items = greatest (map item_depth items)
