-- Items while their leaves are read.
use Rattle.std.specs.Prelude.{ℕ, List, map}
use Rattle.std.specs.List.{concat, flat_map}
use Rattle.cm_text.specs.Rules.{Rules}
use Rattle.cm_tree.specs.declared.tree.Block.{Block}
use Rattle.cm_scan.specs.inlines.Brackets.{Defined}
use Rattle.cm_scan.specs.Documents.{with_inlines}
use Rattle.cm_tool.specs.Leaves.{depths_in}

-- items with the inlines of their leaves
abbrev pub items_read : Rules → Defined → List (List Block) → List (List Block)
items_read rules defined items = map (with_inlines rules defined) items

-- how deep the inlines of each of their leaves nest
abbrev pub items_leaf_depths : List (List Block) → List ℕ
items_leaf_depths items = flat_map concat (map (map depths_in) items)
