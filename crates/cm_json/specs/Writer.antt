-- What a writer of blocks has written.
use Rattle.std.specs.Prelude.{ℕ, ◌≤◌, List, ◌++◌, map, codes, length}
use Rattle.cm_tree.specs.declared.tree.Block.{Block}
use Rattle.cm_tree.specs.declared.tree.Owner.{Owner}
use Rattle.cm_json.specs.declared.writer.JsonWriter.{JsonWriter}
use Rattle.cm_json.specs.Mdast.{placed, all_placed}
use Rattle.cm_json.specs.Printing.{items_text}

-- the whole text, if these are the blocks that are left of a document with these owners
abbrev pub whole_with : JsonWriter → List Owner → List Block → List ℕ
whole_with writer owners blocks =
    writer.json ++ (items_text writer.has_blocks (all_placed (map (placed owners) blocks) writer.passed).0 ++ codes "}")

-- no more lines are passed than there are
abbrev pub IsWithin : JsonWriter → List Owner → Type 0
IsWithin writer owners = writer.passed ≤ length owners
