-- Chunks of a document, one after another.
use Rattle.std.proofs.Common.{◌≡◌, ◌∙◌, List, [], ◌∷◌, ◌++◌, sym, ap, append_assoc, append-nil}
use Rattle.cm_tree.specs.declared.tree.Block.{Block}
use Rattle.cm_tree.specs.RawTrees.{all_blocks}

-- one more chunk
pub all_blocks-push : (chunks : List (List Block)) (chunk : List Block) → all_blocks (chunks ++ chunk ∷ []) ≡ all_blocks chunks ++ chunk
all_blocks-push [] chunk = append-nil chunk
all_blocks-push (first ∷ chunks) chunk = ap (λ bs. first ++ bs) (all_blocks-push chunks chunk) ∙ sym (append_assoc first (all_blocks chunks) chunk)
