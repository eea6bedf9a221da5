-- Blocks whose definitions are taken out one after another.
use Rattle.std.proofs.Common.{◌≡◌, ◌∙◌, ℕ, ◌≤◌, List, [], ◌∷◌, ◌++◌, length, map, take, refl, sym, ap, arith, take_all}
use Rattle.std.specs.Prelude.{Bool}
use Rattle.std.proofs.Math.Seq.{take-append_seam}
use Rattle.cm_tree.specs.declared.tree.Block.{Block}
use Rattle.cm_tree.specs.declared.tree.Block.TheFolds.{fold_out-Block}
use Rattle.cm_tree.specs.declared.tree.Block.TheVariants.{List as ListBlock, outs-List}
use Rattle.cm_tree.specs.declared.tree.ListKind.{ListKind}
use Rattle.cm_source.specs.Definitions.{cleared, cleared_step, kept, without_definitions}

-- what comes back of a list that has been changed to its end
pub changed_back : {A : Type 0} (change : A → A) (made now rest old : List A) (len i : ℕ) → made ≡ take len (now ++ rest) → len ≡ length now → length now ≡ length old
    → length old ≤ i → take i now ≡ map change (take i old) → made ≡ map change old
changed_back change made now rest old len i is len_is same past so_far =
    is ∙ ap (λ n. take n (now ++ rest)) len_is ∙ take-append_seam now rest ∙ sym (take_all i now (omega (arith, same, past))) ∙ so_far ∙ ap (map change) (take_all i old past)

items_cleared : (items : List (List Block)) → map kept (map (map cleared) items) ≡ map without_definitions items
items_cleared [] = refl
items_cleared (item ∷ items) = ap (λ t. without_definitions item ∷ t) (items_cleared items)

pub list_cleared : (kind : ListKind) (tight : Bool) (items : List (List Block)) → cleared (ListBlock kind tight items) ≡ ListBlock kind tight (map without_definitions items)
list_cleared kind tight items = simp (fold_out-Block Block cleared_step, outs-List) (ap (ListBlock kind tight) (items_cleared items))
