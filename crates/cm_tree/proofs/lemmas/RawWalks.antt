-- Blocks whose inlines haven't been read, as they are walked by places: what is there, and how deep it nests.
use Rattle.std.proofs.Common.{◌≡◌, ◌∙◌, ◌≤◌, ◌<◌, ◌+◌, ◌-◌, ℕ, zero, suc, Bool, List, [], ◌∷◌, ◌++◌, length, get_or, take, drop, sym, ap, append_assoc, arith}
use Rattle.std.proofs.lemmas.List.{drop_more, get_or-take, get_or-drop, length-take, length-drop}
use Rattle.std.specs.List.{slice_range}
use Rattle.cm_tree.specs.Depth.{block_depth_step, depth_of_block, blocks_depth}
use Rattle.cm_tree.specs.steps.ItemSteps.{items_depth}
use Rattle.cm_tree.specs.declared.tree.Block.{Block}
use Rattle.cm_tree.specs.declared.tree.Block.TheFolds.{fold_out-Block}
use Rattle.cm_tree.specs.declared.tree.Block.TheVariants.{Quote, List as ListBlock, outs-Quote, outs-List}
use Rattle.cm_tree.specs.declared.tree.ListKind.{ListKind}

-- what is done and what is left are the whole: also with one more part done
pub joined : {A : Type 0} (done after part rest whole : List A) → done ++ (part ++ rest) ≡ whole → after ≡ done ++ part → after ++ rest ≡ whole
joined done after part rest whole so_far is = ap (λ t. t ++ rest) is ∙ append_assoc done part rest ∙ so_far

-- ---- how deep blocks nest

-- no block is deeper than the deepest, and no item
deepest-block : (blocks : List Block) (i : ℕ) (d : Block) → i < length blocks → depth_of_block (get_or blocks i d) ≤ blocks_depth blocks
deepest-block [] i d within = absurd (omega (arith, within))
deepest-block (block ∷ blocks) zero d within = omega arith
deepest-block (block ∷ blocks) (suc i) d within = omega (arith, deepest-block blocks i d (omega (arith, within)))

deepest-item : (items : List (List Block)) (i : ℕ) (d : List Block) → i < length items → blocks_depth (get_or items i d) < items_depth items
deepest-item [] i d within = absurd (omega (arith, within))
deepest-item (item ∷ items) zero d within = omega arith
deepest-item (item ∷ items) (suc i) d within = omega (arith, deepest-item items i d (omega (arith, within)))

-- ---- places in a list

module _ {A : Type 0} (xs : List A) (from at to : ℕ) (x : A) (begins : from ≤ at) (less : at < to) (ends : to ≤ length xs) (is : x ≡ get_or xs at x) where
  -- what is there, and what after it
  pub there-first : slice_range xs at to ≡ x ∷ slice_range xs (at + 1) to
  there-first =
      let gap : to - at ≡ suc (to - (at + 1)) = omega (arith, less) in
      ap (take (to - at)) (drop_more xs at x (omega (arith, less, ends)))
      ∙ ap (λ n. take n (get_or xs at x ∷ drop (at + 1) xs)) gap
      ∙ ap (λ y. y ∷ slice_range xs (at + 1) to) (sym is)

  there-in : x ≡ get_or (slice_range xs from to) (at - from) x
  there-in =
      is
      ∙ ap (λ n. get_or xs n x) (omega (arith, begins))
      ∙ sym (get_or-take (to - from) (drop from xs) (at - from) x (omega (arith, begins, less)) ∙ get_or-drop from xs (at - from) x)

  there-length : at - from < length (slice_range xs from to)
  there-length = omega (arith, begins, less, ends, length-take (to - from) (drop from xs), length-drop from xs)

module _ (from at to : ℕ) (begins : from ≤ at) (less : at < to) where
  pub block_depth : (blocks : List Block) (block : Block) → to ≤ length blocks → block ≡ get_or blocks at block
      → depth_of_block block ≤ blocks_depth (slice_range blocks from to)
  block_depth blocks block ends is =
      omega (
        arith,
        ap depth_of_block (there-in blocks from at to block begins less ends is),
        deepest-block (slice_range blocks from to) (at - from) block (there-length blocks from at to block begins less ends is),
      )

  pub item_depth : (items : List (List Block)) (item : List Block) → to ≤ length items → item ≡ get_or items at item
      → blocks_depth item < items_depth (slice_range items from to)
  item_depth items item ends is =
      omega (
        arith,
        ap blocks_depth (there-in items from at to item begins less ends is),
        deepest-item (slice_range items from to) (at - from) item (there-length items from at to item begins less ends is),
      )

pub quote_depth : (blocks : List Block) → depth_of_block (Quote blocks) ≡ blocks_depth blocks + 1
quote_depth blocks = simp (fold_out-Block ℕ block_depth_step, outs-Quote)

pub list_depth : (kind : ListKind) (tight : Bool) (items : List (List Block)) → depth_of_block (ListBlock kind tight items) ≡ items_depth items
list_depth kind tight items = simp (fold_out-Block ℕ block_depth_step, outs-List)
