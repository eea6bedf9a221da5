-- A tree is as deep as the deepest line of its text.
use Rattle.std.proofs.Common.{◌≡◌, ℕ, zero, suc, ◌+◌, ◌<◌, ◌≤◌, max, Bool, true, false, not, cond, nat_lt, List, [], ◌∷◌, ◌++◌, length, map, Option, Some, None, refl, sym, ◌∙◌, ap, subst, arith, length-append}
use Rattle.std.specs.Prelude.{option_map, replicate, ◌↔◌}
use Rattle.std.specs.List.{position, position_from}
use Rattle.std.proofs.lemmas.Bool.{ltb-false}
use Rattle.std.proofs.lemmas.List.{length-map}
use Rattle.cm_text.specs.Rules.{Rules}
use Rattle.cm_text.specs.Lines.{LineView}
use Rattle.cm_tree.specs.Depth.{greatest, block_depth_step, depth_of_block, blocks_depth}
use Rattle.cm_tree.specs.steps.ItemSteps.{items_depth}
use Rattle.cm_tree.specs.declared.tree.Block.{Block}
use Rattle.cm_tree.specs.declared.tree.Block.TheFolds.{fold_out-Block}
use Rattle.cm_tree.specs.declared.tree.Block.TheVariants.{Quote, List as ListBlock, outs-Paragraph, outs-Heading, outs-Code, outs-Html, outs-Break, outs-Definition}
use Rattle.cm_scan.specs.inlines.Brackets.{Defined}
use Rattle.cm_scan.specs.blocks.Parts.{LeafPart, paragraph, heading, code, html, thematic_break, definition, Parts, none, blank, leaf, quote, list, ItemParts, last_item, item, leaf_block, is_loose, blocks_of_parts, blocks_of_items, depths_of, item_depths_of}
use Rattle.cm_scan.specs.blocks.Blocks.{parts_of, blocks_of, first_too_deep}
use Rattle.cm_scan.specs.Documents.{read_step, block_read, with_inlines, defined_by, tree_of_lines}
use Rattle.cm_scan.specs.laws.PartLaws.{AreLines}
use Rattle.cm_scan.specs.laws.Looseness.{line_total, items_total, HaveLines, ItemsHaveLines}
use Rattle.cm_scan.proofs.lemmas.blocks.CountedLines.{parts_have_lines}
use Rattle.cm_scan.proofs.lemmas.blocks.OwnersOfLines.{length-replicate}
use Rattle.cm_block.proofs.lemmas.Depths.{position-cons}
use Rattle.cm_tree.proofs.lemmas.BlockFolds as block_fold

-- ---- the greatest of some numbers

pub greatest_append : (xs ys : List ℕ) → greatest (xs ++ ys) ≡ max (greatest xs) (greatest ys)
greatest_append [] ys = omega arith
greatest_append (x ∷ xs) ys = omega (arith, greatest_append xs ys)

greatest-suc : (x : ℕ) (xs : List ℕ) → greatest (map suc (x ∷ xs)) ≡ greatest (x ∷ xs) + 1
greatest-suc x [] = omega arith
greatest-suc x (y ∷ ys) = omega (arith, greatest-suc y ys)

-- one level further in, where there is a line
further-in : (ds : List ℕ) → 0 < length ds → greatest (map suc ds) ≡ greatest ds + 1
further-in [] some = absurd (omega (arith, some))
further-in (d ∷ ds) some = greatest-suc d ds

greatest-zeros : (n : ℕ) → greatest (replicate n 0) ≡ 0
greatest-zeros zero = refl
greatest-zeros (suc n) = omega (arith, greatest-zeros n)

-- none is past a limit just where the greatest isn't

pub none_after : (limit first : ℕ) (ns : List ℕ) → (position_from (λ n. nat_lt limit n) first ns ≡ None) ↔ (greatest ns ≤ limit)
none_after limit first [] = (λ e. omega arith, λ within. refl)
none_after limit first (n ∷ ns) = by (nat_lt limit n) refl (none_after limit (first + 1) ns)
  where
    by : (past : Bool) → nat_lt limit n ≡ past → (position_from (λ n. nat_lt limit n) (first + 1) ns ≡ None) ↔ (greatest ns ≤ limit)
        → (cond past (Some first) (position_from (λ n. nat_lt limit n) (first + 1) ns) ≡ None) ↔ (max n (greatest ns) ≤ limit)
    by true e more = (λ none. cc, λ within. absurd (past-not n (greatest ns) within e))
      where
        past-not : (n rest : ℕ) → max n rest ≤ limit → nat_lt limit n ≡ true → ⊥
        past-not n rest within e = grind (arith, within, e)
    by false e more = (λ none. both n (greatest ns) (ltb-false limit n e) (more.0 none), λ within. more.1 (second n (greatest ns) within))
      where
        both : (n rest : ℕ) → n ≤ limit → rest ≤ limit → max n rest ≤ limit
        both n rest h k = omega (arith, h, k)

        second : (n rest : ℕ) → max n rest ≤ limit → rest ≤ limit
        second n rest h = omega (arith, h)

-- the place in the whole list
placed : {A : Type 0} (p : A → Bool) (first : ℕ) (xs : List A) → option_map (λ n. first + n) (position p xs) ≡ position_from p first xs
placed p first [] = refl
placed p first (x ∷ xs) = ap (option_map (λ n. first + n)) (position-cons p x xs) ∙ by (p x) (placed p (first + 1) xs)
  where
    further : (found : Option ℕ) → option_map (λ n. first + n) (option_map suc found) ≡ option_map (λ n. first + 1 + n) found
    further None = refl
    further (Some n) = ap Some (omega arith)

    by : (b : Bool) → option_map (λ n. first + 1 + n) (position p xs) ≡ position_from p (first + 1) xs
        → option_map (λ n. first + n) (cond b (Some 0) (option_map suc (position p xs))) ≡ cond b (Some first) (position_from p (first + 1) xs)
    by true more = ap Some (omega arith)
    by false more = further (position p xs) ∙ more

-- counted from 1
counted : {A : Type 0} (p : A → Bool) (xs : List A) → option_map suc (position p xs) ≡ position_from p 1 xs
counted p xs = by (position p xs) ∙ placed p 1 xs
  where
    by : (found : Option ℕ) → option_map suc found ≡ option_map (λ n. 1 + n) found
    by None = refl
    by (Some n) = ap Some (omega arith)

-- ---- blocks inside of blocks

-- each line has a depth
mutual
  unfolding depths_of item_depths_of line_total items_total

  depths-count : (p : Parts) → length (depths_of p) ≡ line_total p
  depths-count none = refl
  depths-count (blank rest) = ap suc (depths-count rest)
  depths-count (leaf x lines rest) = omega (arith, length-append (replicate lines 0) (depths_of rest), length-replicate {A = ℕ} lines 0, depths-count rest)
  depths-count (quote inside rest) =
      omega (arith, length-append (map suc (depths_of inside)) (depths_of rest), length-map (depths_of inside) suc, depths-count inside, depths-count rest)
  depths-count (list kind items rest) = omega (arith, length-append (item_depths_of items) (depths_of rest), item-depths-count items, depths-count rest)

  item-depths-count : (items : ItemParts) → length (item_depths_of items) ≡ items_total items
  item-depths-count (last_item inside) = length-map (depths_of inside) suc ∙ depths-count inside
  item-depths-count (item inside blanks items) =
      let first = map suc (depths_of inside) in
      omega (
        arith,
        length-append (first ++ replicate blanks 0) (item_depths_of items),
        length-append first (replicate blanks 0),
        length-map (depths_of inside) suc,
        length-replicate {A = ℕ} blanks 0,
        depths-count inside,
        item-depths-count items,
      )

module _ (rules : Rules) (defined : Defined) where
  leaf-depth : (x : LeafPart) → depth_of_block (block_read rules defined (leaf_block x)) ≡ 0
  leaf-depth (paragraph source) = simp (fold_out-Block Block (read_step rules defined), fold_out-Block ℕ block_depth_step, outs-Paragraph)
  leaf-depth (heading level source) = simp (fold_out-Block Block (read_step rules defined), fold_out-Block ℕ block_depth_step, outs-Heading)
  leaf-depth (code info text) = simp (fold_out-Block Block (read_step rules defined), fold_out-Block ℕ block_depth_step, outs-Code)
  leaf-depth (html text) = simp (fold_out-Block Block (read_step rules defined), fold_out-Block ℕ block_depth_step, outs-Html)
  leaf-depth thematic_break = simp (fold_out-Block Block (read_step rules defined), fold_out-Block ℕ block_depth_step, outs-Break)
  leaf-depth (definition label dest title) = simp (fold_out-Block Block (read_step rules defined), fold_out-Block ℕ block_depth_step, outs-Definition)

  -- the lines inside of a container, with its own depth
  inside-depth : (inside : Parts) (n : ℕ) → 0 < line_total inside → greatest (depths_of inside) ≡ n → greatest (map suc (depths_of inside)) ≡ n + 1
  inside-depth inside n some is = further-in (depths_of inside) (omega (arith, some, depths-count inside)) ∙ ap (λ d. d + 1) is

  mutual
    unfolding blocks_of_parts blocks_of_items depths_of item_depths_of HaveLines ItemsHaveLines

    deepest : (p : Parts) → HaveLines p → greatest (depths_of p) ≡ blocks_depth (with_inlines rules defined (blocks_of_parts p))
    deepest none have = refl
    deepest (blank rest) have = omega (arith, deepest rest have)
    deepest (leaf x lines rest) have =
        omega (arith, greatest_append (replicate lines 0) (depths_of rest), greatest-zeros lines, leaf-depth x, deepest rest have.1)
    deepest (quote inside rest) have =
        let one : depth_of_block (block_read rules defined (Quote (blocks_of_parts inside))) ≡ blocks_depth (with_inlines rules defined (blocks_of_parts inside)) + 1 =
        ap depth_of_block (block_fold.quote (read_step rules defined) (blocks_of_parts inside)) ∙ block_fold.quote block_depth_step (with_inlines rules defined (blocks_of_parts inside)) in
        omega (arith, greatest_append (map suc (depths_of inside)) (depths_of rest), inside-depth inside _ have.0 (deepest inside have.1), one, deepest rest have.2)
    deepest (list kind items rest) have =
        let tight = not (is_loose items) in
        let one : depth_of_block (block_read rules defined (ListBlock kind tight (blocks_of_items items))) ≡ items_depth (map (with_inlines rules defined) (blocks_of_items items)) =
        ap depth_of_block (block_fold.list (read_step rules defined) kind tight (blocks_of_items items)) ∙ block_fold.list block_depth_step kind tight (map (with_inlines rules defined) (blocks_of_items items)) in
        omega (arith, greatest_append (item_depths_of items) (depths_of rest), items-deepest items have.0, one, deepest rest have.1)

    items-deepest : (items : ItemParts) → ItemsHaveLines items → greatest (item_depths_of items) ≡ items_depth (map (with_inlines rules defined) (blocks_of_items items))
    items-deepest (last_item inside) have = omega (arith, inside-depth inside _ have.0 (deepest inside have.1))
    items-deepest (item inside blanks items) have =
        let first = map suc (depths_of inside) in
        omega (
          arith,
          greatest_append (first ++ replicate blanks 0) (item_depths_of items),
          greatest_append first (replicate blanks 0),
          greatest-zeros blanks,
          inside-depth inside _ have.0 (deepest inside have.1),
          items-deepest items have.2,
        )

-- The deepest line is as deep as the tree.
deepest_line : (rules : Rules) (lines : List LineView) → AreLines lines → greatest (depths_of (parts_of rules lines)) ≡ blocks_depth (tree_of_lines rules lines)
unfolding blocks_of
deepest_line rules lines are = deepest rules (defined_by rules lines) (parts_of rules lines) (parts_have_lines rules lines are)

-- no line is too deep just where the tree isn't
pub none_too_deep : (rules : Rules) (limit : ℕ) (lines : List LineView) → AreLines lines → (first_too_deep rules limit lines ≡ None) ↔ (blocks_depth (tree_of_lines rules lines) ≤ limit)
unfolding first_too_deep
none_too_deep rules limit lines are =
    let depths = depths_of (parts_of rules lines) in
    let deep : ℕ → Bool = λ depth. nat_lt limit depth in
    let at = counted deep depths in
    let within = none_after limit 1 depths in
    let is = deepest_line rules lines are in (
      λ none. subst (λ n. n ≤ limit) is (within.0 (sym at ∙ none)),
      λ fits. at ∙ within.1 (subst (λ n. n ≤ limit) (sym is) fits),
    )
