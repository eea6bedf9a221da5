-- Owners of lines: one a line, and leaves in unbroken runs.
use Rattle.std.proofs.Common.{◌≡◌, ℕ, zero, suc, ◌+◌, ◌<◌, Bool, true, false, List, [], ◌∷◌, ◌++◌, length, map, refl, ◌∙◌, ap, arith, Some, None, length-append}
use Rattle.std.specs.Prelude.{not, Option, replicate}
use Rattle.std.specs.Option.{option_map}
use Rattle.cm_tree.specs.declared.tree.Block.{Block}
use Rattle.cm_tree.specs.declared.tree.Block.TheFolds.{fold-Block, fold_out-Block}
use Rattle.cm_tree.specs.declared.tree.Block.TheVariants.{List as ListBlock, outs-Paragraph, outs-Heading, outs-Code, outs-Html, outs-Break, outs-Definition, outs-List}
use Rattle.cm_tree.specs.declared.tree.ListKind.{ListKind}
use Rattle.cm_tree.specs.declared.tree.Owner.{Owner}
use Rattle.cm_tree.specs.declared.tree.Owner.TheVariants.{Leaf, Marker, Blank}
use Rattle.cm_scan.specs.blocks.Parts.{LeafPart, paragraph, heading, code, html, thematic_break, definition, Parts, none, blank, leaf, quote, list, ItemParts, last_item, item, leaf_block, is_loose, blocks_of_parts, blocks_of_items, leaf_count, item_leaf_count, marked, owners_after, item_owners_after, marked_first}
use Rattle.cm_scan.specs.laws.Looseness.{line_total, items_total, HaveLines, ItemsHaveLines}
use Rattle.cm_scan.specs.laws.PartLaws.{LeavesNamed, name_next, name_lines, leaves_named, total_of_all, leaves_step, leaves_in}
use Rattle.cm_tree.proofs.lemmas.BlockFolds as block_fold

pub length-replicate : {A : Type 0} (n : ℕ) (x : A) → length (replicate n x) ≡ n
length-replicate zero x = refl
length-replicate (suc n) x = ap suc (length-replicate n x)

pub length-marked : (owners : List Owner) → length (map marked owners) ≡ length owners
length-marked [] = refl
length-marked (o ∷ os) = ap suc (length-marked os)

pub length-first : (p : Parts) (owners : List Owner) → length (marked_first p owners) ≡ length owners
length-first none owners = refl
length-first (blank rest) [] = refl
length-first (blank rest) (o ∷ os) = refl
length-first (leaf x lines rest) owners = refl
length-first (quote inside rest) owners = refl
length-first (list kind items rest) owners = refl

mutual
  unfolding owners_after item_owners_after line_total items_total

  pub one_owner_a_line : (n : ℕ) (p : Parts) → length (owners_after n p) ≡ line_total p
  one_owner_a_line n none = refl
  one_owner_a_line n (blank rest) = ap suc (one_owner_a_line n rest)
  one_owner_a_line n (leaf x lines rest) =
      omega (arith, length-append (replicate lines (Leaf (suc n))) (owners_after (suc n) rest), length-replicate lines (Leaf (suc n)), one_owner_a_line (suc n) rest)
  one_owner_a_line n (quote inside rest) =
      omega (
        arith,
        length-append (map marked (owners_after n inside)) (owners_after (n + leaf_count inside) rest),
        length-marked (owners_after n inside),
        one_owner_a_line n inside,
        one_owner_a_line (n + leaf_count inside) rest,
      )
  one_owner_a_line n (list kind items rest) =
      omega (arith, length-append (item_owners_after n items) (owners_after (n + item_leaf_count items) rest), items_owners n items, one_owner_a_line (n + item_leaf_count items) rest)

  pub items_owners : (n : ℕ) (items : ItemParts) → length (item_owners_after n items) ≡ items_total items
  items_owners n (last_item inside) = length-first inside (owners_after n inside) ∙ one_owner_a_line n inside
  items_owners n (item inside blanks items) =
      let first = marked_first inside (owners_after n inside) in
      omega (
        arith,
        one_owner_a_line n inside,
        length-first inside (owners_after n inside),
        items_owners (n + leaf_count inside) items,
        length-append (first ++ replicate blanks Blank) (item_owners_after (n + leaf_count inside) items),
        length-append first (replicate blanks Blank),
        length-replicate blanks Blank,
      )

-- naming the leaves of lines, one after another

abbrev named : Bool → ℕ → Option LeavesNamed
named in_leaf count = Some (record { in_leaf = in_leaf; count = count })

name-append : (s : Option LeavesNamed) (xs ys : List Owner) → name_lines s (xs ++ ys) ≡ name_lines (name_lines s xs) ys
name-append s [] ys = refl
name-append s (x ∷ xs) ys = name-append (name_next s x) xs ys

name-marked : (s : Option LeavesNamed) (o : Owner) → name_next s (marked o) ≡ name_next s o
name-marked None o = refl
name-marked (Some n) (Leaf number) = refl
name-marked (Some n) Marker = refl
name-marked (Some n) Blank = refl

name-all_marked : (s : Option LeavesNamed) (os : List Owner) → name_lines s (map marked os) ≡ name_lines s os
name-all_marked s [] = refl
name-all_marked s (o ∷ os) = name-all_marked (name_next s (marked o)) os ∙ ap (λ t. name_lines t os) (name-marked s o)

-- a first line of a leaf, and a further one
name-first : (b : Bool) (n : ℕ) → name_next (named b n) (Leaf (suc n)) ≡ named true (suc n)
name-first b n = grind arith

name-further : (n : ℕ) → name_next (named true (suc n)) (Leaf (suc n)) ≡ named true (suc n)
name-further n = grind arith

name-replicate : (n lines : ℕ) → name_lines (named true (suc n)) (replicate lines (Leaf (suc n))) ≡ named true (suc n)
name-replicate n zero = refl
name-replicate n (suc lines) = ap (λ s. name_lines s (replicate lines (Leaf (suc n)))) (name-further n) ∙ name-replicate n lines

name-leaf : (b : Bool) (n lines : ℕ) → 0 < lines → name_lines (named b n) (replicate lines (Leaf (suc n))) ≡ named true (suc n)
name-leaf b n zero some = absurd (omega arith)
name-leaf b n (suc lines) some = ap (λ s. name_lines s (replicate lines (Leaf (suc n)))) (name-first b n) ∙ name-replicate n lines

-- whether the last of the given number of blank lines is a leaf's
abbrev after_blanks : Bool → ℕ → Bool
after_blanks b zero = b
after_blanks b (suc n) = false

name-false : (n blanks : ℕ) → name_lines (named false n) (replicate blanks Blank) ≡ named false n
name-false n zero = refl
name-false n (suc blanks) = name-false n blanks

name-blanks : (b : Bool) (n blanks : ℕ) → name_lines (named b n) (replicate blanks Blank) ≡ named (after_blanks b blanks) n
name-blanks b n zero = refl
name-blanks b n (suc blanks) = name-false n blanks

name-head : (b : Bool) (n : ℕ) (p : Parts) → name_lines (named b n) (marked_first p (owners_after n p)) ≡ name_lines (named b n) (owners_after n p)
unfolding owners_after
name-head b n none = refl
name-head b n (blank rest) = refl
name-head b n (leaf x lines rest) = refl
name-head b n (quote inside rest) = refl
name-head b n (list kind items rest) = refl

-- whether the last line of parts is a leaf's, where the line before is one or isn't
unfoldable mutual
  in_leaf_after : Bool → Parts → Bool
  in_leaf_after b none = b
  in_leaf_after b (blank rest) = in_leaf_after false rest
  in_leaf_after b (leaf x lines rest) = in_leaf_after true rest
  in_leaf_after b (quote inside rest) = in_leaf_after (in_leaf_after b inside) rest
  in_leaf_after b (list kind items rest) = in_leaf_after (items_in_leaf b items) rest

  items_in_leaf : Bool → ItemParts → Bool
  items_in_leaf b (last_item inside) = in_leaf_after b inside
  items_in_leaf b (item inside blanks items) = items_in_leaf (after_blanks (in_leaf_after b inside) blanks) items

mutual
  unfolding owners_after item_owners_after leaf_count item_leaf_count HaveLines ItemsHaveLines in_leaf_after items_in_leaf

  name-parts : (b : Bool) (n : ℕ) (p : Parts) → HaveLines p → name_lines (named b n) (owners_after n p) ≡ named (in_leaf_after b p) (n + leaf_count p)
  name-parts b n none have = ap (named b) (omega arith)
  name-parts b n (blank rest) have = name-parts false n rest have
  name-parts b n (leaf x lines rest) have =
      name-append (named b n) (replicate lines (Leaf (suc n))) (owners_after (suc n) rest)
      ∙ ap (λ s. name_lines s (owners_after (suc n) rest)) (name-leaf b n lines have.0)
      ∙ name-parts true (suc n) rest have.1 ∙ ap (named (in_leaf_after true rest)) (omega arith)
  name-parts b n (quote inside rest) have =
      name-append (named b n) (map marked (owners_after n inside)) (owners_after (n + leaf_count inside) rest)
      ∙ ap (λ s. name_lines s (owners_after (n + leaf_count inside) rest)) (name-all_marked (named b n) (owners_after n inside) ∙ name-parts b n inside have.1)
      ∙ name-parts (in_leaf_after b inside) (n + leaf_count inside) rest have.2 ∙ ap (named _) (omega arith)
  name-parts b n (list kind items rest) have =
      name-append (named b n) (item_owners_after n items) (owners_after (n + item_leaf_count items) rest)
      ∙ ap (λ s. name_lines s (owners_after (n + item_leaf_count items) rest)) (name-items b n items have.0)
      ∙ name-parts (items_in_leaf b items) (n + item_leaf_count items) rest have.1 ∙ ap (named _) (omega arith)

  name-items : (b : Bool) (n : ℕ) (items : ItemParts) → ItemsHaveLines items → name_lines (named b n) (item_owners_after n items) ≡ named (items_in_leaf b items) (n + item_leaf_count items)
  name-items b n (last_item inside) have = name-head b n inside ∙ name-parts b n inside have.1
  name-items b n (item inside blanks items) have =
      name-append (named b n) (marked_first inside (owners_after n inside) ++ replicate blanks Blank) (item_owners_after (n + leaf_count inside) items)
      ∙ ap (λ s. name_lines s (item_owners_after (n + leaf_count inside) items))
      (name-append (named b n) (marked_first inside (owners_after n inside)) (replicate blanks Blank)
      ∙ ap (λ s. name_lines s (replicate blanks Blank)) (name-head b n inside ∙ name-parts b n inside have.1)
      ∙ name-blanks (in_leaf_after b inside) (n + leaf_count inside) blanks)
      ∙ name-items (after_blanks (in_leaf_after b inside) blanks) (n + leaf_count inside) items have.2 ∙ ap (named _) (omega arith)

pub leaves_in_order : (p : Parts) → HaveLines p → leaves_named (owners_after 0 p) ≡ Some (leaf_count p)
leaves_in_order p have = ap (λ s. option_map (λ (t : LeavesNamed). t.count) s) (name-parts false 0 p have) ∙ ap Some (omega arith)

-- the leaves of the tree

pub leaf-one : (x : LeafPart) → fold-Block ℕ leaves_step (leaf_block x) ≡ 1
leaf-one (paragraph source) = simp (fold_out-Block ℕ leaves_step, outs-Paragraph)
leaf-one (heading level source) = simp (fold_out-Block ℕ leaves_step, outs-Heading)
leaf-one (code info text) = simp (fold_out-Block ℕ leaves_step, outs-Code)
leaf-one (html text) = simp (fold_out-Block ℕ leaves_step, outs-Html)
leaf-one thematic_break = simp (fold_out-Block ℕ leaves_step, outs-Break)
leaf-one (definition label dest title) = simp (fold_out-Block ℕ leaves_step, outs-Definition)

pub list-leaves : (kind : ListKind) (tight : Bool) (items : List (List Block))
    → fold-Block ℕ leaves_step (ListBlock kind tight items) ≡ total_of_all (map (map (fold-Block ℕ leaves_step)) items)
list-leaves kind tight items = simp (fold_out-Block ℕ leaves_step, outs-List)

mutual
  unfolding blocks_of_parts blocks_of_items leaf_count item_leaf_count

  pub tree-leaves : (p : Parts) → leaves_in (blocks_of_parts p) ≡ leaf_count p
  tree-leaves none = refl
  tree-leaves (blank rest) = tree-leaves rest
  tree-leaves (leaf x lines rest) = omega (arith, leaf-one x, tree-leaves rest)
  tree-leaves (quote inside rest) = omega (arith, block_fold.quote leaves_step (blocks_of_parts inside), tree-leaves inside, tree-leaves rest)
  tree-leaves (list kind items rest) = omega (arith, list-leaves kind (not (is_loose items)) (blocks_of_items items), items-leaves items, tree-leaves rest)

  items-leaves : (items : ItemParts) → total_of_all (map (map (fold-Block ℕ leaves_step)) (blocks_of_items items)) ≡ item_leaf_count items
  items-leaves (last_item inside) = omega (arith, tree-leaves inside)
  items-leaves (item inside blanks items) = omega (arith, tree-leaves inside, items-leaves items)
