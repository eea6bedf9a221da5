-- The owners of a document's lines: reading inlines changes no leaf.
use Rattle.std.proofs.Common.{◌≡◌, ℕ, map, refl, sym, ◌∙◌, ap, arith, Some}
use Rattle.std.specs.Prelude.{not}
use Rattle.std.proofs.lemmas.List.{length-map}
use Rattle.cm_text.specs.Rules.{Rules}
use Rattle.cm_text.specs.Lines.{plain_line, plain_lines_of, text_of, lines_of}
use Rattle.cm_tree.specs.declared.tree.Block.{Block}
use Rattle.cm_tree.specs.declared.tree.Block.TheFolds.{fold-Block, fold_out-Block}
use Rattle.cm_tree.specs.declared.tree.Block.TheVariants.{Quote, List as ListBlock, outs-Paragraph, outs-Heading, outs-Code, outs-Html, outs-Break, outs-Definition}
use Rattle.cm_scan.specs.inlines.Brackets.{Defined}
use Rattle.cm_scan.specs.blocks.Parts.{LeafPart, paragraph, heading, code, html, thematic_break, definition, Parts, none, blank, leaf, quote, list, ItemParts, last_item, item, leaf_block, is_loose, blocks_of_parts, blocks_of_items, leaf_count, item_leaf_count}
use Rattle.cm_scan.specs.blocks.Blocks.{parts_of, blocks_of}
use Rattle.cm_scan.specs.laws.PartLaws.{total_of_all, leaves_step, leaves_in}
use Rattle.cm_scan.proofs.lemmas.blocks.OwnersOfLines.{list-leaves, tree-leaves}
use Rattle.cm_scan.proofs.lemmas.blocks.CountedLines.{one_owner, in_order}
use Rattle.cm_scan.specs.Documents.{read_step, block_read, with_inlines}
use Rattle.cm_scan.specs.Documents.{defined_by}
use Rattle.cm_tool.specs.Owners.{OneOwnerALine, RunsInOrder}
use Rattle.cm_tool.proofs.lemmas.EndedLemmas.{all_are_lines}
use Rattle.cm_tree.proofs.lemmas.BlockFolds as block_fold

abbrev leaves : Block → ℕ
leaves block = fold-Block ℕ leaves_step block

module _ (rules : Rules) (defined : Defined) where
  -- one block with its inlines read

  leaf-read : (x : LeafPart) → leaves (block_read rules defined (leaf_block x)) ≡ 1
  leaf-read (paragraph source) = simp (fold_out-Block Block (read_step rules defined), fold_out-Block ℕ leaves_step, outs-Paragraph)
  leaf-read (heading level source) = simp (fold_out-Block Block (read_step rules defined), fold_out-Block ℕ leaves_step, outs-Heading)
  leaf-read (code info text) = simp (fold_out-Block Block (read_step rules defined), fold_out-Block ℕ leaves_step, outs-Code)
  leaf-read (html text) = simp (fold_out-Block Block (read_step rules defined), fold_out-Block ℕ leaves_step, outs-Html)
  leaf-read thematic_break = simp (fold_out-Block Block (read_step rules defined), fold_out-Block ℕ leaves_step, outs-Break)
  leaf-read (definition label dest title) = simp (fold_out-Block Block (read_step rules defined), fold_out-Block ℕ leaves_step, outs-Definition)

  -- as many leaves as before

  mutual
    unfolding blocks_of_parts blocks_of_items leaf_count item_leaf_count

    leaves-read : (p : Parts) → leaves_in (with_inlines rules defined (blocks_of_parts p)) ≡ leaf_count p
    leaves-read none = refl
    leaves-read (blank rest) = leaves-read rest
    leaves-read (leaf x lines rest) = omega (arith, leaf-read x, leaves-read rest)
    leaves-read (quote inside rest) =
        let one : leaves (block_read rules defined (Quote (blocks_of_parts inside))) ≡ leaf_count inside =
        ap leaves (block_fold.quote (read_step rules defined) (blocks_of_parts inside)) ∙ block_fold.quote leaves_step (with_inlines rules defined (blocks_of_parts inside)) ∙ leaves-read inside in
        omega (arith, one, leaves-read rest)
    leaves-read (list kind items rest) =
        let tight = not (is_loose items) in
        let one : leaves (block_read rules defined (ListBlock kind tight (blocks_of_items items))) ≡ item_leaf_count items =
        ap leaves (block_fold.list (read_step rules defined) kind tight (blocks_of_items items)) ∙ list-leaves kind tight (map (with_inlines rules defined) (blocks_of_items items)) ∙ items-read items in
        omega (arith, one, leaves-read rest)

    items-read : (items : ItemParts) → total_of_all (map (map (fold-Block ℕ leaves_step)) (map (with_inlines rules defined) (blocks_of_items items))) ≡ item_leaf_count items
    items-read (last_item inside) = omega (arith, leaves-read inside)
    items-read (item inside blanks items) = omega (arith, leaves-read inside, items-read items)

pub one_owner_a_line : OneOwnerALine
one_owner_a_line rules bytes =
    one_owner rules (plain_lines_of (text_of bytes)) (all_are_lines (text_of bytes)) ∙ length-map (lines_of (text_of bytes)) plain_line

pub runs_in_order : RunsInOrder
unfolding blocks_of
runs_in_order rules bytes =
    let lines = plain_lines_of (text_of bytes) in
    let parts = parts_of rules lines in
    in_order rules lines (all_are_lines (text_of bytes))
    ∙ ap Some (tree-leaves parts ∙ sym (leaves-read rules (defined_by rules lines) parts))
