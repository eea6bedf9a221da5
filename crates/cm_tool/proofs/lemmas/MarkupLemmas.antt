-- Reading inlines changes no level of a heading.
use Rattle.std.proofs.Common.{◌≡◌, Bool, List, [], ◌∷◌, ◌&&◌, map, refl, sym, ◌∙◌, ap, ap₂, subst}
use Rattle.cm_text.specs.Rules.{Rules}
use Rattle.cm_text.specs.Lines.{plain_lines_of, text_of}
use Rattle.std.specs.List.{list_all}
use Rattle.cm_tree.specs.declared.tree.Block.{Block, Block-F, map-Block}
use Rattle.cm_tree.specs.declared.tree.Block.TheOpen as block
use Rattle.cm_tree.specs.declared.tree.Block.TheViews.{roll-Block}
use Rattle.cm_tree.specs.declared.tree.Block.TheFolds.{fold-roll-Block, fold_out-Block, ind-Block}
use Rattle.cm_tree.specs.declared.tree.Block.TheVariants.{outs-Paragraph, outs-Heading, outs-Code, outs-Html, outs-Break, outs-Definition, outs-Quote, outs-List}
use Rattle.cm_tree.specs.HeadingLevels.{all_of, level_step, has_levels, have_levels}
use Rattle.cm_scan.specs.inlines.Brackets.{Defined}
use Rattle.cm_scan.specs.blocks.Blocks.{blocks_of}
use Rattle.cm_scan.proofs.lemmas.blocks.HeadingLevels.{heading_levels}
use Rattle.cm_scan.proofs.lemmas.trees.TreesRead.{no_html, trees_followed}
use Rattle.cm_html.proofs.lemmas.MarkupBlocks.{addresses_stay}
use Rattle.cm_scan.specs.Documents.{read_step, block_read, with_inlines}
use Rattle.cm_scan.specs.Documents.{tree_of, defined_by}
use Rattle.cm_tool.specs.TextMarkup.{HeadingLevels, TextIsNoMarkup, TextsFromStrangers}

module _ (rules : Rules) (defined : Defined) where
  abbrev Kept : Block → Type 0
  Kept b = has_levels (block_read rules defined b) ≡ has_levels b

  -- blocks, each with its proof
  abbrev Proved : Type 0
  Proved = (b : Block) × Kept b

  abbrev blocks_in : List Proved → List Block
  blocks_in proved = map (λ e. e.0) proved

  blocks-kept : (es : List Proved) → all_of (map has_levels (map (block_read rules defined) (blocks_in es))) ≡ all_of (map has_levels (blocks_in es))
  blocks-kept [] = refl
  blocks-kept (e ∷ es) = ap₂ (λ a b. a && b) e.1 (blocks-kept es)

  items-kept : (items : List (List Proved))
      → list_all all_of (map (map has_levels) (map (map (block_read rules defined)) (map blocks_in items))) ≡ list_all all_of (map (map has_levels) (map blocks_in items))
  items-kept [] = refl
  items-kept (item ∷ items) = ap₂ (λ a b. a && b) (blocks-kept item) (items-kept items)

  layer : (y : Block-F Proved)
      → has_levels (read_step rules defined (map-Block Block Block (block_read rules defined) (map-Block Proved Block (λ e. e.0) y)))
      ≡ level_step (map-Block Block Bool has_levels (map-Block Proved Block (λ e. e.0) y))
  layer (block.Paragraph content) = simp (fold_out-Block Bool level_step, outs-Paragraph)
  layer (block.Heading level content) = simp (fold_out-Block Bool level_step, outs-Heading)
  layer (block.Code info text) = simp (fold_out-Block Bool level_step, outs-Code)
  layer (block.Html text) = simp (fold_out-Block Bool level_step, outs-Html)
  layer block.Break = simp (fold_out-Block Bool level_step, outs-Break)
  layer (block.Definition label dest title) = simp (fold_out-Block Bool level_step, outs-Definition)
  layer (block.Quote es) = simp (fold_out-Block Bool level_step, outs-Quote) (blocks-kept es)
  layer (block.List kind tight items) = simp (fold_out-Block Bool level_step, outs-List) (items-kept items)

  rolled : (x : Block-F Block)
      → has_levels (read_step rules defined (map-Block Block Block (block_read rules defined) x)) ≡ level_step (map-Block Block Bool has_levels x) → Kept (roll-Block x)
  rolled x of_layer = ap has_levels (fold-roll-Block Block (read_step rules defined) x) ∙ of_layer ∙ sym (fold-roll-Block Bool level_step x)

  block-kept : (b : Block) → Kept b
  block-kept = ind-Block Kept (λ x y is. subst (λ z. Kept (roll-Block z)) is (rolled (map-Block Proved Block (λ e. e.0) y) (layer y)))

  levels-kept : (blocks : List Block) → have_levels (with_inlines rules defined blocks) ≡ have_levels blocks
  levels-kept [] = refl
  levels-kept (b ∷ bs) = ap₂ (λ s t. s && t) (block-kept b) (levels-kept bs)

pub document_levels : HeadingLevels
document_levels rules bytes =
    let lines = plain_lines_of (text_of bytes) in
    levels-kept rules (defined_by rules lines) (blocks_of rules lines) ∙ heading_levels rules lines

pub document_is_no_markup : TextIsNoMarkup
document_is_no_markup rules bytes free = addresses_stay rules (tree_of rules bytes) free (document_levels rules bytes) (trees_followed rules bytes)

pub stranger_is_no_markup : TextsFromStrangers
stranger_is_no_markup rules without bytes = document_is_no_markup rules bytes (no_html rules without bytes)
