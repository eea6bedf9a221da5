-- A fold of a block, by its kind.
use Rattle.std.proofs.Common.{◌≡◌, ℕ, Bool, List, map}
use Rattle.cm_tree.specs.declared.tree.Inline.{Inline}
use Rattle.cm_tree.specs.declared.tree.ListKind.{ListKind}
use Rattle.cm_tree.specs.declared.tree.Block.{Block, Block-F}
use Rattle.cm_tree.specs.declared.tree.Block.TheOpen as block
use Rattle.cm_tree.specs.declared.tree.Block.TheVariants.{Paragraph, Heading, Code, Html, Break, Definition, Quote, List as ListBlock, outs-Paragraph, outs-Heading, outs-Code, outs-Html, outs-Break, outs-Definition, outs-Quote, outs-List}
use Rattle.cm_tree.specs.declared.tree.Block.TheFolds.{fold-Block, fold_out-Block}

module _ {T : Type 0} (step : Block-F T → T) where
  abbrev each : List Block → List T
  each = map (fold-Block T step)

  pub paragraph : (content : List Inline) → fold-Block T step (Paragraph content) ≡ step (block.Paragraph content)
  paragraph content = simp (fold_out-Block T step, outs-Paragraph)

  pub heading : (level : ℕ) (content : List Inline) → fold-Block T step (Heading level content) ≡ step (block.Heading level content)
  heading level content = simp (fold_out-Block T step, outs-Heading)

  pub code : (info value : List ℕ) → fold-Block T step (Code info value) ≡ step (block.Code info value)
  code info value = simp (fold_out-Block T step, outs-Code)

  pub html : (value : List ℕ) → fold-Block T step (Html value) ≡ step (block.Html value)
  html value = simp (fold_out-Block T step, outs-Html)

  pub thematic_break : fold-Block T step Break ≡ step block.Break
  thematic_break = simp (fold_out-Block T step, outs-Break)

  pub definition : (label dest title : List ℕ) → fold-Block T step (Definition label dest title) ≡ step (block.Definition label dest title)
  definition label dest title = simp (fold_out-Block T step, outs-Definition)

  pub quote : (blocks : List Block) → fold-Block T step (Quote blocks) ≡ step (block.Quote (each blocks))
  quote blocks = simp (fold_out-Block T step, outs-Quote)

  pub list : (kind : ListKind) (tight : Bool) (items : List (List Block)) → fold-Block T step (ListBlock kind tight items) ≡ step (block.List kind tight (map each items))
  list kind tight items = simp (fold_out-Block T step, outs-List)
