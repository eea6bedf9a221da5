-- Induction over blocks and the blocks inside of them.
use Rattle.std.proofs.Common.{ℕ, Bool, List, [], ◌∷◌, map, subst}
use Rattle.std.specs.Prelude.{⊤}
use Rattle.cm_tree.specs.declared.tree.Inline.{Inline}
use Rattle.cm_tree.specs.declared.tree.ListKind.{ListKind}
use Rattle.cm_tree.specs.declared.tree.Block.{Block, Block-F, map-Block}
use Rattle.cm_tree.specs.declared.tree.Block.TheOpen as block
use Rattle.cm_tree.specs.declared.tree.Block.TheVariants.{Paragraph, Heading, Code, Html, Break, Definition, Quote, List as ListBlock}
use Rattle.cm_tree.specs.declared.tree.Block.TheViews.{roll-Block}
use Rattle.cm_tree.specs.declared.tree.Block.TheFolds.{ind-Block}

module _ (Holds : Block → Type 0) where
  -- of each of some blocks, and of each block of some items
  unfoldable pub AllHold : List Block → Type 0
  AllHold [] = ⊤
  AllHold (b ∷ bs) = Holds b × AllHold bs

  unfoldable pub ItemsHold : List (List Block) → Type 0
  ItemsHold [] = ⊤
  ItemsHold (item ∷ items) = AllHold item × ItemsHold items

  -- of each block inside of one
  unfoldable pub InsideHold : Block-F Block → Type 0
  InsideHold (block.Quote blocks) = AllHold blocks
  InsideHold (block.List kind tight items) = ItemsHold items
  InsideHold _ = ⊤

  abbrev Proved : Type 0
  Proved = (b : Block) × Holds b

  proved-hold : (es : List Proved) → AllHold (map (λ e. e.0) es)
  unfolding AllHold
  proved-hold [] = tt
  proved-hold (e ∷ es) = (e.1, proved-hold es)

  proved-items : (ess : List (List Proved)) → ItemsHold (map (map (λ e. e.0)) ess)
  unfolding ItemsHold
  proved-items [] = tt
  proved-items (es ∷ ess) = (proved-hold es, proved-items ess)

  proved-inside : (y : Block-F Proved) → InsideHold (map-Block Proved Block (λ e. e.0) y)
  unfolding InsideHold
  proved-inside (block.Paragraph content) = tt
  proved-inside (block.Heading level content) = tt
  proved-inside (block.Code info text) = tt
  proved-inside (block.Html text) = tt
  proved-inside block.Break = tt
  proved-inside (block.Definition label dest title) = tt
  proved-inside (block.Quote es) = proved-hold es
  proved-inside (block.List kind tight ess) = proved-items ess

  -- what holds of a block if it holds of those inside
  pub by-layers : ((x : Block-F Block) → InsideHold x → Holds (roll-Block x)) → (b : Block) → Holds b
  by-layers layer = ind-Block Holds (λ x y is. subst (λ z. Holds (roll-Block z)) is (layer (map-Block Proved Block (λ e. e.0) y) (proved-inside y)))

  pub all-by-layers : ((x : Block-F Block) → InsideHold x → Holds (roll-Block x)) → (bs : List Block) → AllHold bs
  unfolding AllHold
  all-by-layers layer [] = tt
  all-by-layers layer (b ∷ bs) = (by-layers layer b, all-by-layers layer bs)

  -- the same, kind by kind
  pub record Cases : Type 0 where
    pub paragraph : (content : List Inline) → Holds (Paragraph content)
    pub heading : (level : ℕ) (content : List Inline) → Holds (Heading level content)
    pub code : (info text : List ℕ) → Holds (Code info text)
    pub html : (text : List ℕ) → Holds (Html text)
    pub thematic_break : Holds Break
    pub definition : (label dest title : List ℕ) → Holds (Definition label dest title)
    pub quote : (blocks : List Block) → AllHold blocks → Holds (Quote blocks)
    pub list : (kind : ListKind) (tight : Bool) (items : List (List Block)) → ItemsHold items → Holds (ListBlock kind tight items)

  by-kind : Cases → (x : Block-F Block) → InsideHold x → Holds (roll-Block x)
  unfolding InsideHold roll-Block denote.Hole.Carrier.roll
  by-kind cases (block.Paragraph content) inside = cases.paragraph content
  by-kind cases (block.Heading level content) inside = cases.heading level content
  by-kind cases (block.Code info text) inside = cases.code info text
  by-kind cases (block.Html text) inside = cases.html text
  by-kind cases block.Break inside = cases.thematic_break
  by-kind cases (block.Definition label dest title) inside = cases.definition label dest title
  by-kind cases (block.Quote blocks) inside = cases.quote blocks inside
  by-kind cases (block.List kind tight items) inside = cases.list kind tight items inside

  pub all-by-cases : Cases → (bs : List Block) → AllHold bs
  all-by-cases cases = all-by-layers (by-kind cases)
