-- How the blocks inside others are held: each is made of those before it.
use Rattle.std.specs.Prelude.{◌≡◌, ℕ, List, [], ◌∷◌, ◌++◌, map, ⊤}
use Rattle.std.specs.List.{slice_range}
use Rattle.cm_tree.specs.declared.raw_blocks.RawBlock.{RawBlock}
use Rattle.cm_tree.specs.declared.raw_blocks.RawItem.{RawItem}
use Rattle.cm_tree.specs.declared.tree.Block.{Block}
use Rattle.cm_tree.specs.RawBlocks.{Raw, block_in, IsPlaced, AreItems}

-- the blocks of items, where these were made
abbrev pub items_of : (made : List Block) → List RawItem → List (List Block)
items_of made items = map (λ item. slice_range made item.from item.to) items

abbrev pub raw_of : List ℕ → List RawItem → (made : List Block) → Raw
raw_of text items made = record { text = text; blocks = made; items = items_of made items }

-- what is made of blocks, after those that were made
unfoldable pub made_after : List ℕ → List RawItem → (made : List Block) → List RawBlock → List Block
made_after text items made [] = made
made_after text items made (block ∷ blocks) = made_after text items (made ++ block_in (raw_of text items made) block ∷ []) blocks

abbrev pub made_of : List ℕ → List RawItem → List RawBlock → List Block
made_of text items blocks = made_after text items [] blocks

-- what is held
abbrev pub raw_held : List ℕ → List RawBlock → List RawItem → Raw
raw_held text blocks items = raw_of text items (made_of text items blocks)

-- A block is made of what was made before it, and of items that are made of that too.
pub record IsMade (text : List ℕ) (items : List RawItem) (made : List Block) (block : RawBlock) : Type 0 where
  pub first : List RawItem
  pub others : List RawItem
  pub items_are : items ≡ first ++ others
  pub first_are : AreItems (raw_of text first made) first
  pub placed : IsPlaced (raw_of text first made) block

-- each of those before it
abbrev pub AreMade : List ℕ → List RawItem → (made : List Block) → List RawBlock → Type 0
AreMade text items made [] = ⊤
AreMade text items made (block ∷ blocks) = IsMade text items made block × AreMade text items (made ++ block_in (raw_of text items made) block ∷ []) blocks

-- each block that is held is so made, and the items are of these
pub record IsHeld (text : List ℕ) (blocks : List RawBlock) (items : List RawItem) : Type 0 where
  pub blocks_are : AreMade text items [] blocks
  pub items_are : AreItems (raw_held text blocks items) items
