-- The stack as the parser holds it: the open containers in a row, from the outside in, and the level of the innermost. A reader of
-- the contracts needn't believe this: a new parser has taken no lines, and the clauses of its calls say how many more it has taken.
use Rattle.std.specs.Prelude.{ℕ, Bool, true, false, ◌&&◌, List, [], ◌∷◌}
use Rattle.cm_tree.specs.declared.tree.ListKind.{ListKind}
use Rattle.cm_block.specs.OpenLeaf.{OpenLeaf}
use Rattle.cm_block.specs.Machine.{Open, in_leaf, in_quote, in_item}
use Rattle.cm_block.specs.Level.{Level}
use Rattle.cm_block.specs.Stack.{Owned, Stack, stack}

-- a block quote, or an item of a list with the column at which its content starts
pub data Container : Type 0 where
  a_quote : Container
  an_item : ListKind → (column : ℕ) → Container

-- an open container, and the level that it is in
pub record Frame : Type 0 where
  pub level : Level
  pub container : Container

-- the open containers, whether the innermost is an item with only its marker so far, and the level in that
pub record Row : Type 0 where
  pub frames : List Frame
  pub bare : Bool
  pub level : Level

-- a container that is open, with this inside
abbrev pub opened : Container → (bare : Bool) → Level → Open Level → Open Level
opened a_quote bare inside now = in_quote inside now
opened (an_item kind column) bare inside now = in_item kind column bare inside now

abbrev pub is_last : List Frame → Bool
is_last [] = true
is_last (f ∷ fs) = false

-- the level of the document and what is open in it; the mark says whether the innermost container is an item with only its marker so
-- far
unfoldable pub nest : (bare : Bool) → List Frame → Level → OpenLeaf → Level × Open Level
nest bare [] level leaf = (level, in_leaf leaf)
nest bare (f ∷ fs) level leaf = let inside = nest bare fs level leaf in (f.level, opened f.container (bare && is_last fs) inside.0 inside.1)

-- the stack with these open containers; the mark says whether the innermost is an item with only its marker so far
abbrev pub stack_with : Bool → List Frame → Level → OpenLeaf → Owned → Stack
stack_with bare frames level leaf owned = stack (nest bare frames level leaf).0 (nest bare frames level leaf).1 owned
