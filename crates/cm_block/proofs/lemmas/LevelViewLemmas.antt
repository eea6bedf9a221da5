-- What levels and frames stand for stays the same where more is there.
use Rattle.std.specs.Prelude.{option_map, not}
use Rattle.std.proofs.lemmas.List.{map-append}
use Rattle.std.proofs.Common.{◌≡◌, List, [], ◌∷◌, ◌++◌, Option, Some, None, refl, ap, ap₂, subst, sym, ◌∙◌}
use Rattle.cm_tree.specs.declared.tree.Block.{Block}
use Rattle.cm_tree.specs.declared.tree.Block.TheVariants as trees
use Rattle.cm_tree.specs.RawBlocks.{Raw, block_in, blocks_in, items_in, IsPlaced, ArePlaced, AreItems, IsItem, Grows}
use Rattle.cm_tree.specs.declared.raw_blocks.RawBlock.{RawBlock}
use Rattle.cm_tree.specs.declared.raw_blocks.RawItem.{RawItem}
use Rattle.cm_block.specs.declared.level.Level as code
use Rattle.cm_block.specs.declared.level.OpenList as code_list
use Rattle.cm_block.specs.declared.stack.Frame as code_frame
use Rattle.cm_block.specs.Level.{OpenList, Level, with_list}
use Rattle.cm_block.specs.steps.LevelSteps.{without_list}
use Rattle.cm_block.specs.steps.LevelViews.{list_in, level_in, IsListPlaced, IsLevelPlaced}
use Rattle.cm_block.specs.Frames.{Frame}
use Rattle.cm_block.specs.steps.FrameViews.{container_of, frame_in, frames_in, AreFramesPlaced}
use Rattle.cm_tree.proofs.lemmas.RawLemmas.{blocks-grow, all-placed-grow, items-grow, are_items-grow, placed-append, items-append}

-- a list with these items, and a level with these blocks and this list

abbrev with_items : code_list.OpenList → List (List Block) → OpenList
with_items list items = record { kind = list.kind; loose = list.loose; items = items }

abbrev made_of : code.Level → List Block → Option OpenList → Level
made_of level blocks list = record { blocks = blocks; open_list = list; has_block = level.has_block; ends_blank = level.ends_blank; separated = level.separated }

abbrev framed : code_frame.Frame → Level → Frame
framed frame level = record { level = level; container = container_of frame.container }

list-grows : (a b : Raw) (list : Option code_list.OpenList) → Grows a b → IsListPlaced a list → option_map (list_in b) list ≡ option_map (list_in a) list
list-grows a b None grows placed = refl
list-grows a b (Some list) grows placed =
    ap (λ items. Some (with_items list items)) (items-grow a b list.items.items grows placed)

list-placed-grows : (a b : Raw) (list : Option code_list.OpenList) → Grows a b → IsListPlaced a list → IsListPlaced b list
list-placed-grows a b None grows placed = tt
list-placed-grows a b (Some list) grows placed = are_items-grow a b list.items.items grows placed

pub level-grows : (a b : Raw) (level : code.Level) → Grows a b → IsLevelPlaced a level → level_in b level ≡ level_in a level
level-grows a b level grows placed =
    ap₂ (made_of level) (blocks-grow a b level.blocks.items grows placed.blocks) (list-grows a b level.open_list grows placed.open_list)

pub level-placed-grows : (a b : Raw) (level : code.Level) → Grows a b → IsLevelPlaced a level → IsLevelPlaced b level
level-placed-grows a b level grows placed = record {
  blocks = all-placed-grow a b level.blocks.items grows placed.blocks;
  open_list = list-placed-grows a b level.open_list grows placed.open_list;
}

pub frame-grows : (a b : Raw) (frame : code_frame.Frame) → Grows a b → IsLevelPlaced a frame.level → frame_in b frame ≡ frame_in a frame
frame-grows a b frame grows placed = ap (framed frame) (level-grows a b frame.level grows placed)

pub frames-grow : (a b : Raw) (frames : List code_frame.Frame) → Grows a b → AreFramesPlaced a frames → frames_in b frames ≡ frames_in a frames
frames-grow a b [] grows placed = refl
frames-grow a b (frame ∷ frames) grows placed = ap₂ (λ f fs. f ∷ fs) (frame-grows a b frame grows placed.0) (frames-grow a b frames grows placed.1)

pub frames-placed-grow : (a b : Raw) (frames : List code_frame.Frame) → Grows a b → AreFramesPlaced a frames → AreFramesPlaced b frames
frames-placed-grow a b [] grows placed = tt
frames-placed-grow a b (frame ∷ frames) grows placed = (level-placed-grows a b frame.level grows placed.0, frames-placed-grow a b frames grows placed.1)

pub frames-append : (raw : Raw) (xs ys : List code_frame.Frame) → AreFramesPlaced raw xs → AreFramesPlaced raw ys → AreFramesPlaced raw (xs ++ ys)
frames-append raw [] ys first second = second
frames-append raw (frame ∷ xs) ys first second = (first.0, frames-append raw xs ys first.1 second)

-- the last frame, and those before it
pub frames-before : (raw : Raw) (xs ys : List code_frame.Frame) → AreFramesPlaced raw (xs ++ ys) → AreFramesPlaced raw xs
frames-before raw [] ys placed = tt
frames-before raw (frame ∷ xs) ys placed = (placed.0, frames-before raw xs ys placed.1)

pub frames-beyond : (raw : Raw) (xs ys : List code_frame.Frame) → AreFramesPlaced raw (xs ++ ys) → AreFramesPlaced raw ys
frames-beyond raw [] ys placed = placed
frames-beyond raw (frame ∷ xs) ys placed = frames-beyond raw xs ys placed.1

-- one more block, and one more item

pub one-more-placed : (raw : Raw) (xs ys : List RawBlock) (block : RawBlock) → ys ≡ xs ++ block ∷ [] → ArePlaced raw xs → IsPlaced raw block → ArePlaced raw ys
one-more-placed raw xs ys block is placed last = subst (ArePlaced raw) (sym is) (placed-append raw xs (block ∷ []) placed (last, tt))

pub one-more-item : (raw : Raw) (xs ys : List RawItem) (item : RawItem) → ys ≡ xs ++ item ∷ [] → AreItems raw xs → IsItem raw item → AreItems raw ys
one-more-item raw xs ys item is are last = subst (AreItems raw) (sym is) (items-append raw xs (item ∷ []) are (last, tt))

-- the list at the end of the blocks, as this block
pub list-closes : (a b : Raw) (level : code.Level) (list : code_list.OpenList) (block : RawBlock) (blocks : List RawBlock) (left : Option code_list.OpenList) → Grows a b → IsLevelPlaced a level
    → level.open_list ≡ Some list → block_in b block ≡ trees.List list.kind (not list.loose) (items_in a list.items.items) → blocks ≡ level.blocks.items ++ block ∷ [] → left ≡ None
    → made_of level (blocks_in b blocks) (option_map (list_in b) left) ≡ without_list (level_in a level)
list-closes a b level list block blocks left grows placed stands is all none =
    ap₂ (λ bs l. made_of level bs (option_map (list_in b) l))
    (ap (blocks_in b) all
    ∙ map-append (block_in b) level.blocks.items (block ∷ [])
    ∙ ap₂ (λ (bs : List Block) (one : Block). bs ++ one ∷ []) (blocks-grow a b level.blocks.items grows placed.blocks) is
    ∙ ap (λ (l : Option code_list.OpenList). with_list (blocks_in a level.blocks.items) (option_map (list_in a) l)) (sym stands))
    none
