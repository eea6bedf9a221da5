-- A stack as a row: the last frame, once it is taken, and more is there.
use Rattle.std.proofs.Common.{◌≡◌, ℕ, ◌-◌, ◌+◌, ◌<◌, length, take, slice_index_or, slice_set, arith, Bool, true, Option, Some, None, List, [], ◌∷◌, ◌++◌, refl, append-nil, sym, ap, ap₂, subst, ◌∙◌}
use Rattle.std.proofs.lemmas.List.{take_all, take_more, take_more_set, length-set}
use Rattle.std.specs.Option.{option_map}
use Rattle.cm_tree.specs.declared.tree.Block.{Block}
use Rattle.cm_tree.specs.declared.raw_blocks.RawBlock.{RawBlock}
use Rattle.cm_tree.specs.RawBlocks.{Raw, block_in, blocks_in, ArePlaced, Grows}
use Rattle.cm_tree.specs.declared.tree.ListKind.{ListKind}
use Rattle.cm_block.specs.Level.{Level, OpenList, block_closes, item_closes, item_opens}
use Rattle.cm_block.specs.Stack.{item_of}
use Rattle.cm_block.specs.declared.level.Level as code_level
use Rattle.cm_block.specs.declared.level.OpenList as code_list
use Rattle.cm_block.specs.declared.stack.Frame as code
use Rattle.cm_block.specs.Frames.{Container, an_item, Frame, Row}
use Rattle.cm_block.specs.steps.FrameSteps.{close_container, is_continued_by}
use Rattle.cm_block.specs.steps.LevelSteps.{goes_on}
use Rattle.cm_block.proofs.lemmas.FrameStartLemmas.{frame}
use Rattle.cm_block.specs.steps.LevelViews.{list_in, level_in, IsListPlaced, IsLevelPlaced}
use Rattle.cm_block.specs.steps.FrameViews.{container_of, frame_in, frames_in, AreFramesPlaced}
use Rattle.cm_block.proofs.lemmas.LevelViewLemmas.{level-grows, level-placed-grows, frames-grow, frames-placed-grow, frames-append, frames-before, frames-beyond}
use Rattle.cm_block.specs.steps.FrontViews.{level_after, frames_after, innermost}
use Rattle.cm_block.proofs.lemmas.FrontLemmas.{last-taken, frames-push, inner-pushed, inner-does, inner-closes, inner-item-closes, inner-list, item-opens-beyond, item-closes, next-opens}
use Rattle.cm_block.proofs.lemmas.Matching.{frames_last}

module _ (front : List Block) (a b : Raw) (frames before : List code.Frame) (frame : code.Frame) (level : code_level.Level) (taken : frames ≡ before ++ frame ∷ []) (outside : level ≡ frame.level)
    (placed : AreFramesPlaced a frames) (grows : Grows a b) where
  apart : AreFramesPlaced a before × IsLevelPlaced a frame.level
  apart =
      let all = subst (AreFramesPlaced a) taken placed in
      (frames-before a before (frame ∷ []) all, (frames-beyond a before (frame ∷ []) all).0)

  pub taken-placed : AreFramesPlaced b before × IsLevelPlaced b level
  taken-placed = (frames-placed-grow a b before grows apart.0, subst (IsLevelPlaced b) (sym outside) (level-placed-grows a b frame.level grows apart.1))

  -- what the others and the last are
  pub taken-is : (now outer : List Frame) (last : Frame) → frames_after front (frames_in a frames) ≡ now → now ≡ outer ++ last ∷ []
      → (frames_after front (frames_in b before) ≡ outer) × ((innermost front (frames_in b before) (level_in b level) ≡ last.level) × (container_of frame.container ≡ last.container))
  taken-is now outer last is all =
      let same = last-taken front (frames_in a before) outer (frame_in a frame) last (ap (frames_after front) (sym (frames_last a before frame) ∙ ap (frames_in a) (sym taken)) ∙ is ∙ all) in
      let still = frames-grow a b before grows apart.0 in (
        ap (frames_after front) still ∙ same.0,
        (ap₂ (innermost front) still (ap (level_in b) outside ∙ level-grows a b frame.level grows apart.1) ∙ same.1.0, same.1.1),
      )

  -- the level inside, which is closed with a frame still there
  pub inside-is : (inner : Level) → innermost front (frames_in a frames) inner ≡ inner
  inside-is inner = ap (λ fs. innermost front fs inner) (ap (frames_in a) taken ∙ frames_last a before frame) ∙ inner-pushed front (frames_in a before) (frame_in a frame) inner

-- more is there

module _ (front : List Block) (a b : Raw) (frames : List code.Frame) (level : code_level.Level) (grows : Grows a b) (placed : AreFramesPlaced a frames × IsLevelPlaced a level) where
  pub still-placed : AreFramesPlaced b frames × IsLevelPlaced b level
  still-placed = (frames-placed-grow a b frames grows placed.0, level-placed-grows a b level grows placed.1)

  pub same-frames : (now : List Frame) → frames_after front (frames_in a frames) ≡ now → frames_after front (frames_in b frames) ≡ now
  same-frames now is = ap (frames_after front) (frames-grow a b frames grows placed.0) ∙ is

  -- a block that was opened is put
  pub block-put : (now : code_level.Level) (block : RawBlock) (before : Level) (made : Block) → innermost front (frames_in a frames) (level_in a level) ≡ before → block_in b block ≡ made
      → level_in b now ≡ block_closes (level_in b level) (block_in b block) → innermost front (frames_in b frames) (level_in b now) ≡ block_closes before made
  block-put now block before made is block_is closed =
      ap₂ (innermost front) (frames-grow a b frames grows placed.0) (closed ∙ ap₂ block_closes (level-grows a b level grows placed.1) block_is)
      ∙ inner-closes front made (frames_in a frames) (level_in a level)
      ∙ ap (λ l. block_closes l made) is

  -- something is done in the innermost level
  pub inner-done : (now : code_level.Level) (before : Level) (does : Level → Level) → ((l : Level) → does (level_after front l) ≡ level_after front (does l))
      → innermost front (frames_in a frames) (level_in a level) ≡ before → level_in b now ≡ does (level_in a level) → innermost front (frames_in b frames) (level_in b now) ≡ does before
  inner-done now before does same is done =
      ap₂ (innermost front) (frames-grow a b frames grows placed.0) done ∙ inner-does front does same (frames_in a frames) (level_in a level) ∙ ap does is

  -- a container is opened in a level
  pub frames-open : (now opened : List Frame) (inner outside : Level) (container : Container) → frames_after front (frames_in a frames) ≡ now → inner ≡ outside
      → opened ≡ frames_after front (frames_in b frames) ++ frame inner container ∷ [] → opened ≡ now ++ frame outside container ∷ []
  frames-open now opened inner outside container is level_is all = all ∙ ap₂ (λ fs v. fs ++ frame v container ∷ []) (same-frames now is) level_is

-- one more frame
pub one-more-frame : (raw : Raw) (before after : List code.Frame) (last : code.Frame) → after ≡ before ++ last ∷ []
    → AreFramesPlaced raw before → IsLevelPlaced raw last.level → AreFramesPlaced raw after
one-more-frame raw before after last is placed outside = subst (AreFramesPlaced raw) (sym is) (frames-append raw before (last ∷ []) placed (outside, tt))

-- the last of these frames, and another in its place
module _ (frames : List code.Frame) (n : ℕ) (last : code.Frame) (long : n ≡ length frames) (some : 0 < n) where
  pub last-is : last ≡ slice_index_or frames (n - 1) last → frames ≡ take (n - 1) frames ++ last ∷ []
  last-is is =
      let all : n ≡ n - 1 + 1 = omega (arith, some) in
      sym (take_all n frames (omega (arith, long))) ∙ ap (λ k. take k frames) all ∙ take_more frames (n - 1) last (omega (arith, long, some))
      ∙ ap (λ f. take (n - 1) frames ++ f ∷ []) (sym is)

  pub last-set : slice_set frames (n - 1) last ≡ take (n - 1) frames ++ last ∷ []
  last-set =
      let all : n ≡ n - 1 + 1 = omega (arith, some) in
      let after = slice_set frames (n - 1) last in
      sym (take_all n after (omega (arith, length-set frames (n - 1) last, long))) ∙ ap (λ k. take k after) all ∙ take_more_set frames (n - 1) last (omega (arith, long, some))

-- another item is in the place of the last
module _ (front : List Block) (a b : Raw) (frames before after : List code.Frame) (old next : code.Frame) (taken : frames ≡ before ++ old ∷ []) (replaced : after ≡ before ++ next ∷ [])
    (placed : AreFramesPlaced a frames) (grows : Grows a b) where
  pub next-placed : IsLevelPlaced b next.level → AreFramesPlaced b after
  next-placed stands = one-more-frame b before after next replaced (taken-placed front a b frames before old old.level taken refl placed grows).0 stands

  pub inside-next : (inner : Level) → innermost front (frames_in b after) inner ≡ inner
  inside-next inner = ap (λ fs. innermost front fs inner) (ap (frames_in b) replaced ∙ frames_last b before next) ∙ inner-pushed front (frames_in b before) (frame_in b next) inner

  pub next-is : (kind : ListKind) (column : ℕ) (inside : Level) → is_continued_by kind (container_of old.container) (level_in a old.level) ≡ true
      → level_in b next.level ≡ goes_on (item_closes (level_in a old.level) (item_of inside)) → container_of next.container ≡ an_item kind column
      → (now outer : List Frame) (last : Frame) → frames_after front (frames_in a frames) ≡ now → now ≡ outer ++ last ∷ []
      → frames_after front (frames_in b after) ≡ outer ++ frame (item_opens (close_container last.container last.level inside) kind) (an_item kind column) ∷ []
  next-is kind column inside continued level_is container_is now outer last is all =
      let same = taken-is front a b frames before old old.level taken refl placed grows now outer last is all in
      let grown = level-grows a b old.level grows (apart front a b frames before old old.level taken refl placed grows).1 in
      let still = frames_in b before in
      let item = item_of inside in
      ap (λ fs. frames_after front (frames_in b fs)) replaced
      ∙ ap (frames_after front) (frames_last b before next)
      ∙ frames-push front still (level_in b next.level) (container_of next.container)
      ∙ ap₂ (λ fs f. fs ++ f ∷ []) same.0
      (ap₂ frame
      (ap (innermost front still) (level_is ∙ next-opens kind (container_of old.container) (level_in a old.level) item continued ∙ ap (λ v. item_opens (item_closes v item) kind) (sym grown))
      ∙ inner-does front (λ v. item_opens v kind) (item-opens-beyond front kind) still (item_closes (level_in b old.level) item)
      ∙ ap (λ v. item_opens v kind)
      (inner-item-closes front item still (level_in b old.level)
      ∙ ap (λ v. item_closes v item) same.1.0
      ∙ item-closes kind (container_of old.container) (level_in a old.level) last.level inside continued
      ∙ ap (λ c. close_container c last.level inside) same.1.1))
      container_is)

-- ---- all that is there becomes a chunk

pub no-frames : (raw : Raw) (front : List Block) (frames : List code.Frame) → frames_after front (frames_in raw frames) ≡ [] → frames ≡ []
no-frames raw front [] none = refl
no-frames raw front (frame ∷ frames) none = absurd (omega (arith, ap length none))

no-list-in : (raw : Raw) (list : Option code_list.OpenList) → option_map (list_in raw) list ≡ None → list ≡ None
no-list-in raw None none = refl
no-list-in raw (Some list) none = cc

pub no-list : (raw : Raw) (front : List Block) (frames : List code.Frame) (level : code_level.Level) → (innermost front (frames_in raw frames) (level_in raw level)).open_list ≡ None → level.open_list ≡ None
no-list raw front frames level none = no-list-in raw level.open_list (sym (inner-list front (frames_in raw frames) (level_in raw level)) ∙ none)

-- nothing that is made of what was there is left
pub none-placed : (raw : Raw) (frames : List code.Frame) (now : code_level.Level) → frames ≡ [] → now.open_list ≡ None → now.blocks.items ≡ [] → AreFramesPlaced raw frames × IsLevelPlaced raw now
none-placed raw frames now no_frames no_open empty =
    (subst (AreFramesPlaced raw) (sym no_frames) tt, record { blocks = subst (ArePlaced raw) (sym empty) tt; open_list = subst (IsListPlaced raw) (sym no_open) tt })

-- what is placed stays so where only memory is given back
pub shrunk-placed : (a b : Raw) (frames : List code.Frame) (level now : code_level.Level) → b ≡ a → now.blocks.items ≡ level.blocks.items → now.open_list ≡ level.open_list
    → AreFramesPlaced a frames × IsLevelPlaced a level → AreFramesPlaced b frames × IsLevelPlaced b now
shrunk-placed a b frames level now same same_blocks same_list placed = (
  subst (λ raw. AreFramesPlaced raw frames) (sym same) placed.0,
  record {
    blocks = subst (ArePlaced b) (sym same_blocks) (subst (λ raw. ArePlaced raw level.blocks.items) (sym same) placed.1.blocks);
    open_list = subst (IsListPlaced b) (sym same_list) (subst (λ raw. IsListPlaced raw level.open_list) (sym same) placed.1.open_list);
  },
)

abbrev row : Bool → List Frame → Level → Row
row bare frames level = record { frames = frames; bare = bare; level = level }

abbrev with_both : Level → List Block → Option OpenList → Level
with_both level blocks list = record { blocks = blocks; open_list = list; has_block = level.has_block; ends_blank = level.ends_blank; separated = level.separated }

abbrev marked : List Block → Option OpenList → Bool → Bool → Bool → Level
marked blocks list has ends separated = record { blocks = blocks; open_list = list; has_block = has; ends_blank = ends; separated = separated }

abbrev row_in : Raw → List Block → List code.Frame → Bool → code_level.Level → Row
row_in raw front frames bare level = row bare (frames_after front (frames_in raw frames)) (innermost front (frames_in raw frames) (level_in raw level))

pub finished : (a b : Raw) (front more : List Block) (frames : List code.Frame) (bare : Bool) (level now : code_level.Level) → frames ≡ [] → level.open_list ≡ None
    → now.open_list ≡ level.open_list → now.has_block ≡ level.has_block → now.ends_blank ≡ level.ends_blank → now.separated ≡ level.separated
    → now.blocks.items ≡ [] → more ≡ front ++ blocks_in a level.blocks.items → row_in b more frames bare now ≡ row_in a front frames bare level
finished a b front more frames bare level now none no_list same_list same_has same_ends same_separated empty is =
    let list : option_map (list_in b) now.open_list ≡ option_map (list_in a) level.open_list =
    ap (option_map (list_in b)) (same_list ∙ no_list) ∙ sym (ap (option_map (list_in a)) no_list) in
    let blocks : more ++ blocks_in b now.blocks.items ≡ front ++ blocks_in a level.blocks.items =
    ap (λ bs. more ++ blocks_in b bs) empty ∙ append-nil more ∙ is in
    let marks : level_after more (level_in b now) ≡ with_both (level_in a level) (more ++ blocks_in b now.blocks.items) (option_map (list_in b) now.open_list) =
    ap₂ (λ h e. marked (more ++ blocks_in b now.blocks.items) (option_map (list_in b) now.open_list) h e now.separated) same_has same_ends
    ∙ ap (marked (more ++ blocks_in b now.blocks.items) (option_map (list_in b) now.open_list) level.has_block level.ends_blank) same_separated in
    ap₂ (row bare)
    (ap (λ fs. frames_after more (frames_in b fs)) none ∙ sym (ap (λ fs. frames_after front (frames_in a fs)) none))
    (ap (λ fs. innermost more (frames_in b fs) (level_in b now)) none
    ∙ marks
    ∙ ap₂ (with_both (level_in a level)) blocks list
    ∙ sym (ap (λ fs. innermost front (frames_in a fs) (level_in a level)) none))
