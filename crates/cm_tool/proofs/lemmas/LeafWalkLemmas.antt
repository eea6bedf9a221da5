-- A walk over blocks by places, and over those of chunks: what is left, and how deep its leaves nest.
use Rattle.std.proofs.Common.{◌≡◌, ◌∙◌, ◌≤◌, ◌<◌, ◌+◌, ◌-◌, ℕ, Bool, List, [], ◌∷◌, ◌++◌, length, get_or, take, drop, sym, ap, subst, arith}
use Rattle.std.specs.List.{slice_range}
use Rattle.cm_tree.specs.Depth.{blocks_depth, depth_of_block}
use Rattle.cm_tree.specs.steps.ItemSteps.{items_depth}
use Rattle.cm_tree.specs.declared.tree.Block.{Block}
use Rattle.cm_tree.specs.declared.raw_blocks.RawBlock.{RawBlock}
use Rattle.cm_tree.specs.declared.raw_blocks.RawBlock.TheVariants as raw_block
use Rattle.cm_tree.specs.declared.raw_blocks.RawItem.{RawItem}
use Rattle.cm_tree.specs.RawBlocks.{Raw, block_in, blocks_in, item_in}
use Rattle.cm_tree.specs.RawTrees.{all_blocks}
use Rattle.cm_tree.specs.declared.tree.ListKind.{ListKind}
use Rattle.cm_tree.proofs.lemmas.RawWalks.{there-first, block_depth, item_depth}
use Rattle.cm_text.specs.Limits.{LimitsView}
use Rattle.cm_scan.specs.inlines.Brackets.{defined_in}
use Rattle.std.specs.Prelude.{Option, option_map, option_to_list, None, Some, Result, IfOk, IfErr, OnOk}
use Rattle.std.proofs.lemmas.Result.{IfErr-weaker, IfOk-weaker}
use Rattle.cm_tool.specs.declared.fault.Fault.{Fault}
use Rattle.cm_tool.specs.declared.fault.Fault.TheVariants.{InlinesTooDeep}
use Rattle.cm_inline.specs.declared.reading.InlineReader.{InlineReader}
use Rattle.cm_tool.specs.declared.outlines.leaf_walk.LeafWalk.{LeafWalk}
use Rattle.cm_tool.specs.declared.outlines.leaf_walk.Unread.{Unread}
use Rattle.cm_tool.specs.Leaves.{depths_in, first_leaf_past, first_past, leaf_depths}
use Rattle.cm_tool.specs.Parsing.{TellsFault}
use Rattle.cm_tool.specs.steps.Items.{items_leaf_depths, items_read}
use Rattle.cm_tool.specs.steps.LeafWalks.{all_read, block_read_of, blocks_read_at, items_read_at, all_left, ArePlacedLeft, HasRead, HasReadAll, HasReadSome, TellsOf}
use Rattle.cm_tool.specs.steps.Numbering.{Left, Passes, TellsLeaf}
use Rattle.cm_tool.proofs.lemmas.RawWalkLemmas.{left_next, left_told, left_none, first_told, none_past, quote_depths, list_depths}

-- ---- a walk that has read some leaves of the whole, so that the rest is left

abbrev pub Reads : (first now : LeafWalk) → (whole rest : List ℕ) → Type 0
Reads first now whole rest = (now.unread ≡ first.unread) × Left first.unread.limits.inlines first.next now.next whole rest

module _ (first now : LeafWalk) (whole some rest all : List ℕ) (is : all ≡ some ++ rest) (so_far : Reads first now whole all) where
  pub reads_next : (after : LeafWalk) → HasRead now after some → Reads first after whole rest
  reads_next after has = (
    has.0 ∙ so_far.0,
    left_next first.unread.limits.inlines first.next now.next after.next whole some rest
        (subst (Left first.unread.limits.inlines first.next now.next whole) is so_far.1)
        (subst (λ unread. Passes unread.limits.inlines now.next after.next some) so_far.0 has.1),
  )

  pub reads_told : (fault : Fault) → TellsOf now fault some → TellsOf first fault whole
  reads_told fault told =
      left_told first.unread.limits.inlines fault first.next now.next whole some rest
      (subst (Left first.unread.limits.inlines first.next now.next whole) is so_far.1)
      (subst (λ unread. TellsLeaf fault unread.limits.inlines now.next some) so_far.0 told)

pub reads_none : (first now : LeafWalk) (whole rest : List ℕ) → rest ≡ [] → Reads first now whole rest → HasRead first now whole
reads_none first now whole rest none so_far = (so_far.0, left_none first.unread.limits.inlines first.next now.next whole rest none so_far.1)

-- ---- a walk that starts with the first leaf

module _ (walk : LeafWalk) (limits : LimitsView) (blocks : List Block) (first : walk.next ≡ 1) (same : walk.unread.limits ≡ limits) (is : all_left walk.unread ≡ blocks) where
  pub begun_told : (fault : Fault) → TellsOf walk fault (leaf_depths (all_left walk.unread)) → TellsFault fault (option_map InlinesTooDeep (first_leaf_past limits.inlines blocks))
  begun_told fault told =
      first_told limits.inlines fault (leaf_depths blocks)
      (subst (λ (l : LimitsView). TellsLeaf fault l.inlines 1 (leaf_depths blocks)) same
      (subst (λ n. TellsLeaf fault walk.unread.limits.inlines n (leaf_depths blocks)) first
      (subst (λ blocks. TellsLeaf fault walk.unread.limits.inlines walk.next (leaf_depths blocks)) is told)))

  pub begun_within : (after : ℕ) → Passes walk.unread.limits.inlines walk.next after (leaf_depths (all_left walk.unread)) → first_leaf_past limits.inlines blocks ≡ None
  begun_within after passes =
      none_past limits.inlines after (leaf_depths blocks)
      (subst (λ (l : LimitsView). Passes l.inlines 1 after (leaf_depths blocks)) same
      (subst (λ n. Passes walk.unread.limits.inlines n after (leaf_depths blocks)) first
      (subst (λ blocks. Passes walk.unread.limits.inlines walk.next after (leaf_depths blocks)) is passes)))

  -- what a call that walks over all of them says
  module _ {A : Type 0} (r : Result A Fault) where
    pub walk_told : IfErr r (λ fault. TellsOf walk fault (leaf_depths (all_left walk.unread))) → IfErr r (λ fault. TellsFault fault (option_map InlinesTooDeep (first_leaf_past limits.inlines blocks)))
    walk_told = IfErr-weaker r _ _ begun_told

    pub walk_within : (now : LeafWalk) → OnOk r (HasReadAll walk now) → IfOk r (λ _. first_leaf_past limits.inlines blocks ≡ None)
    walk_within now = IfOk-weaker r _ _ (λ _ passes. begun_within now.next passes)

-- ---- what is at a place

pub none_there : {A B : Type 0} (f : List A → List B) (xs : List A) (at to : ℕ) → to ≤ at → f (slice_range xs at to) ≡ f []
none_there f xs at to past = let gap : to - at ≡ 0 = omega (arith, past) in ap (λ n. f (take n (drop at xs))) gap

module _ (first now : LeafWalk) (from at to : ℕ) (same : now.unread ≡ first.unread) (begins : from ≤ at) (less : at < to) where
  module _ (block : RawBlock) (ends : to ≤ length first.unread.raw.blocks) (is : block_in now.unread.raw block ≡ get_or now.unread.raw.blocks at (block_in now.unread.raw block)) where
    there : block_in first.unread.raw block ≡ get_or first.unread.raw.blocks at (block_in first.unread.raw block)
    there = subst (λ unread. block_in unread.raw block ≡ get_or unread.raw.blocks at (block_in unread.raw block)) same is

    pub blocks_first : blocks_read_at first.unread at to ≡ block_read_of now.unread block ∷ blocks_read_at first.unread (at + 1) to
    blocks_first =
        ap (all_read first.unread) (there-first first.unread.raw.blocks from at to (block_in first.unread.raw block) begins less ends there)
        ∙ ap (λ unread. block_read_of unread block ∷ blocks_read_at first.unread (at + 1) to) (sym same)

    pub less_deep : depth_of_block (block_in now.unread.raw block) ≤ blocks_depth (slice_range first.unread.raw.blocks from to)
    less_deep =
        subst (λ unread. depth_of_block (block_in unread.raw block) ≤ blocks_depth (slice_range first.unread.raw.blocks from to)) (sym same)
        (block_depth from at to begins less first.unread.raw.blocks (block_in first.unread.raw block) ends there)

  module _ (item : RawItem) (ends : to ≤ length first.unread.raw.items) (is : item_in now.unread.raw item ≡ get_or now.unread.raw.items at (item_in now.unread.raw item)) where
    item_there : item_in first.unread.raw item ≡ get_or first.unread.raw.items at (item_in first.unread.raw item)
    item_there = subst (λ unread. item_in unread.raw item ≡ get_or unread.raw.items at (item_in unread.raw item)) same is

    pub items_first : items_read_at first.unread at to ≡ blocks_read_at now.unread item.from item.to ∷ items_read_at first.unread (at + 1) to
    items_first =
        ap (items_read first.unread.limits.rules (defined_in first.unread.definitions)) (there-first first.unread.raw.items from at to (item_in first.unread.raw item) begins less ends item_there)
        ∙ ap (λ unread. blocks_read_at unread item.from item.to ∷ items_read_at first.unread (at + 1) to) (sym same)

    pub item_less_deep : blocks_depth (item_in now.unread.raw item) < items_depth (slice_range first.unread.raw.items from to)
    item_less_deep =
        subst (λ unread. blocks_depth (item_in unread.raw item) < items_depth (slice_range first.unread.raw.items from to)) (sym same)
        (item_depth from at to begins less first.unread.raw.items (item_in first.unread.raw item) ends item_there)

-- ---- one more block, or item, of those between two places: its leaves come after those that have been read

module _ (first now : LeafWalk) (from at to : ℕ) (begins : from ≤ at) (less : at < to) where
  module _ (so_far : Reads first now (leaf_depths (blocks_read_at first.unread from to)) (leaf_depths (blocks_read_at first.unread at to)))
      (block : RawBlock) (ends : to ≤ length first.unread.raw.blocks) (is : block_in now.unread.raw block ≡ get_or now.unread.raw.blocks at (block_in now.unread.raw block)) where
    next_block : leaf_depths (blocks_read_at first.unread at to) ≡ depths_in (block_read_of now.unread block) ++ leaf_depths (blocks_read_at first.unread (at + 1) to)
    next_block = ap leaf_depths (blocks_first first now from at to so_far.0 begins less block ends is)

    pub block_told : (fault : Fault) → TellsOf now fault (depths_in (block_read_of now.unread block)) → TellsOf first fault (leaf_depths (blocks_read_at first.unread from to))
    block_told = reads_told first now (leaf_depths (blocks_read_at first.unread from to)) (depths_in (block_read_of now.unread block))
        (leaf_depths (blocks_read_at first.unread (at + 1) to)) (leaf_depths (blocks_read_at first.unread at to)) next_block so_far

    pub block_next : (after : LeafWalk) → HasRead now after (depths_in (block_read_of now.unread block))
        → Reads first after (leaf_depths (blocks_read_at first.unread from to)) (leaf_depths (blocks_read_at first.unread (at + 1) to))
    block_next = reads_next first now (leaf_depths (blocks_read_at first.unread from to)) (depths_in (block_read_of now.unread block))
        (leaf_depths (blocks_read_at first.unread (at + 1) to)) (leaf_depths (blocks_read_at first.unread at to)) next_block so_far

  module _ (so_far : Reads first now (items_leaf_depths (items_read_at first.unread from to)) (items_leaf_depths (items_read_at first.unread at to)))
      (item : RawItem) (ends : to ≤ length first.unread.raw.items) (is : item_in now.unread.raw item ≡ get_or now.unread.raw.items at (item_in now.unread.raw item)) where
    next_item : items_leaf_depths (items_read_at first.unread at to)
        ≡ leaf_depths (blocks_read_at now.unread item.from item.to) ++ items_leaf_depths (items_read_at first.unread (at + 1) to)
    next_item = ap items_leaf_depths (items_first first now from at to so_far.0 begins less item ends is)

    pub item_told : (fault : Fault) → TellsOf now fault (leaf_depths (blocks_read_at now.unread item.from item.to))
        → TellsOf first fault (items_leaf_depths (items_read_at first.unread from to))
    item_told = reads_told first now (items_leaf_depths (items_read_at first.unread from to)) (leaf_depths (blocks_read_at now.unread item.from item.to))
        (items_leaf_depths (items_read_at first.unread (at + 1) to)) (items_leaf_depths (items_read_at first.unread at to)) next_item so_far

    pub item_next : (after : LeafWalk) → HasRead now after (leaf_depths (blocks_read_at now.unread item.from item.to))
        → Reads first after (items_leaf_depths (items_read_at first.unread from to)) (items_leaf_depths (items_read_at first.unread (at + 1) to))
    item_next = reads_next first now (items_leaf_depths (items_read_at first.unread from to)) (leaf_depths (blocks_read_at now.unread item.from item.to))
        (items_leaf_depths (items_read_at first.unread (at + 1) to)) (items_leaf_depths (items_read_at first.unread at to)) next_item so_far

-- ---- how deep the leaves of a block nest

module _ (unread : Unread) (block : RawBlock) where
  pub quote_leaves : (from to : ℕ) → block ≡ raw_block.Quote from to → depths_in (block_read_of unread block) ≡ leaf_depths (blocks_read_at unread from to)
  quote_leaves from to is =
      ap (λ b. depths_in (block_read_of unread b)) is
      ∙ quote_depths unread.limits.rules (defined_in unread.definitions) (slice_range unread.raw.blocks from to)

  pub list_leaves : (kind : ListKind) (tight : Bool) (from to : ℕ) → block ≡ raw_block.List tight kind from to
      → depths_in (block_read_of unread block) ≡ items_leaf_depths (items_read_at unread from to)
  list_leaves kind tight from to is =
      ap (λ b. depths_in (block_read_of unread b)) is
      ∙ list_depths unread.limits.rules (defined_in unread.definitions) kind tight (slice_range unread.raw.items from to)

-- ---- the blocks at the top level

-- a chunk is freed, and the next one taken
pub next_chunk : (raw now : Raw) (top held : List RawBlock) (chunks later : List (List Block)) (chunk : List Block) → top ≡ [] → chunks ≡ chunk ∷ later → blocks_in now held ≡ chunk
    → blocks_in now held ++ all_blocks later ≡ blocks_in raw top ++ all_blocks chunks
next_chunk raw now top held chunks later chunk none taken is =
    ap (λ blocks. blocks ++ all_blocks later) is ∙ sym (ap (λ blocks. blocks_in raw blocks ++ all_blocks chunks) none ∙ ap all_blocks taken)

-- one block is read
module _ (now : LeafWalk) (unread : Unread) (block : RawBlock) (limits : unread.limits ≡ now.unread.limits) (is : all_left now.unread ≡ block_read_of unread block ∷ all_left unread) where
  abbrev pub some : List ℕ
  some = depths_in (block_read_of unread block)

  abbrev pub rest : List ℕ
  rest = leaf_depths (all_left unread)

  left : Left now.unread.limits.inlines now.next now.next (leaf_depths (all_left now.unread)) (some ++ rest)
  left = λ more. ap (λ blocks. first_past now.unread.limits.inlines now.next (leaf_depths blocks ++ more)) is

  pub one_read : (after : LeafWalk) → ArePlacedLeft unread → after.unread ≡ unread → Passes unread.limits.inlines now.next after.next some → HasReadSome now after
  one_read after placed same passes = record {
    limits = ap (λ unread. unread.limits) same ∙ limits;
    placed = subst ArePlacedLeft (sym same) placed;
    leaves = subst (λ unread. Left now.unread.limits.inlines now.next after.next (leaf_depths (all_left now.unread)) (leaf_depths (all_left unread))) (sym same)
        (left_next now.unread.limits.inlines now.next now.next after.next (leaf_depths (all_left now.unread)) some rest left
        (subst (λ limits. Passes limits.inlines now.next after.next some) limits passes));
  }

  pub one_told : (fault : Fault) → TellsLeaf fault unread.limits.inlines now.next some → TellsOf now fault (leaf_depths (all_left now.unread))
  one_told fault told =
      left_told now.unread.limits.inlines fault now.next now.next (leaf_depths (all_left now.unread)) some rest left
      (subst (λ limits. TellsLeaf fault limits.inlines now.next some) limits told)

-- a block that is taken is the first of those that were left
pub first_left : {next : Option Block} {block : Block} {left rest : List Block} → left ≡ option_to_list next ++ rest → next ≡ Some block → left ≡ block ∷ rest
first_left {rest = rest} left is = left ∙ ap (λ n. option_to_list n ++ rest) is

-- one call after another
module _ (first now : LeafWalk) (so_far : HasReadSome first now) where
  pub then_read : (after : LeafWalk) → HasReadSome now after → HasReadSome first after
  then_read after more = record {
    limits = more.limits ∙ so_far.limits;
    placed = more.placed;
    leaves = λ others. so_far.leaves others
        ∙ subst (λ limits. Left limits.inlines now.next after.next (leaf_depths (all_left now.unread)) (leaf_depths (all_left after.unread))) so_far.limits more.leaves others;
  }

  pub then_told : (fault : Fault) → TellsOf now fault (leaf_depths (all_left now.unread)) → TellsOf first fault (leaf_depths (all_left first.unread))
  then_told fault told more =
      subst (λ leaf. TellsFault fault (option_map InlinesTooDeep leaf)) (sym (so_far.leaves more))
      (subst (λ limits. TellsLeaf fault limits.inlines now.next (leaf_depths (all_left now.unread))) so_far.limits told more)

-- with another reader, which nothing of that mentions
pub with_reader : {first now : LeafWalk} (reader : InlineReader) → HasReadSome first now → HasReadSome first (record now { reader = reader })
with_reader reader has = record { limits = has.limits; placed = has.placed; leaves = has.leaves }

pub nothing_left : (first now : LeafWalk) → all_left now.unread ≡ [] → HasReadSome first now → HasReadAll first now
nothing_left first now none so_far =
    left_none first.unread.limits.inlines first.next now.next (leaf_depths (all_left first.unread)) (leaf_depths (all_left now.unread)) (ap leaf_depths none) so_far.leaves
