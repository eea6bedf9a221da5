-- How what blocks stand for grows, and what the blocks come to that are held.
use Rattle.std.proofs.Common.{◌≡◌, ℕ, zero, suc, ◌-◌, ◌≤◌, ◌<◌, get_or, List, [], ◌∷◌, ◌++◌, length, map, take, drop, refl, sym, ap, subst, ◌∙◌, inl, inr, arith, append_assoc}
use Rattle.std.specs.List.{slice_range}
use Rattle.std.specs.Str.{IsCharBoundary, IsUtf8}
use Rattle.std.proofs.lemmas.Bool.{cases_lt}
use Rattle.std.proofs.lemmas.List.{append-nil, length-append, length-drop, length-map, get_or-map, map-append, take-map, drop-map, take_all, drop_at, drop-append-le, take-append-le, get_or_append_left}
use Rattle.std.proofs.lemmas.Str.{IsUtf8-nil, IsUtf8-append, IsCharBoundary-at_seam, IsCharBoundary-end}
use Rattle.cm_tree.specs.declared.raw_blocks.RawBlock.{RawBlock}
use Rattle.cm_tree.specs.declared.raw_blocks.RawBlock.TheVariants as raw_block
use Rattle.cm_tree.specs.declared.raw_blocks.RawItem.{RawItem}
use Rattle.cm_tree.specs.declared.tree.Block.{Block}
use Rattle.cm_tree.specs.declared.tree.Block.TheVariants as trees
use Rattle.cm_tree.specs.RawBlocks.{Raw, raw_inlines, block_in, blocks_in, item_in, items_in, IsBetween, IsRange, IsPlaced, ArePlaced, IsItem, AreItems, Grows}
use Rattle.cm_tree.specs.steps.RawSteps.{items_of, raw_of, made_after, made_of, raw_held, IsMade, AreMade, IsHeld}

-- parts of lists

pub slice-same : {A : Type 0} (xs more ys : List A) (from to : ℕ) → ys ≡ xs ++ more → from ≤ to → to ≤ length xs → slice_range ys from to ≡ slice_range xs from to
slice-same xs more ys from to is order within =
    ap (λ zs. slice_range zs from to) is
    ∙ ap (take (to - from)) (drop-append-le from xs more (omega (arith, order, within)))
    ∙ take-append-le (to - from) (drop from xs) more (omega (arith, order, within, length-drop from xs))

pub slice-last : {A : Type 0} (xs more ys : List A) (from to : ℕ) → ys ≡ xs ++ more → from ≡ length xs → to ≡ length ys → slice_range ys from to ≡ more
slice-last xs more ys from to is begins ends =
    ap (λ zs. slice_range zs from to) is
    ∙ ap (take (to - from)) (drop_at xs more from (sym begins))
    ∙ take_all (to - from) more (omega (arith, begins, ends, ap length is, length-append xs more))

slice-map : {A B : Type 0} (f : A → B) (xs : List A) (from to : ℕ) → slice_range (map f xs) from to ≡ map f (slice_range xs from to)
slice-map f xs from to = ap (take (to - from)) (drop-map f from xs) ∙ take-map f (to - from) (drop from xs)

pub boundary-grows : (text more grown : List ℕ) (at : ℕ) → grown ≡ text ++ more → IsUtf8 more → IsCharBoundary text at → IsCharBoundary grown at
boundary-grows text more grown at is utf8 boundary = elim (cases_lt at (length text)) [
  | inl low ↦ subst (λ g. IsCharBoundary g at) (sym is) (omega (arith, low, length-append text more), λ _ continues. rw (get_or_append_left text more 0 at low) (boundary.1 low (rw (get_or_append_left text more 0 at low) at continues)))
  | inr high ↦ subst (IsCharBoundary grown) (omega (arith, high, boundary.0)) (IsCharBoundary-at_seam grown text more is utf8)
]

-- of no blocks nothing is made
pub nothing-made : (text : List ℕ) (items : List RawItem) (blocks : List RawBlock) → blocks ≡ [] → made_of text items blocks ≡ []
unfolding made_after
nothing-made text items blocks none = ap (made_of text items) none

-- a text after another
pub between-beyond : (text more grown : List ℕ) (from to : ℕ) → grown ≡ text ++ more → IsUtf8 more → from ≡ length text → to ≡ length grown → IsBetween grown from to
between-beyond text more grown from to is utf8 begins ends = (
  omega (arith, begins, ends, ap length is, length-append text more),
  subst (IsCharBoundary grown) (sym begins) (IsCharBoundary-at_seam grown text more is utf8),
  subst (IsCharBoundary grown) (sym ends) (IsCharBoundary-end grown),
)

-- what blocks stand for, where more is there

pub grows-same : (raw : Raw) → Grows raw raw
grows-same raw = record {
  text = [];
  blocks = [];
  items = [];
  utf8 = IsUtf8-nil;
  text_is = sym (append-nil raw.text);
  blocks_are = sym (append-nil raw.blocks);
  items_are = sym (append-nil raw.items);
}

pub grows-more : (a b c : Raw) → Grows a b → Grows b c → Grows a c
grows-more a b c first second = record {
  text = first.text ++ second.text;
  blocks = first.blocks ++ second.blocks;
  items = first.items ++ second.items;
  utf8 = IsUtf8-append first.text second.text first.utf8 second.utf8;
  text_is = second.text_is ∙ ap (λ t. t ++ second.text) first.text_is ∙ append_assoc a.text first.text second.text;
  blocks_are = second.blocks_are ∙ ap (λ t. t ++ second.blocks) first.blocks_are ∙ append_assoc a.blocks first.blocks second.blocks;
  items_are = second.items_are ∙ ap (λ t. t ++ second.items) first.items_are ∙ append_assoc a.items first.items second.items;
}

text-grows : (a b : Raw) (from to : ℕ) → Grows a b → IsBetween a.text from to → slice_range b.text from to ≡ slice_range a.text from to
text-grows a b from to grows between = slice-same a.text grows.text b.text from to grows.text_is between.0 between.2.0

pub between-grows : (a b : Raw) (from to : ℕ) → Grows a b → IsBetween a.text from to → IsBetween b.text from to
between-grows a b from to grows between =
    (between.0, boundary-grows a.text grows.text b.text from grows.text_is grows.utf8 between.1, boundary-grows a.text grows.text b.text to grows.text_is grows.utf8 between.2)

range-grows : {A : Type 0} (xs more ys : List A) (from to : ℕ) → ys ≡ xs ++ more → IsRange (length xs) from to → IsRange (length ys) from to
range-grows xs more ys from to is range = (range.0, omega (arith, range.1, ap length is, length-append xs more))

pub block-grows : (a b : Raw) (block : RawBlock) → Grows a b → IsPlaced a block → block_in b block ≡ block_in a block
block-grows a b (raw_block.Paragraph from to) grows placed = ap (λ t. trees.Paragraph (raw_inlines t)) (text-grows a b from to grows placed)
block-grows a b (raw_block.Heading level from to) grows placed = ap (λ t. trees.Heading level (raw_inlines t)) (text-grows a b from to grows placed)
block-grows a b (raw_block.Code info text to) grows placed =
    ap (λ t. trees.Code t (slice_range b.text text to)) (text-grows a b info text grows placed.0) ∙ ap (trees.Code (slice_range a.text info text)) (text-grows a b text to grows placed.1)
block-grows a b (raw_block.Html from to) grows placed = ap trees.Html (text-grows a b from to grows placed)
block-grows a b raw_block.Break grows placed = refl
block-grows a b (raw_block.Definition label dest title to) grows placed =
    ap (λ t. trees.Definition t (slice_range b.text dest title) (slice_range b.text title to)) (text-grows a b label dest grows placed.0)
    ∙ ap (λ t. trees.Definition (slice_range a.text label dest) t (slice_range b.text title to)) (text-grows a b dest title grows placed.1)
    ∙ ap (trees.Definition (slice_range a.text label dest) (slice_range a.text dest title)) (text-grows a b title to grows placed.2)
block-grows a b (raw_block.Quote from to) grows placed = ap trees.Quote (slice-same a.blocks grows.blocks b.blocks from to grows.blocks_are placed.0 placed.1)
block-grows a b (raw_block.List tight kind from to) grows placed = ap (trees.List kind tight) (slice-same a.items grows.items b.items from to grows.items_are placed.0 placed.1)

pub placed-grows : (a b : Raw) (block : RawBlock) → Grows a b → IsPlaced a block → IsPlaced b block
placed-grows a b (raw_block.Paragraph from to) grows placed = between-grows a b from to grows placed
placed-grows a b (raw_block.Heading level from to) grows placed = between-grows a b from to grows placed
placed-grows a b (raw_block.Code info text to) grows placed = (between-grows a b info text grows placed.0, between-grows a b text to grows placed.1)
placed-grows a b (raw_block.Html from to) grows placed = between-grows a b from to grows placed
placed-grows a b raw_block.Break grows placed = tt
placed-grows a b (raw_block.Definition label dest title to) grows placed =
    (between-grows a b label dest grows placed.0, between-grows a b dest title grows placed.1, between-grows a b title to grows placed.2)
placed-grows a b (raw_block.Quote from to) grows placed = range-grows a.blocks grows.blocks b.blocks from to grows.blocks_are placed
placed-grows a b (raw_block.List tight kind from to) grows placed = range-grows a.items grows.items b.items from to grows.items_are placed

pub blocks-grow : (a b : Raw) (blocks : List RawBlock) → Grows a b → ArePlaced a blocks → blocks_in b blocks ≡ blocks_in a blocks
blocks-grow a b [] grows placed = refl
blocks-grow a b (block ∷ blocks) grows placed = ap (λ t. t ∷ blocks_in b blocks) (block-grows a b block grows placed.0) ∙ ap (λ ts. block_in a block ∷ ts) (blocks-grow a b blocks grows placed.1)

pub all-placed-grow : (a b : Raw) (blocks : List RawBlock) → Grows a b → ArePlaced a blocks → ArePlaced b blocks
all-placed-grow a b [] grows placed = tt
all-placed-grow a b (block ∷ blocks) grows placed = (placed-grows a b block grows placed.0, all-placed-grow a b blocks grows placed.1)

pub is_item-grows : (a b : Raw) (item : RawItem) → Grows a b → IsItem a item → IsItem b item
is_item-grows a b item grows is = range-grows a.blocks grows.blocks b.blocks item.from item.to grows.blocks_are is

-- items, where more was made
items-further : (a : Raw) (made beyond : List Block) (items : List RawItem) → made ≡ a.blocks ++ beyond → AreItems a items → items_of made items ≡ items_in a items
items-further a made beyond [] further are = refl
items-further a made beyond (item ∷ items) further are =
    ap (λ t. t ∷ items_of made items) (slice-same a.blocks beyond made item.from item.to further are.0.0 are.0.1) ∙ ap (λ ts. item_in a item ∷ ts) (items-further a made beyond items further are.1)

pub items-grow : (a b : Raw) (items : List RawItem) → Grows a b → AreItems a items → items_in b items ≡ items_in a items
items-grow a b items grows are = items-further a b.blocks grows.blocks items grows.blocks_are are

pub are_items-grow : (a b : Raw) (items : List RawItem) → Grows a b → AreItems a items → AreItems b items
are_items-grow a b [] grows are = tt
are_items-grow a b (item ∷ items) grows are = (is_item-grows a b item grows are.0, are_items-grow a b items grows are.1)

pub placed-append : (raw : Raw) (xs ys : List RawBlock) → ArePlaced raw xs → ArePlaced raw ys → ArePlaced raw (xs ++ ys)
placed-append raw [] ys first second = second
placed-append raw (block ∷ xs) ys first second = (first.0, placed-append raw xs ys first.1 second)

pub items-append : (raw : Raw) (xs ys : List RawItem) → AreItems raw xs → AreItems raw ys → AreItems raw (xs ++ ys)
items-append raw [] ys first second = second
items-append raw (item ∷ xs) ys first second = (first.0, items-append raw xs ys first.1 second)

-- one of those that are there

placed-at : (raw : Raw) (blocks : List RawBlock) (at : ℕ) (d : RawBlock) → at < length blocks → ArePlaced raw blocks → IsPlaced raw (get_or blocks at d)
placed-at raw [] at d within placed = absurd (omega (arith, within))
placed-at raw (block ∷ blocks) zero d within placed = placed.0
placed-at raw (block ∷ blocks) (suc at) d within placed = placed-at raw blocks at d (omega (arith, within)) placed.1

item-at : (raw : Raw) (items : List RawItem) (at : ℕ) (d : RawItem) → at < length items → AreItems raw items → IsItem raw (get_or items at d)
item-at raw [] at d within are = absurd (omega (arith, within))
item-at raw (item ∷ items) zero d within are = are.0
item-at raw (item ∷ items) (suc at) d within are = item-at raw items at d (omega (arith, within)) are.1

-- what is held, where more is there

listed-more : (items others all first later : List RawItem) → all ≡ items ++ others → items ≡ first ++ later → all ≡ first ++ (later ++ others)
listed-more items others all first later listed is = listed ∙ ap (λ t. t ++ others) is ∙ append_assoc first later others

-- as long as the first items are of what was made
raw-grows : (text more new : List ℕ) (first others items : List RawItem) (made beyond now : List Block) → IsUtf8 more → new ≡ text ++ more → items ≡ first ++ others → now ≡ made ++ beyond
    → AreItems (raw_of text first made) first → Grows (raw_of text first made) (raw_of new items now)
raw-grows text more new first others items made beyond now utf8 longer listed further are = record {
  text = more;
  blocks = beyond;
  items = items_of now others;
  utf8 = utf8;
  text_is = longer;
  blocks_are = further;
  items_are = ap (items_of now) listed ∙ map-append (λ (item : RawItem). slice_range now item.from item.to) first others
      ∙ ap (λ t. t ++ items_of now others) (items-further (raw_of text first made) now beyond first further are);
}

made-same : (text more new : List ℕ) (items others all : List RawItem) (made beyond now : List Block) (block : RawBlock) → IsUtf8 more → new ≡ text ++ more → all ≡ items ++ others → now ≡ made ++ beyond
    → IsMade text items made block → block_in (raw_of new all now) block ≡ block_in (raw_of text items made) block
made-same text more new items others all made beyond now block utf8 longer listed further is =
    let a = raw_of text is.first made in
    block-grows a (raw_of new all now) block (raw-grows text more new is.first (is.others ++ others) all made beyond now utf8 longer (listed-more items others all is.first is.others listed is.items_are) further is.first_are) is.placed
    ∙ sym (block-grows a (raw_of text items made) block (raw-grows text [] text is.first is.others items made [] made IsUtf8-nil (sym (append-nil text)) is.items_are (sym (append-nil made)) is.first_are) is.placed)

made-grows : (text more new : List ℕ) (items others all : List RawItem) (made : List Block) (block : RawBlock) → IsUtf8 more → new ≡ text ++ more → all ≡ items ++ others
    → IsMade text items made block → IsMade new all made block
made-grows text more new items others all made block utf8 longer listed is =
    let grows = raw-grows text more new is.first [] is.first made [] made utf8 longer (sym (append-nil is.first)) (sym (append-nil made)) is.first_are in
    record {
      first = is.first;
      others = is.others ++ others;
      items_are = listed-more items others all is.first is.others listed is.items_are;
      first_are = are_items-grow (raw_of text is.first made) (raw_of new is.first made) is.first grows is.first_are;
      placed = placed-grows (raw_of text is.first made) (raw_of new is.first made) block grows is.placed;
    }

made-placed : (text : List ℕ) (items : List RawItem) (made beyond now : List Block) (block : RawBlock) → now ≡ made ++ beyond → IsMade text items made block → IsPlaced (raw_of text items now) block
made-placed text items made beyond now block further is =
    placed-grows (raw_of text is.first made) (raw_of text items now) block
    (raw-grows text [] text is.first is.others items made beyond now IsUtf8-nil (sym (append-nil text)) is.items_are further is.first_are) is.placed

are-made-grow : (text more new : List ℕ) (items others all : List RawItem) (made : List Block) (blocks : List RawBlock) → IsUtf8 more → new ≡ text ++ more → all ≡ items ++ others
    → AreMade text items made blocks → AreMade new all made blocks
are-made-grow text more new items others all made [] utf8 longer listed are = tt
are-made-grow text more new items others all made (block ∷ blocks) utf8 longer listed are =
    let same = made-same text more new items others all made [] made block utf8 longer listed (sym (append-nil made)) are.0 in (
      made-grows text more new items others all made block utf8 longer listed are.0,
      subst (λ (one : Block). AreMade new all (made ++ one ∷ []) blocks) (sym same) (are-made-grow text more new items others all (made ++ block_in (raw_of text items made) block ∷ []) blocks utf8 longer listed are.1),
    )

-- what was made stays the same
after-same : (text more new : List ℕ) (items others all : List RawItem) (made : List Block) (blocks : List RawBlock) → IsUtf8 more → new ≡ text ++ more → all ≡ items ++ others
    → AreMade text items made blocks → made_after new all made blocks ≡ made_after text items made blocks
unfolding made_after
after-same text more new items others all made [] utf8 longer listed are = refl
after-same text more new items others all made (block ∷ blocks) utf8 longer listed are =
    ap (λ (one : Block). made_after new all (made ++ one ∷ []) blocks) (made-same text more new items others all made [] made block utf8 longer listed (sym (append-nil made)) are.0)
    ∙ after-same text more new items others all (made ++ block_in (raw_of text items made) block ∷ []) blocks utf8 longer listed are.1

after-more : (text : List ℕ) (items : List RawItem) (made : List Block) (earlier later : List RawBlock) → made_after text items made (earlier ++ later) ≡ made_after text items (made_after text items made earlier) later
unfolding made_after
after-more text items made [] later = refl
after-more text items made (block ∷ earlier) later = after-more text items (made ++ block_in (raw_of text items made) block ∷ []) earlier later

-- each block stands in the end for what was made of it
after-is : (text : List ℕ) (items : List RawItem) (made end : List Block) (blocks : List RawBlock) → end ≡ made_after text items made blocks → AreMade text items made blocks
    → end ≡ made ++ blocks_in (raw_of text items end) blocks
unfolding made_after
after-is text items made end [] is are = is ∙ sym (append-nil made)
after-is text items made end (block ∷ blocks) is are =
    let one = block_in (raw_of text items made) block in
    let rest = blocks_in (raw_of text items end) blocks in
    let further : end ≡ made ++ one ∷ rest = after-is text items (made ++ one ∷ []) end blocks is are.1 ∙ append_assoc made (one ∷ []) rest in
    further ∙ ap (λ (b : Block). made ++ b ∷ rest) (sym (made-same text [] text items [] items made (one ∷ rest) end block IsUtf8-nil (sym (append-nil text)) (sym (append-nil items)) further are.0))

after-placed : (text : List ℕ) (items : List RawItem) (made end : List Block) (blocks : List RawBlock) → end ≡ made_after text items made blocks → AreMade text items made blocks
    → ArePlaced (raw_of text items end) blocks
unfolding made_after
after-placed text items made end [] is are = tt
after-placed text items made end (block ∷ blocks) is are = (
  made-placed text items made (blocks_in (raw_of text items end) (block ∷ blocks)) end block (after-is text items made end (block ∷ blocks) is are) are.0,
  after-placed text items (made ++ block_in (raw_of text items made) block ∷ []) end blocks is are.1,
)

are-made-append : (text : List ℕ) (items : List RawItem) (made : List Block) (earlier later : List RawBlock) → AreMade text items made earlier → AreMade text items (made_after text items made earlier) later
    → AreMade text items made (earlier ++ later)
unfolding made_after
are-made-append text items made [] later first second = second
are-made-append text items made (block ∷ earlier) later first second = (first.0, are-made-append text items (made ++ block_in (raw_of text items made) block ∷ []) earlier later first.1 second)

placed-made : (text : List ℕ) (items : List RawItem) (made : List Block) (blocks : List RawBlock) → AreItems (raw_of text items made) items → ArePlaced (raw_of text items made) blocks → AreMade text items made blocks
placed-made text items made [] are placed = tt
placed-made text items made (block ∷ blocks) are placed =
    let one = block_in (raw_of text items made) block in
    let next = made ++ one ∷ [] in
    let grows = raw-grows text [] text items [] items made (one ∷ []) next IsUtf8-nil (sym (append-nil text)) (sym (append-nil items)) refl are in (
      record { first = items; others = []; items_are = sym (append-nil items); first_are = are; placed = placed.0 },
      placed-made text items next blocks (are_items-grow (raw_of text items made) (raw_of text items next) items grows are) (all-placed-grow (raw_of text items made) (raw_of text items next) blocks grows placed.1),
    )

-- what is held, as it is made

module _ (text : List ℕ) (blocks : List RawBlock) (items : List RawItem) (held : IsHeld text blocks items) where
  abbrev made : List Block
  made = made_of text items blocks

  made-is : made_of text items blocks ≡ blocks_in (raw_held text blocks items) blocks
  made-is = after-is text items [] (made_of text items blocks) blocks refl held.blocks_are

  pub made-length : length (made_of text items blocks) ≡ length blocks
  made-length = ap length made-is ∙ length-map blocks (block_in (raw_held text blocks items))

  pub items-length : length (items_of (made_of text items blocks) items) ≡ length items
  items-length = length-map items (item_in (raw_held text blocks items))

  module _ (at : ℕ) where
    pub block-there : (block : RawBlock) → at < length blocks → block ≡ get_or blocks at block
        → block_in (raw_held text blocks items) block ≡ get_or (made_of text items blocks) at (block_in (raw_held text blocks items) block)
    block-there block within is =
        let raw = raw_held text blocks items in
        ap (block_in raw) is
        ∙ sym (ap (λ made. get_or made at (block_in raw block)) made-is ∙ get_or-map (block_in raw) blocks at block (block_in raw block) within)

    pub placed-there : (block : RawBlock) → at < length blocks → block ≡ get_or blocks at block → IsPlaced (raw_held text blocks items) block
    placed-there block within is =
        let raw = raw_held text blocks items in
        subst (IsPlaced raw) (sym is) (placed-at raw blocks at block within (after-placed text items [] (made_of text items blocks) blocks refl held.blocks_are))

    pub item-there : (item : RawItem) → at < length items → item ≡ get_or items at item
        → item_in (raw_held text blocks items) item ≡ get_or (items_of (made_of text items blocks) items) at (item_in (raw_held text blocks items) item)
    item-there item within is =
        let raw = raw_held text blocks items in
        ap (item_in raw) is ∙ sym (get_or-map (item_in raw) items at item (item_in raw item) within)

    pub is_item-there : (item : RawItem) → at < length items → item ≡ get_or items at item → IsItem (raw_held text blocks items) item
    is_item-there item within is =
        let raw = raw_held text blocks items in
        subst (IsItem raw) (sym is) (item-at raw items at item within held.items_are)

  -- one more text

  module _ (more new : List ℕ) (utf8 : IsUtf8 more) (is : new ≡ text ++ more) where
    pub text-same : made_of new items blocks ≡ made_of text items blocks
    text-same = after-same text more new items [] items [] blocks utf8 is (sym (append-nil items)) held.blocks_are

    pub text-beyond : Grows (raw_held text blocks items) (raw_held new blocks items)
    text-beyond = raw-grows text more new items [] items made [] (made_of new items blocks) utf8 is (sym (append-nil items)) (text-same ∙ sym (append-nil made)) held.items_are

    pub text-held : IsHeld new blocks items
    text-held = record {
      blocks_are = are-made-grow text more new items [] items [] blocks utf8 is (sym (append-nil items)) held.blocks_are;
      items_are = are_items-grow (raw_held text blocks items) (raw_held new blocks items) items text-beyond held.items_are;
    }

  -- more blocks

  module _ (more new : List RawBlock) (is : new ≡ blocks ++ more) (placed : ArePlaced (raw_held text blocks items) more) where
    more-made : AreMade text items made more
    more-made = placed-made text items made more held.items_are placed

    made-more : made_of text items new ≡ made ++ blocks_in (raw_held text new items) more
    made-more = after-is text items made (made_of text items new) more (ap (made_of text items) is ∙ after-more text items [] blocks more) more-made

    pub blocks-beyond : Grows (raw_held text blocks items) (raw_held text new items)
    blocks-beyond = raw-grows text [] text items [] items made (blocks_in (raw_held text new items) more) (made_of text items new) IsUtf8-nil (sym (append-nil text)) (sym (append-nil items)) made-more held.items_are

    pub blocks-held : IsHeld text new items
    blocks-held = record {
      blocks_are = subst (AreMade text items []) (sym is) (are-made-append text items [] blocks more held.blocks_are more-made);
      items_are = are_items-grow (raw_held text blocks items) (raw_held text new items) items blocks-beyond held.items_are;
    }

    pub blocks-last : (from to : ℕ) → from ≡ length blocks → to ≡ length new → slice_range (made_of text items new) from to ≡ blocks_in (raw_held text blocks items) more
    blocks-last from to begins ends =
        let all = length-append blocks more in
        let several = length-map more (block_in (raw_held text new items)) in
        slice-last made (blocks_in (raw_held text new items) more) (made_of text items new) from to made-more (omega (arith, begins, made-length))
        (omega (arith, ends, ap length is, all, several, made-length, ap length made-more, length-append made (blocks_in (raw_held text new items) more)))
        ∙ blocks-grow (raw_held text blocks items) (raw_held text new items) more blocks-beyond placed

  -- more items

  module _ (more new : List RawItem) (is : new ≡ items ++ more) (are : AreItems (raw_held text blocks items) more) where
    pub items-beyond : Grows (raw_held text blocks items) (raw_held text blocks new)
    items-beyond =
        let same = after-same text [] text items more new [] blocks IsUtf8-nil (sym (append-nil text)) is held.blocks_are in
        raw-grows text [] text items more new made [] (made_of text new blocks) IsUtf8-nil (sym (append-nil text)) is (same ∙ sym (append-nil made)) held.items_are

    pub items-held : IsHeld text blocks new
    items-held =
        let now = raw_held text blocks new in
        record {
          blocks_are = are-made-grow text [] text items more new [] blocks IsUtf8-nil (sym (append-nil text)) is held.blocks_are;
          items_are = subst (AreItems now) (sym is)
              (items-append now items more (are_items-grow (raw_held text blocks items) now items items-beyond held.items_are) (are_items-grow (raw_held text blocks items) now more items-beyond are));
        }

    pub items-last : (from to : ℕ) → from ≡ length items → to ≡ length new → slice_range (items_of (made_of text new blocks) new) from to ≡ items_in (raw_held text blocks items) more
    items-last from to begins ends =
        slice-map (item_in (raw_held text blocks new)) new from to
        ∙ ap (items_in (raw_held text blocks new)) (slice-last items more new from to is begins ends)
        ∙ items-grow (raw_held text blocks items) (raw_held text blocks new) more items-beyond are
