-- How many quotes and items a stack holds, before and after a line.
use Rattle.std.specs.Prelude.{take, drop, not, ◌&&◌, ◌||◌}
use Rattle.std.specs.List.{sum}
use Rattle.std.proofs.lemmas.List.Sums.{sum_by_push}
use Rattle.std.proofs.lemmas.List.{map-append}
use Rattle.std.proofs.Common.{◌≡◌, ℕ, zero, suc, ◌+◌, ◌-◌, ◌≤◌, Bool, true, false, List, [], ◌∷◌, ◌++◌, length, map, refl, ◌∙◌, sym, ap, arith, Option, Some, None}
use Rattle.cm_text.specs.Rules.{Rules}
use Rattle.cm_text.specs.Lines.{LineView}
use Rattle.cm_tree.specs.declared.tree.Block.{Block}
use Rattle.cm_tree.specs.declared.tree.Block.TheFolds.{fold_out-Block}
use Rattle.cm_tree.specs.declared.tree.Block.TheVariants.{Quote, List as ListBlock, outs-Paragraph, outs-Heading, outs-Code, outs-Html, outs-Break, outs-Definition, outs-Quote, outs-List}
use Rattle.cm_tree.specs.declared.tree.ListKind.{ListKind}
use Rattle.cm_scan.specs.blocks.LineForms.{is_same_kind}
use Rattle.cm_scan.specs.blocks.Lines.{marks}
use Rattle.cm_scan.specs.blocks.Parts.{LeafPart, paragraph, heading, code, html, thematic_break, definition, leaf_block}
use Rattle.cm_block.specs.OpenLeaf.{OpenLeaf, closed_leaves, blank_lines_after, LeafLine, stays_open, is_last, LineOpens, begins_nothing, begins_leaf, begins_quote, begins_item, begin_of}
use Rattle.cm_block.specs.Machine.{Open, in_leaf, in_quote, in_item}
use Rattle.cm_block.specs.Level.{OpenList, Level, empty_level, with_list, closed_blocks, push_blank, block_opens, list_opens, list_goes_on, item_opens, item_opens_in, block_closes, Item, with_item, item_closes}
use Rattle.cm_block.specs.Stack.{Owned, Stack, item_of, close_leaves, push_blanks, close_open, push_leaf_line, push_by, push_within, push_begin}
use Rattle.cm_block.specs.Depths.{nesting}
use Rattle.cm_block.specs.Frames.{Container, a_quote, an_item, Frame, opened, is_last as is_last_frame, nest, stack_with}
use Rattle.cm_block.specs.steps.FrameSteps.{within, quoted_by, close_container, close_frames}
use Rattle.cm_block.specs.steps.FrameStarts.{begun_in}
use Rattle.cm_block.specs.Tests.{item_count, container_step, containers_of_block, container_count, count_in, count_open, count_of}
use Rattle.cm_block.proofs.lemmas.FrameStartLemmas.{within-nesting}

one-more : (blocks : List Block) (block : Block) → container_count (blocks ++ block ∷ []) ≡ container_count blocks + containers_of_block block
one-more blocks block =
    ap sum (map-append containers_of_block blocks (block ∷ [])) ∙ sum_by_push (λ n. n) (map containers_of_block blocks) (containers_of_block block)

quote-count : (blocks : List Block) → containers_of_block (Quote blocks) ≡ suc (container_count blocks)
quote-count blocks = simp (fold_out-Block ℕ container_step, outs-Quote)

list-block-count : (kind : ListKind) (tight : Bool) (items : List (List Block)) → containers_of_block (ListBlock kind tight items) ≡ item_count (map (map containers_of_block) items)
list-block-count kind tight items = simp (fold_out-Block ℕ container_step, outs-List)

items-append : (xs : List (List Block)) (blocks : List Block)
    → item_count (map (map containers_of_block) (xs ++ blocks ∷ [])) ≡ item_count (map (map containers_of_block) xs) + suc (container_count blocks)
items-append [] blocks = omega arith
items-append (x ∷ xs) blocks =
    let h : item_count (map (map containers_of_block) (xs ++ blocks ∷ [])) ≡ item_count (map (map containers_of_block) xs) + suc (container_count blocks) = items-append xs blocks in
    omega (arith, h)

-- a level

list-count : Option OpenList → ℕ
list-count None = 0
list-count (Some list) = item_count (map (map containers_of_block) list.items)

count-level : (blocks : List Block) (list : Option OpenList) → container_count (with_list blocks list) ≡ container_count blocks + list-count list
unfolding list-count
count-level blocks None = omega arith
count-level blocks (Some list) =
    omega (arith, one-more blocks (ListBlock list.kind (not list.loose) list.items), list-block-count list.kind (not list.loose) list.items)

count-blanks : (n : ℕ) (v : Level) → count_in (push_blanks n v) ≡ count_in v
unfolding push_blanks
count-blanks zero v = refl
count-blanks (suc n) v = count-blanks n (push_blank v)

count-list-opens : (v : Level) (kind : ListKind) → count_in (list_opens v kind) ≡ count_in v
count-list-opens v kind = omega (arith, one-more (closed_blocks v) (ListBlock kind true []), list-block-count kind true [])

pub count-item-opens : (v : Level) (kind : ListKind) → count_in (item_opens v kind) ≡ count_in v
unfolding list-count
count-item-opens v kind = by-list v.open_list refl
  where
    by-kind : (list : OpenList) (same : Bool) → v.open_list ≡ Some list
        → count_in (elim same as (λ _. Level) [ true ↦ list_goes_on v list | false ↦ list_opens v kind ]) ≡ count_in v
    by-kind list true is =
        count-level v.blocks (Some (record { kind = list.kind; loose = list.loose || v.ends_blank; items = list.items }))
        ∙ sym (count-level v.blocks (Some list)) ∙ ap (λ o. container_count (with_list v.blocks o)) (sym is)
    by-kind list false is = count-list-opens v kind

    by-list : (o : Option OpenList) → v.open_list ≡ o → count_in (item_opens_in v o kind) ≡ count_in v
    by-list None is = count-list-opens v kind
    by-list (Some list) is = by-kind list (is_same_kind list.kind kind) is

pub count-closes : (v : Level) (block : Block) → count_in (block_closes v block) ≡ count_in v + containers_of_block block
count-closes v block =
    omega (arith, count-level (v.blocks ++ block ∷ []) v.open_list, count-level v.blocks v.open_list, one-more v.blocks block)

-- an item counts where it is in a list
count-item-closes : (v : Level) (item : Item) → count_in (item_closes v item) ≤ count_in v + suc (container_count item.blocks)
unfolding list-count
count-item-closes v item =
    omega (arith, count-level v.blocks (with_item v.open_list item), count-level v.blocks v.open_list, go v.open_list)
  where
    go : (o : Option OpenList) → list-count (with_item o item) ≤ list-count o + suc (container_count item.blocks)
    go None = omega arith
    go (Some list) = omega (arith, items-append list.items item.blocks)

no-containers : (x : LeafPart) → containers_of_block (leaf_block x) ≡ 0
no-containers (paragraph source) = simp (fold_out-Block ℕ container_step, outs-Paragraph)
no-containers (heading level source) = simp (fold_out-Block ℕ container_step, outs-Heading)
no-containers (code info text) = simp (fold_out-Block ℕ container_step, outs-Code)
no-containers (html text) = simp (fold_out-Block ℕ container_step, outs-Html)
no-containers thematic_break = simp (fold_out-Block ℕ container_step, outs-Break)
no-containers (definition label dest title) = simp (fold_out-Block ℕ container_step, outs-Definition)

pub count-leaves : (xs : List (LeafPart × ℕ)) (v : Level) → count_in (close_leaves v xs) ≡ count_in v
unfolding close_leaves
count-leaves [] v = refl
count-leaves (x ∷ xs) v = omega (arith, count-leaves xs (block_closes v (leaf_block x.0)), count-closes v (leaf_block x.0), no-containers x.0)

-- closing what is open

pub count-closing-leaf : (v : Level) (x : OpenLeaf) → count_in (close_open v (in_leaf x)) ≡ count_in v
unfolding close_open
count-closing-leaf v x = count-blanks (blank_lines_after x) (close_leaves v (closed_leaves x)) ∙ count-leaves (closed_leaves x) v

pub count-closing : (now : Open Level) (v : Level) → count_in (close_open v now) ≤ count_in v + count_open now
unfolding close_open count_open
count-closing (in_leaf x) v = omega (arith, count-closing-leaf v x)
count-closing (in_quote inside now) v =
    let h : count_in (close_open inside now) ≤ count_in inside + count_open now = count-closing now inside in
    omega (arith, h, count-closes v (Quote (closed_blocks (close_open inside now))), quote-count (closed_blocks (close_open inside now)))
count-closing (in_item kind column bare inside now) v =
    let h : count_in (close_open inside now) ≤ count_in inside + count_open now = count-closing now inside in
    omega (arith, h, count-item-closes v (item_of (close_open inside now)))

-- containers in a row

pub count_frames : List Frame → ℕ
count_frames [] = 0
count_frames (f ∷ fs) = suc (count_in f.level) + count_frames fs

count-opened : (c : Container) (bare : Bool) (inside : Level) (now : Open Level) → count_open (opened c bare inside now) ≡ suc (count_in inside + count_open now)
unfolding count_open
count-opened a_quote bare inside now = refl
count-opened (an_item kind column) bare inside now = refl

pub count-within : (fs : List Frame) (inside : Stack) → count_of (within fs inside) ≡ count_frames fs + count_of inside
unfolding within count_frames
count-within [] inside = omega arith
count-within (f ∷ fs) inside =
    let i = within fs inside in
    let h : count_of i ≡ count_frames fs + count_of inside = count-within fs inside in
    omega (arith, h, count-opened f.container false i.level i.now)

pub count-nest : (bare : Bool) (fs : List Frame) (v : Level) (x : OpenLeaf) (s : Owned) → count_of (stack_with bare fs v x s) ≡ count_frames fs + count_in v
unfolding nest count_frames count_open
count-nest bare [] v x s = omega arith
count-nest bare (f ∷ fs) v x s =
    let h : count_of (stack_with bare fs v x s) ≡ count_frames fs + count_in v = count-nest bare fs v x s in
    omega (arith, h, count-opened f.container (bare && is_last_frame fs) (nest bare fs v x).0 (nest bare fs v x).1)

count-container : (c : Container) (outside inside : Level) → count_in (close_container c outside inside) ≤ count_in outside + suc (count_in inside)
count-container a_quote outside inside = omega (arith, count-closes outside (Quote (closed_blocks inside)), quote-count (closed_blocks inside))
count-container (an_item kind column) outside inside = count-item-closes outside (item_of inside)

pub count-close-frames : (fs : List Frame) (v : Level) → count_in (close_frames fs v) ≤ count_frames fs + count_in v
unfolding close_frames count_frames
count-close-frames [] v = omega arith
count-close-frames (f ∷ fs) v =
    let h : count_in (close_frames fs v) ≤ count_frames fs + count_in v = count-close-frames fs v in
    omega (arith, h, count-container f.container f.level (close_frames fs v))

pub count-parted : (n : ℕ) (fs : List Frame) → count_frames (take n fs) + count_frames (drop n fs) ≡ count_frames fs
unfolding count_frames
count-parted zero fs = omega arith
count-parted (suc n) [] = omega arith
count-parted (suc n) (f ∷ fs) = let h : count_frames (take n fs) + count_frames (drop n fs) ≡ count_frames fs = count-parted n fs in omega (arith, h)

-- what a line starts: as many as are then open

count-leaf-line : (s : Owned) (v : Level) (l : LeafLine) → count_of (push_leaf_line s v l) ≡ count_in v + nesting (push_leaf_line s v l).now
unfolding count_open nesting
count-leaf-line s v (stays_open x) = refl
count-leaf-line s v (is_last leaves) = omega (arith, count-leaves leaves v)

count-began : (push : (in_a_quote : Bool) → Owned → Level → LineView → Stack) → ((q : Bool) (s : Owned) (v : Level) (line : LineView) → count_of (push q s v line) ≡ count_in v + nesting (push q s v line).now)
    → (q : Bool) (s : Owned) (v : Level) (b : LineOpens) → count_of (push_by push q s v b) ≡ count_in v + nesting (push_by push q s v b).now
unfolding count_open nesting
count-began push inside q s v begins_nothing = refl
count-began push inside q s v (begins_leaf l) = count-leaf-line s (block_opens v) l
count-began push inside q s v (begins_quote inner) = omega (arith, inside true s empty_level inner)
count-began push inside q s v (begins_item kind column inner) = omega (arith, inside true s empty_level inner, count-item-opens v kind)

count-push-within : (rules : Rules) (n : ℕ) (q : Bool) (s : Owned) (v : Level) (line : LineView) → count_of (push_within rules n q s v line) ≡ count_in v + nesting (push_within rules n q s v line).now
unfolding push_within count_open nesting
count-push-within rules zero q s v line = refl
count-push-within rules (suc n) q s v line = count-began (push_within rules n) (count-push-within rules n) q s v (begin_of rules line)

pub count-begin : (rules : Rules) (q : Bool) (s : Owned) (v : Level) (line : LineView) → count_of (push_begin rules q s v line) ≡ count_in v + nesting (push_begin rules q s v line).now
unfolding push_begin
count-begin rules q s v line = count-push-within rules (suc (marks line.text)) q s v line

-- a line of the open leaf opens none
count-stays : (s : Owned) (v : Level) (l : LeafLine) → count_of (push_leaf_line s v l) ≡ count_in v
unfolding count_open
count-stays s v (stays_open x) = omega arith
count-stays s v (is_last leaves) = omega (arith, count-leaves leaves v)

pub count_taken : (bare : Bool) (fs : List Frame) (v : Level) (x : OpenLeaf) (s t : Owned) (l : LeafLine) (now : Stack) → now ≡ within fs (push_leaf_line t v l)
    → count_of now - count_of (stack_with bare fs v x s) ≤ 0
count_taken bare fs v x s t l now is = omega (arith, ap count_of is, count-within fs (push_leaf_line t v l), count-stays t v l, count-nest bare fs v x s)

-- of another line that stays in the given number of containers, those beyond these are opened
pub count_begun : (rules : Rules) (bare : Bool) (fs gs : List Frame) (v w : Level) (x : OpenLeaf) (s t : Owned) (line : LineView) (depth : ℕ) (now : Stack)
    → gs ≡ take depth fs → w ≡ close_frames (drop depth fs) (close_open v (in_leaf x)) → now ≡ begun_in rules gs w line t
    → count_of now - count_of (stack_with bare fs v x s) ≤ nesting now.now - length gs
count_begun rules bare fs gs v w x s t line depth now first rest is =
    let begin = push_begin rules (quoted_by false gs) t w line in
    omega (
      arith,
      ap count_of is,
      ap (λ (st : Stack). nesting st.now) is,
      count-within gs begin,
      within-nesting gs begin,
      count-begin rules (quoted_by false gs) t w line,
      ap count_frames first,
      ap count_in rest,
      count-close-frames (drop depth fs) (close_open v (in_leaf x)),
      count-closing-leaf v x,
      count-parted depth fs,
      count-nest bare fs v x s,
    )

-- no lines so far
pub count_new : (bare : Bool) (fs : List Frame) (v : Level) (x : OpenLeaf) (s : Owned) → fs ≡ [] → v ≡ empty_level → count_of (stack_with bare fs v x s) ≤ 0
unfolding count_frames
count_new bare fs v x s none empty = omega (arith, count-nest bare fs v x s, ap count_frames none, ap count_in empty)
