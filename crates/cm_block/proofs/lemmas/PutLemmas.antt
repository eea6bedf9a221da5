-- Closed leaves, put in place one after the other.
use Rattle.std.proofs.Common.{◌≡◌, ℕ, suc, ◌+◌, ◌-◌, ◌<◌, ◌≤◌, List, [], ◌∷◌, ◌++◌, length, take, drop, Option, Some, None, refl, sym, ap, ap₂, ◌∙◌, arith}
use Rattle.std.specs.List.{slice_range}
use Rattle.std.proofs.lemmas.List.{drop_all, take-append-drop, length-drop}
use Rattle.cm_tree.specs.declared.tree.Block.TheVariants.{Paragraph, Heading}
use Rattle.cm_scan.specs.Words.{trim_end}
use Rattle.cm_scan.specs.inlines.Links.{link_definition, Definitions, definitions_of}
use Rattle.cm_scan.specs.blocks.Parts.{LeafPart, leaf_block, definition}
use Rattle.cm_tree.specs.RawBlocks.{raw_inlines}
use Rattle.cm_scan.specs.blocks.Blocks.{line_feeds, line_count, definition_leaves, content_leaf, leaves_of_run}
use Rattle.cm_block.specs.Level.{Level, block_closes}
use Rattle.cm_block.specs.OpenLeaf.{run_leaves}
use Rattle.cm_block.specs.Stack.{Owned, table_with, close_leaves, own_leaf, own_leaves}
use Rattle.cm_block.specs.steps.LeafSteps.{own_plain_leaf}
use Rattle.cm_block.proofs.lemmas.FeedLemmas.{feeds_append}
use Rattle.cm_block.proofs.lemmas.RunLemmas.{read_at, definitions_some, definitions_none, fewer_lines}

-- one leaf

pub one_closes : (level : Level) (x : LeafPart) (lines : ℕ) → block_closes level (leaf_block x) ≡ close_leaves level ((x, lines) ∷ [])
unfolding close_leaves
one_closes level x lines = refl

pub one_owns : (owned : Owned) (x : LeafPart) (lines : ℕ) → table_with owned.table x ≡ owned.table → own_plain_leaf owned lines ≡ own_leaves owned ((x, lines) ∷ [])
unfolding own_leaves
one_owns owned x lines plain = ap (λ t. record (own_plain_leaf owned lines) { table = t }) (sym plain)

pub none_closes : (level : Level) → level ≡ close_leaves level []
unfolding close_leaves
none_closes level = refl

pub none_owns : (owned : Owned) → owned ≡ own_leaves owned []
unfolding own_leaves
none_owns owned = refl

-- leaves, and then others

close-append : (level : Level) (xs ys : List (LeafPart × ℕ)) → close_leaves level (xs ++ ys) ≡ close_leaves (close_leaves level xs) ys
unfolding close_leaves
close-append level [] ys = refl
close-append level (x ∷ xs) ys = close-append (block_closes level (leaf_block x.0)) xs ys

own-append : (owned : Owned) (xs ys : List (LeafPart × ℕ)) → own_leaves owned (xs ++ ys) ≡ own_leaves (own_leaves owned xs) ys
unfolding own_leaves
own-append owned [] ys = refl
own-append owned (x ∷ xs) ys = own-append (own_leaf owned x.0 x.1) xs ys

-- the content of a run

pub content_closes : (level : Level) (source : List ℕ) (none : source ≡ [] → ⊥) → block_closes level (Paragraph (raw_inlines source)) ≡ close_leaves level (content_leaf None source)
unfolding close_leaves
content_closes level [] none = absurd (none refl)
content_closes level (b ∷ bs) none = refl

pub heading_closes : (level : Level) (number : ℕ) (source : List ℕ) (none : source ≡ [] → ⊥)
    → block_closes level (Heading number (raw_inlines source)) ≡ close_leaves level (content_leaf (Some number) source)
unfolding close_leaves
heading_closes level number [] none = absurd (none refl)
heading_closes level number (b ∷ bs) none = refl

pub content_owns : (owned : Owned) (source : List ℕ) (lines : ℕ) (none : source ≡ [] → ⊥) → lines ≡ suc (line_feeds source) → own_plain_leaf owned lines ≡ own_leaves owned (content_leaf None source)
unfolding own_leaves
content_owns owned [] lines none e = absurd (none refl)
content_owns owned (b ∷ bs) lines none e = ap (own_plain_leaf owned) e

pub heading_owns : (owned : Owned) (number : ℕ) (source : List ℕ) (lines : ℕ) (none : source ≡ [] → ⊥) → lines ≡ suc (suc (line_feeds source))
    → own_plain_leaf owned lines ≡ own_leaves owned (content_leaf (Some number) source)
unfolding own_leaves
heading_owns owned number [] lines none e = absurd (none refl)
heading_owns owned number (b ∷ bs) lines none e = ap (own_plain_leaf owned) e

-- the whole run

pub run_closes : (before between after : Level) (heading : Option ℕ) (source trimmed left : List ℕ) → trimmed ≡ trim_end source → left ≡ (definitions_of trimmed).left
    → between ≡ close_leaves before (definition_leaves trimmed (definitions_of trimmed).taken) → after ≡ close_leaves between (content_leaf heading left)
    → after ≡ close_leaves before (run_leaves heading source)
unfolding leaves_of_run
run_closes before between after heading source trimmed left t l e k =
    k
    ∙ ap₂ (λ v text. close_leaves v (content_leaf heading text)) e l
    ∙ sym (close-append before (definition_leaves trimmed (definitions_of trimmed).taken) (content_leaf heading (definitions_of trimmed).left))
    ∙ ap (λ text. close_leaves before (definition_leaves text (definitions_of text).taken ++ content_leaf heading (definitions_of text).left)) t

pub run_owns : (before between after : Owned) (heading : Option ℕ) (source trimmed left : List ℕ) → trimmed ≡ trim_end source → left ≡ (definitions_of trimmed).left
    → between ≡ own_leaves before (definition_leaves trimmed (definitions_of trimmed).taken) → after ≡ own_leaves between (content_leaf heading left)
    → after ≡ own_leaves before (run_leaves heading source)
unfolding leaves_of_run
run_owns before between after heading source trimmed left t l e k =
    k
    ∙ ap₂ (λ v text. own_leaves v (content_leaf heading text)) e l
    ∙ sym (own-append before (definition_leaves trimmed (definitions_of trimmed).taken) (content_leaf heading (definitions_of trimmed).left))
    ∙ ap (λ text. own_leaves before (definition_leaves text (definitions_of text).taken ++ content_leaf heading (definitions_of text).left)) t

-- the lines that a definition takes

front-whole : (text : List ℕ) (end : ℕ) → slice_range text 0 end ≡ take end text
front-whole text end = let e : end - 0 ≡ end = omega arith in ap (λ n. take n text) e

count-some : (text : List ℕ) → 0 < length text → line_count text ≡ suc (line_feeds text)
count-some [] h = absurd (omega (arith, h))
count-some (b ∷ bs) h = refl

feeds-parted : (text : List ℕ) (end : ℕ) → line_feeds (slice_range text 0 end) + line_feeds (drop end text) ≡ line_feeds text
feeds-parted text end =
    ap (λ t. line_feeds t + line_feeds (drop end text)) (front-whole text end)
    ∙ sym (feeds_append (take end text) (drop end text))
    ∙ ap line_feeds (take-append-drop end text)

-- those of the front of a text, and those after it
pub feeds_parted : (text front : List ℕ) (end n : ℕ) → front ≡ slice_range text 0 end → n ≡ line_feeds front
    → n + line_feeds (drop end text) ≡ line_feeds text
feeds_parted text front end n e k = ap (λ m. m + line_feeds (drop end text)) (k ∙ ap line_feeds e) ∙ feeds-parted text end

pub all_lines : (text : List ℕ) (end n : ℕ) → 1 ≤ length text → n + line_feeds (drop end text) ≡ line_feeds text → end ≡ length text
    → (n + 1) + line_count (drop end text) ≡ line_count text
unfolding line_feeds
all_lines text end n some parted whole =
    let none : drop end text ≡ [] = drop_all end text (omega (arith, whole)) in
    let lines : line_count (drop end text) ≡ 0 = ap line_count none in
    let feeds : line_feeds (drop end text) ≡ 0 = ap line_feeds none in
    omega (arith, lines, feeds, parted, count-some text some)

pub some_lines : (text : List ℕ) (end n : ℕ) → 1 ≤ length text → n + line_feeds (drop end text) ≡ line_feeds text → end < length text
    → n + line_count (drop end text) ≡ line_count text
some_lines text end n some parted part =
    let left : 0 < length (drop end text) = omega (arith, length-drop end text) in
    omega (arith, parted, count-some text some, count-some (drop end text) left)

-- one definition more

leaves-one : (text left label dest title : List ℕ) (end : ℕ) → Some (read_at label dest title text end) ≡ link_definition text → left ≡ drop end text
    → definition_leaves text (definitions_of text).taken
    ≡ (definition label dest title, line_count text - line_count left) ∷ definition_leaves left (definitions_of left).taken
unfolding definition_leaves
leaves-one text left label dest title end e k =
    ap (λ (r : Definitions). definition_leaves text r.taken) (definitions_some text (read_at label dest title text end) (sym e))
    ∙ ap (λ t. (definition label dest title, line_count text - line_count t) ∷ definition_leaves t (definitions_of t).taken) (sym k)

pub definition_closes : (before after : Level) (text left label dest title : List ℕ) (end : ℕ) → Some (read_at label dest title text end) ≡ link_definition text → left ≡ drop end text
    → after ≡ block_closes before (leaf_block (definition label dest title))
    → close_leaves after (definition_leaves left (definitions_of left).taken) ≡ close_leaves before (definition_leaves text (definitions_of text).taken)
unfolding close_leaves
definition_closes before after text left label dest title end e k closed =
    ap (λ v. close_leaves v (definition_leaves left (definitions_of left).taken)) closed ∙ sym (ap (close_leaves before) (leaves-one text left label dest title end e k))

pub definition_owns : (before after : Owned) (text left label dest title : List ℕ) (end lines : ℕ) → Some (read_at label dest title text end) ≡ link_definition text → left ≡ drop end text
    → lines + line_count (drop end text) ≡ line_count text → after ≡ own_leaf before (definition label dest title) lines
    → own_leaves after (definition_leaves left (definitions_of left).taken) ≡ own_leaves before (definition_leaves text (definitions_of text).taken)
unfolding own_leaves
definition_owns before after text left label dest title end lines e k counted owned =
    let same : line_count left ≡ line_count (drop end text) = ap line_count k in
    let taken : lines ≡ line_count text - line_count left = omega (arith, counted, same) in
    ap (λ s. own_leaves s (definition_leaves left (definitions_of left).taken)) (owned ∙ ap (own_leaf before (definition label dest title)) taken)
    ∙ sym (ap (own_leaves before) (leaves-one text left label dest title end e k))

pub nothing_closes : (before : Level) (text : List ℕ) → None ≡ link_definition text → close_leaves before (definition_leaves text (definitions_of text).taken) ≡ before
unfolding close_leaves definition_leaves
nothing_closes before text e = ap (λ (r : Definitions). close_leaves before (definition_leaves text r.taken)) (definitions_none text (sym e))

pub nothing_owns : (before : Owned) (text : List ℕ) → None ≡ link_definition text → own_leaves before (definition_leaves text (definitions_of text).taken) ≡ before
unfolding own_leaves definition_leaves
nothing_owns before text e = ap (λ (r : Definitions). own_leaves before (definition_leaves text r.taken)) (definitions_none text (sym e))

-- it takes some of the text

pub some_definition : (text label dest title : List ℕ) (end : ℕ) → Some (read_at label dest title text end) ≡ link_definition text → 1 ≤ length text
some_definition text label dest title end e = more_lines text (fewer_lines text (read_at label dest title text end) (sym e))
  where
    more_lines : (t : List ℕ) → line_count (drop end text) < line_count t → 1 ≤ length t
    more_lines [] h = absurd (omega (arith, h))
    more_lines (b ∷ bs) h = omega arith
