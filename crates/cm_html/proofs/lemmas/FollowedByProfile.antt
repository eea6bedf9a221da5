-- By the profile a tree holds nothing that isn't read: it follows each address and leaves each info as it is.
use Rattle.std.proofs.Common.{◌≡◌, Bool, true, ◌&&◌, List, [], ◌∷◌, map, ap, refl, subst, ◌∙◌}
use Rattle.std.specs.List.{list_all}
use Rattle.cm_tree.specs.declared.tree.Inline.{Inline, Inline-F, map-Inline}
use Rattle.cm_tree.specs.declared.tree.Inline.TheOpen as inline
use Rattle.cm_tree.specs.declared.tree.Inline.TheViews.{roll-Inline}
use Rattle.cm_tree.specs.declared.tree.Inline.TheFolds.{fold-roll-Inline, ind-Inline}
use Rattle.cm_tree.specs.declared.tree.Block.{Block, Block-F, map-Block}
use Rattle.cm_tree.specs.declared.tree.Block.TheOpen as block
use Rattle.cm_tree.specs.declared.tree.Block.TheViews.{roll-Block}
use Rattle.cm_tree.specs.declared.tree.Block.TheFolds.{fold-roll-Block, ind-Block}
use Rattle.cm_text.specs.Rules.{profile}
use Rattle.cm_tree.specs.HeadingLevels.{all_of}
use Rattle.cm_tree.specs.Followed.{followed_inline_step, inline_is_followed, inlines_are_followed, followed_block_step, block_is_followed, blocks_are_followed}

-- inlines, each with its proof
abbrev Reads : Type 0
Reads = (i : Inline) × (inline_is_followed profile i ≡ true)

content_follows : (es : List Reads) → all_of (map (inline_is_followed profile) (map (λ e. e.0) es)) ≡ true
content_follows [] = refl
content_follows (e ∷ es) = ap (λ t. t && all_of (map (inline_is_followed profile) (map (λ e. e.0) es))) e.1 ∙ content_follows es

inline_layer : (y : Inline-F Reads) → followed_inline_step profile (map-Inline Inline Bool (inline_is_followed profile) (map-Inline Reads Inline (λ e. e.0) y)) ≡ true
inline_layer (inline.Emph es) = content_follows es
inline_layer (inline.Strong es) = content_follows es
inline_layer (inline.Strike es) = content_follows es
inline_layer (inline.Link dest title es) = content_follows es
inline_layer _ = refl

inline_follows : (i : Inline) → inline_is_followed profile i ≡ true
inline_follows = ind-Inline (λ i. inline_is_followed profile i ≡ true) (λ x y is. subst (λ z. inline_is_followed profile (roll-Inline z) ≡ true) is
    (fold-roll-Inline Bool (followed_inline_step profile) (map-Inline Reads Inline (λ e. e.0) y) ∙ inline_layer y))

inlines_follow : (inlines : List Inline) → inlines_are_followed profile inlines ≡ true
inlines_follow [] = refl
inlines_follow (i ∷ is) = ap (λ t. t && inlines_are_followed profile is) (inline_follows i) ∙ inlines_follow is

-- blocks, each with its proof
abbrev Held : Type 0
Held = (b : Block) × (block_is_followed profile b ≡ true)

abbrev held : List Held → List Block
held es = map (λ e. e.0) es

inside_follows : (es : List Held) → all_of (map (block_is_followed profile) (held es)) ≡ true
inside_follows [] = refl
inside_follows (e ∷ es) = ap (λ t. t && all_of (map (block_is_followed profile) (held es))) e.1 ∙ inside_follows es

items_follow : (items : List (List Held)) → list_all all_of (map (map (block_is_followed profile)) (map held items)) ≡ true
items_follow [] = refl
items_follow (item ∷ items) = ap (λ t. t && list_all all_of (map (map (block_is_followed profile)) (map held items))) (inside_follows item) ∙ items_follow items

block_layer : (y : Block-F Held) → followed_block_step profile (map-Block Block Bool (block_is_followed profile) (map-Block Held Block (λ e. e.0) y)) ≡ true
block_layer (block.Paragraph content) = inlines_follow content
block_layer (block.Heading level content) = inlines_follow content
block_layer (block.Quote es) = inside_follows es
block_layer (block.List kind tight items) = items_follow items
block_layer _ = refl

block_follows : (b : Block) → block_is_followed profile b ≡ true
block_follows = ind-Block (λ b. block_is_followed profile b ≡ true) (λ x y is. subst (λ z. block_is_followed profile (roll-Block z) ≡ true) is
    (fold-roll-Block Bool (followed_block_step profile) (map-Block Held Block (λ e. e.0) y) ∙ block_layer y))

pub profile_follows : (blocks : List Block) → blocks_are_followed profile blocks ≡ true
profile_follows [] = refl
profile_follows (b ∷ bs) = ap (λ t. t && blocks_are_followed profile bs) (block_follows b) ∙ profile_follows bs
