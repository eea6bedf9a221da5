-- The tags of a tree, each without what is in its quotes. Of the texts in the tree only whether a title or a class word is empty
-- matters.
use Rattle.std.specs.Prelude.{◌≡◌, ℕ, ◌==◌, Bool, true, false, Some, List, [], ◌∷◌, ◌++◌, codes, map, cond}
use Rattle.std.specs.Fmt.{decimal}
use Rattle.std.specs.List.{flat_map}
use Rattle.cm_tree.specs.declared.tree.Inline.{Inline, Inline-F}
use Rattle.cm_tree.specs.declared.tree.Inline.TheOpen as inline
use Rattle.cm_tree.specs.declared.tree.Inline.TheFolds.{fold-Inline}
use Rattle.cm_tree.specs.declared.tree.Block.{Block, Block-F}
use Rattle.cm_tree.specs.declared.tree.Block.TheOpen as block
use Rattle.cm_tree.specs.declared.tree.Block.TheFolds.{fold-Block}
use Rattle.cm_tree.specs.declared.tree.ListKind.{ListKind}
use Rattle.cm_tree.specs.declared.tree.ListKind.TheVariants.{Dot, Paren}
use Rattle.cm_html.specs.Escape.{class_word}
use Rattle.cm_html.specs.Html.{html_of}
use Rattle.cm_text.specs.Rules.{Rules, profile}
use Rattle.cm_tree.specs.Followed.{blocks_are_followed}
use Rattle.cm_tree.specs.HeadingLevels.{have_levels}
use Rattle.cm_html.specs.Markup.{tags_in}
use Rattle.cm_tree.specs.RawHtml.{blocks_have_raw}

-- tags in order
abbrev pub Tags : Type 0
Tags = List (List ℕ)

abbrev pub join_tags : List Tags → Tags
join_tags all = flat_map (λ tags. tags) all

-- an element: its start tag, the tags inside, and its end tag
abbrev pub element : List ℕ → Tags → List ℕ → Tags
element start tags end = start ∷ (tags ++ end ∷ [])

abbrev pub link_tag : (title : List ℕ) → List ℕ
link_tag [] = codes "a href=\"\""
link_tag (b ∷ bs) = codes "a href=\"\" title=\"\""

abbrev pub image_tag : (title : List ℕ) → List ℕ
image_tag [] = codes "img src=\"\" alt=\"\" /"
image_tag (b ∷ bs) = codes "img src=\"\" alt=\"\" title=\"\" /"

-- one inline, given the tags of each inline of its content
abbrev pub inline_tags : Inline-F Tags → Tags
inline_tags (inline.Code text) = codes "code" ∷ codes "/code" ∷ []
inline_tags inline.Hard = codes "br /" ∷ []
inline_tags (inline.Emph content) = element (codes "em") (join_tags content) (codes "/em")
inline_tags (inline.Strong content) = element (codes "strong") (join_tags content) (codes "/strong")
inline_tags (inline.Strike content) = element (codes "del") (join_tags content) (codes "/del")
inline_tags (inline.Link dest title content) = element (link_tag title) (join_tags content) (codes "/a")
inline_tags (inline.Image dest title content) = image_tag title ∷ []
inline_tags _ = []

abbrev pub tags_of_inline : Inline → Tags
tags_of_inline = fold-Inline Tags inline_tags

abbrev pub tags_of_inlines : List Inline → Tags
tags_of_inlines inlines = join_tags (map tags_of_inline inlines)

abbrev pub code_tag : (word : List ℕ) → List ℕ
code_tag [] = codes "code"
code_tag (b ∷ bs) = codes "code class=\"\""

abbrev pub ordered_tag : ℕ → List ℕ
ordered_tag start = cond (start == 1) (codes "ol") (codes "ol start=\"\"")

abbrev pub list_element : ListKind → Tags → Tags
list_element (Dot start) tags = element (ordered_tag start) tags (codes "/ol")
list_element (Paren start) tags = element (ordered_tag start) tags (codes "/ol")
list_element _ tags = element (codes "ul") tags (codes "/ul")

-- the tags of blocks, in a tight item or not
abbrev pub join_blocks : Bool → List (Bool → Tags) → Tags
join_blocks tight blocks = flat_map (λ block. block tight) blocks

abbrev pub join_items : Bool → List (List (Bool → Tags)) → Tags
join_items tight items = flat_map (λ item. element (codes "li") (join_blocks tight item) (codes "/li")) items

-- one block, given the tags of each block inside; a paragraph in a tight item has no tags of its own
abbrev pub block_tags : Block-F (Bool → Tags) → Bool → Tags
block_tags (block.Paragraph content) true = tags_of_inlines content
block_tags (block.Paragraph content) false = element (codes "p") (tags_of_inlines content) (codes "/p")
block_tags (block.Heading level content) tight = element (codes "h" ++ decimal level) (tags_of_inlines content) (codes "/h" ++ decimal level)
block_tags (block.Code info text) tight = codes "pre" ∷ code_tag (class_word info) ∷ codes "/code" ∷ codes "/pre" ∷ []
block_tags block.Break tight = codes "hr /" ∷ []
block_tags (block.Quote blocks) tight = element (codes "blockquote") (join_blocks false blocks) (codes "/blockquote")
block_tags (block.List kind item_tight items) tight = list_element kind (join_items item_tight items)
block_tags _ tight = []

abbrev pub tags_of_block : Block → Bool → Tags
tags_of_block = fold-Block (Bool → Tags) block_tags

-- the tags of blocks
abbrev pub tags_of : List Block → Tags
tags_of blocks = join_blocks false (map tags_of_block blocks)

-- If a tree has no raw HTML, and its headings have levels from 1 to 6, then its HTML is markup whose tags are those of the tree: no text
-- adds, changes or ends a tag.
abbrev pub TextIsNoMarkup : Type 0
TextIsNoMarkup = (blocks : List Block) → blocks_have_raw blocks ≡ false → have_levels blocks ≡ true → tags_in profile (html_of blocks) ≡ Some (tags_of blocks)

-- If such a tree also contains only what the rules read, then so does its HTML: the address of each link and image, as it is written, is
-- one that they follow, and with rules without raw HTML each class is one word.
abbrev pub AddressesStay : Type 0
AddressesStay = (rules : Rules) (blocks : List Block) → blocks_have_raw blocks ≡ false → have_levels blocks ≡ true → blocks_are_followed rules blocks ≡ true
    → tags_in rules (html_of blocks) ≡ Some (tags_of blocks)
