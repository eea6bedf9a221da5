-- Trees that contain only what the rules read: each link and image has an address that they follow, and the info string of each code
-- block is one that they leave as it is (CommonMark 0.31.2, 4.5 Fenced code blocks, 6.3 Links, 6.4 Images).
use Rattle.std.specs.Prelude.{ℕ, ◌==◌, Bool, true, not, ◌&&◌, ◌||◌, List, map}
use Rattle.std.specs.List.{list_any, list_all}
use Rattle.cm_text.specs.Rules.{Rules}
use Rattle.cm_text.specs.Addresses.{is_followed}
use Rattle.cm_tree.specs.declared.tree.Inline.{Inline, Inline-F}
use Rattle.cm_tree.specs.declared.tree.Inline.TheOpen as inline
use Rattle.cm_tree.specs.declared.tree.Inline.TheFolds.{fold-Inline}
use Rattle.cm_tree.specs.declared.tree.Block.{Block, Block-F}
use Rattle.cm_tree.specs.declared.tree.Block.TheOpen as block
use Rattle.cm_tree.specs.declared.tree.Block.TheFolds.{fold-Block}
use Rattle.cm_tree.specs.HeadingLevels.{all_of}

-- One inline, given the value for each inline of its content. The content of an image is its alternative text, which has no address.
abbrev pub followed_inline_step : Rules → Inline-F Bool → Bool
followed_inline_step rules (inline.Emph content) = all_of content
followed_inline_step rules (inline.Strong content) = all_of content
followed_inline_step rules (inline.Strike content) = all_of content
followed_inline_step rules (inline.Link dest title content) = is_followed rules dest && all_of content
followed_inline_step rules (inline.Image dest title content) = is_followed rules dest
followed_inline_step rules _ = true

-- each link and image in the inline has an address that the rules follow
abbrev pub inline_is_followed : Rules → Inline → Bool
inline_is_followed rules = fold-Inline Bool (followed_inline_step rules)

-- each link and image in the inlines, at any depth but in an image, has an address that the rules follow
abbrev pub inlines_are_followed : Rules → List Inline → Bool
inlines_are_followed rules inlines = all_of (map (inline_is_followed rules) inlines)

-- a line feed, a form feed or a carriage return
abbrev pub is_line_space : ℕ → Bool
is_line_space b = b == 10 || b == 12 || b == 13

-- an info string as the rules read it: without raw HTML it has no line feed, form feed or carriage return
abbrev pub is_read_info : Rules → List ℕ → Bool
is_read_info rules info = rules.raw_html || not (list_any is_line_space info)

-- one block, given the value for each block inside
abbrev pub followed_block_step : Rules → Block-F Bool → Bool
followed_block_step rules (block.Paragraph content) = inlines_are_followed rules content
followed_block_step rules (block.Heading level content) = inlines_are_followed rules content
followed_block_step rules (block.Code info text) = is_read_info rules info
followed_block_step rules (block.Quote blocks) = all_of blocks
followed_block_step rules (block.List kind tight items) = list_all all_of items
followed_block_step rules _ = true

-- the same of a block
abbrev pub block_is_followed : Rules → Block → Bool
block_is_followed rules = fold-Block Bool (followed_block_step rules)

-- Each link and image in the blocks, at any depth but in an image, has an address that the rules follow; and without raw HTML no info
-- string has a line feed, form feed or carriage return.
abbrev pub blocks_are_followed : Rules → List Block → Bool
blocks_are_followed rules blocks = all_of (map (block_is_followed rules) blocks)
