-- The source that is spelled for a tree, line by line (CommonMark 0.31.2, chapters 4 and 5).
use Rattle.std.specs.Prelude.{ℕ, suc, ◌+◌, max, Bool, true, false, not, ◌==◌, if◌then◌else◌, List, [], ◌∷◌, ◌++◌, length, replicate, map, flat_map, codes}
use Rattle.std.specs.Fmt.{decimal}
use Rattle.std.specs.Str.{byte}
use Rattle.cm_tree.specs.declared.tree.Inline.{Inline}
use Rattle.cm_tree.specs.declared.tree.Block.{Block, Block-F}
use Rattle.cm_tree.specs.declared.tree.Block.TheOpen as block
use Rattle.cm_tree.specs.declared.tree.Block.TheFolds.{fold-Block}
use Rattle.cm_tree.specs.declared.tree.ListKind.{ListKind}
use Rattle.cm_tree.specs.declared.tree.ListKind.TheVariants.{Dash, Plus, Star, Dot, Paren}
use Rattle.cm_source.specs.Texts.{longest_run, spelled_text}
use Rattle.cm_source.specs.Inlines.{spelled_content}

-- a byte added to the front of the first of some lines
abbrev pub in_front : ℕ → List (List ℕ) → List (List ℕ)
in_front b [] = (b ∷ []) ∷ []
in_front b (line ∷ lines) = (b ∷ line) ∷ lines

-- the lines of a text, separated by line feeds
unfoldable pub parted_lines : List ℕ → List (List ℕ)
parted_lines [] = [] ∷ []
parted_lines (b ∷ bs) = if b == byte "\n" then [] ∷ parted_lines bs else in_front b (parted_lines bs)

-- the lines of a text, each followed by a line feed
unfoldable pub ended_lines : List ℕ → List (List ℕ)
ended_lines [] = []
ended_lines (b ∷ bs) = if b == byte "\n" then [] ∷ ended_lines bs else in_front b (ended_lines bs)

-- a space before a text, unless it is empty
abbrev pub spaced : List ℕ → List ℕ
spaced [] = []
spaced (b ∷ bs) = byte " " ∷ b ∷ bs

-- a space before content, unless it is empty
abbrev pub after_space : List Inline → List ℕ
after_space [] = []
after_space (inline ∷ content) = byte " " ∷ spelled_content (inline ∷ content)

-- An ATX heading: `#` as often as its level says, and the content (4.2 ATX headings).
abbrev pub heading_lines : ℕ → List Inline → List (List ℕ)
heading_lines level content = parted_lines (replicate level (byte "#") ++ after_space content)

-- A code fence has three backticks, or one more than the longest run in the text (4.5 Fenced code blocks).
abbrev pub fence_around : List ℕ → List ℕ
fence_around text = replicate (max 3 (suc (longest_run 0 text))) (byte "`")

abbrev pub code_lines : (info text : List ℕ) → List (List ℕ)
code_lines info text = (fence_around text ++ spelled_text true true info) ∷ ended_lines text ++ (fence_around text ∷ [])

-- one empty line, or none
abbrev pub gap : Bool → List (List ℕ)
gap true = [] ∷ []
gap false = []

-- the lines of some blocks or items, with an empty line between two or none
abbrev pub joined : (apart : Bool) → List (List (List ℕ)) → List (List ℕ)
joined apart [] = []
joined apart (first ∷ others) = first ++ flat_map (λ lines. gap apart ++ lines) others

-- Each line of a block quote follows `> `, and an empty one `>`; a block quote without blocks has one empty line
-- (5.1 Block quotes).
abbrev pub quoted : List ℕ → List ℕ
quoted line = byte ">" ∷ spaced line

abbrev pub quote_lines : List (List ℕ) → List (List ℕ)
quote_lines [] = quoted [] ∷ []
quote_lines (line ∷ lines) = map quoted (line ∷ lines)

-- Each item of an ordered list has the start number of the list (5.2 List items).
abbrev pub marker : ListKind → List ℕ
marker Dash = codes "-"
marker Plus = codes "+"
marker Star = codes "*"
marker (Dot start) = decimal start ++ codes "."
marker (Paren start) = decimal start ++ codes ")"

-- the given number of spaces before a line, unless it is empty
abbrev pub indented : ℕ → List ℕ → List ℕ
indented columns [] = []
indented columns (b ∷ bs) = replicate columns (byte " ") ++ b ∷ bs

-- The first line of an item follows its marker and a space, and the others are indented as far; an item without
-- blocks is its marker (5.2 List items).
abbrev pub item_lines : List ℕ → List (List ℕ) → List (List ℕ)
item_lines mark [] = mark ∷ []
item_lines mark (line ∷ lines) = (mark ++ spaced line) ∷ map (indented (length mark + 1)) lines

-- An empty line is between the items of a loose list, and between the blocks of each; in a tight list there is none
-- (5.3 Lists).
abbrev pub list_lines : ListKind → (tight : Bool) → List (List (List (List ℕ))) → List (List ℕ)
list_lines kind tight items = joined (not tight) (map (λ blocks. item_lines (marker kind) (joined (not tight) blocks)) items)

-- the line of a thematic break
abbrev pub break_line : List ℕ
break_line = codes "___"

-- One block, given the lines of each block inside. A definition is never spelled.
abbrev pub block_step : Block-F (List (List ℕ)) → List (List ℕ)
block_step (block.Paragraph content) = parted_lines (spelled_content content)
block_step (block.Heading level content) = heading_lines level content
block_step (block.Code info text) = code_lines info text
block_step (block.Html text) = ended_lines text
block_step block.Break = break_line ∷ []
block_step (block.Definition label dest title) = []
block_step (block.Quote blocks) = quote_lines (joined true blocks)
block_step (block.List kind tight items) = list_lines kind tight items

-- the lines of a block
abbrev pub lines_of_block : Block → List (List ℕ)
lines_of_block = fold-Block (List (List ℕ)) block_step

-- blocks, with an empty line between two or none
abbrev pub lines_of_blocks : (apart : Bool) → List Block → List (List ℕ)
lines_of_blocks apart blocks = joined apart (map lines_of_block blocks)

-- the source of a document: an empty line between two blocks, and a line feed after each line
abbrev pub spelling_of : List Block → List ℕ
spelling_of blocks = flat_map (λ line. line ++ byte "\n" ∷ []) (lines_of_blocks true blocks)
