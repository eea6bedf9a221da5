-- The listing of a tree: one node a line, and then the owner of each line of the source.
use Rattle.std.specs.Prelude.{ℕ, zero, suc, ◌/◌, ◌%◌, ◌==◌, Bool, true, false, List, [], ◌∷◌, ◌++◌, map, codes, if◌then◌else◌, flat_map}
use Rattle.std.specs.Fmt.{decimal, digit_glyph}
use Rattle.std.specs.Char.{is_ascii_control}
use Rattle.std.specs.Str.{byte}
use Rattle.cm_tree.specs.declared.tree.Inline.{Inline, Inline-F}
use Rattle.cm_tree.specs.declared.tree.Inline.TheOpen as inline
use Rattle.cm_tree.specs.declared.tree.Inline.TheFolds.{fold-Inline}
use Rattle.cm_tree.specs.declared.tree.Block.{Block, Block-F}
use Rattle.cm_tree.specs.declared.tree.Block.TheOpen as block
use Rattle.cm_tree.specs.declared.tree.Block.TheFolds.{fold-Block}
use Rattle.cm_tree.specs.declared.tree.ListKind.{ListKind}
use Rattle.cm_tree.specs.declared.tree.ListKind.TheVariants.{Dash, Plus, Star, Dot, Paren}
use Rattle.cm_tree.specs.declared.tree.Owner.{Owner}
use Rattle.cm_tree.specs.declared.tree.Owner.TheVariants.{Leaf, Marker, Blank}

-- a byte between quotes: `\`, `"`, line feeds and other ASCII control characters are escaped
abbrev pub quote_byte : ℕ → List ℕ
quote_byte b =
    if b == byte "\\" then codes "\\\\"
    else (if b == byte "\"" then codes "\\\"" else (if b == byte "\n" then codes "\\n"
    else (if is_ascii_control b then codes "\\x" ++ digit_glyph false (b / 16) ∷ digit_glyph false (b % 16) ∷ [] else b ∷ [])))

-- a text between quotes, in which `\`, `"`, line feeds and other ASCII control characters are escaped
abbrev pub quoted : List ℕ → List ℕ
quoted text = codes "\"" ++ flat_map quote_byte text ++ codes "\""

-- two spaces for each node around a line
abbrev pub margin : ℕ → List ℕ
margin zero = []
margin (suc depth) = codes "  " ++ margin depth

-- texts between quotes, each after a space
abbrev pub all_quoted : List (List ℕ) → List ℕ
all_quoted [] = []
all_quoted (text ∷ texts) = codes " " ++ quoted text ++ all_quoted texts

-- the line of a node with the given number of nodes around it: a word, and then texts
abbrev pub line : ℕ → List ℕ → List (List ℕ) → List ℕ
line depth word texts = margin depth ++ word ++ all_quoted texts ++ codes "\n"

-- the listing of a node, given the number of nodes around it
abbrev pub Listed : Type 0
Listed = ℕ → List ℕ

-- nodes, one after another
abbrev pub all_at : ℕ → List Listed → List ℕ
all_at depth [] = []
all_at depth (node ∷ nodes) = node depth ++ all_at depth nodes

-- a node that contains others
abbrev pub holder : ℕ → List ℕ → List (List ℕ) → List Listed → List ℕ
holder depth word texts nodes = line depth word texts ++ all_at (suc depth) nodes

-- one inline, given the listing of each inline of its content
abbrev pub listed_inline_step : Inline-F Listed → Listed
listed_inline_step (inline.Text text) depth = line depth (codes "text") (text ∷ [])
listed_inline_step (inline.Code text) depth = line depth (codes "code") (text ∷ [])
listed_inline_step (inline.Html text) depth = line depth (codes "html") (text ∷ [])
listed_inline_step inline.Soft depth = line depth (codes "soft") []
listed_inline_step inline.Hard depth = line depth (codes "hard") []
listed_inline_step (inline.Emph content) depth = holder depth (codes "emph") [] content
listed_inline_step (inline.Strong content) depth = holder depth (codes "strong") [] content
listed_inline_step (inline.Strike content) depth = holder depth (codes "strike") [] content
listed_inline_step (inline.Link dest title content) depth = holder depth (codes "link") (dest ∷ title ∷ []) content
listed_inline_step (inline.Image dest title content) depth = holder depth (codes "image") (dest ∷ title ∷ []) content

abbrev pub listed_inline : Inline → Listed
listed_inline = fold-Inline Listed listed_inline_step

abbrev pub listed_inlines : ℕ → List Inline → List ℕ
listed_inlines depth inlines = all_at depth (map listed_inline inlines)

abbrev pub tightness : Bool → List ℕ
tightness true = codes "tight"
tightness false = codes "loose"

abbrev pub list_mark : ListKind → List ℕ
list_mark Dash = codes "bullet -"
list_mark Plus = codes "bullet +"
list_mark Star = codes "bullet *"
list_mark (Dot start) = codes "ordered . " ++ decimal start
list_mark (Paren start) = codes "ordered ) " ++ decimal start

abbrev pub heading_line : ℕ → ℕ → List ℕ
heading_line depth level = line depth (codes "heading " ++ decimal level) []

abbrev pub list_line : ℕ → ListKind → Bool → List ℕ
list_line depth kind tight = line depth (codes "list " ++ list_mark kind ++ codes " " ++ tightness tight) []

abbrev pub all_items : ℕ → List (List Listed) → List ℕ
all_items depth [] = []
all_items depth (item ∷ items) = holder depth (codes "item") [] item ++ all_items depth items

-- one block, given the listing of each block inside
abbrev pub listed_step : Block-F Listed → Listed
listed_step (block.Paragraph content) depth = holder depth (codes "paragraph") [] (map listed_inline content)
listed_step (block.Heading level content) depth = heading_line depth level ++ listed_inlines (suc depth) content
listed_step (block.Code info text) depth = line depth (codes "code") (info ∷ text ∷ [])
listed_step (block.Html text) depth = line depth (codes "html") (text ∷ [])
listed_step block.Break depth = line depth (codes "break") []
listed_step (block.Definition label dest title) depth = line depth (codes "definition") (label ∷ dest ∷ title ∷ [])
listed_step (block.Quote blocks) depth = holder depth (codes "quote") [] blocks
listed_step (block.List kind tight items) depth = list_line depth kind tight ++ all_items (suc depth) items

abbrev pub listed : Block → Listed
listed = fold-Block Listed listed_step

abbrev pub listed_blocks : ℕ → List Block → List ℕ
listed_blocks depth blocks = all_at depth (map listed blocks)

abbrev pub owner_text : Owner → List ℕ
owner_text (Leaf leaf) = codes "leaf " ++ decimal leaf
owner_text Marker = codes "marker"
owner_text Blank = codes "blank"

abbrev pub owner_line : ℕ → Owner → List ℕ
owner_line number owner = codes "owner " ++ decimal number ++ codes " " ++ owner_text owner ++ codes "\n"

-- the owners of the lines, starting from this number
abbrev pub owners_from : ℕ → List Owner → List ℕ
owners_from number [] = []
owners_from number (owner ∷ owners) = owner_line number owner ++ owners_from (suc number) owners

-- the listing of blocks and of the owners of the lines of the source
abbrev pub listing_of : List Block → List Owner → List ℕ
listing_of blocks owners = listed_blocks 0 blocks ++ owners_from 1 owners
