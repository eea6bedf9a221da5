-- The parts that the lines of a document form, in order (CommonMark 0.31.2, chapters 3 and 5). They determine the tree of blocks, the
-- owner of each line, whether a paragraph is left open, and how deep each line is nested.
use Rattle.std.specs.Prelude.{ℕ, suc, ◌+◌, Bool, true, false, not, ◌&&◌, ◌||◌, List, [], ◌∷◌, ◌++◌, nat_lt, Option, Some, None, map, replicate, if◌then◌else◌}
use Rattle.std.specs.Str.{byte}
use Rattle.cm_text.specs.Rules.{Rules}
use Rattle.cm_text.specs.Unescaping.{unescape}
use Rattle.cm_tree.specs.declared.tree.Block.{Block}
use Rattle.cm_tree.specs.declared.tree.Block.TheVariants.{Paragraph, Heading, Code, Html, Break, Definition, Quote, List as ListBlock}
use Rattle.cm_tree.specs.declared.tree.ListKind.{ListKind}
use Rattle.cm_tree.specs.declared.tree.Owner.{Owner}
use Rattle.cm_tree.specs.declared.tree.Owner.TheVariants.{Leaf, Marker, Blank}
use Rattle.cm_tree.specs.Followed.{is_line_space}
use Rattle.cm_tree.specs.RawBlocks.{raw_inlines}
use Rattle.cm_tree.specs.Definitions.{Target, Targets, add_all}
use Rattle.cm_scan.specs.Words.{given}
use Rattle.cm_scan.specs.blocks.LineForms.{is_same_kind}

-- a line feed, a form feed or a carriage return as a space
abbrev pub as_space : ℕ → ℕ
as_space b = if is_line_space b then byte " " else b

-- The info string of a code block, given its source: backslash escapes and references are resolved (2.4 Backslash escapes, 2.5 Entity
-- and numeric character references). Without raw HTML in the rules each line feed, form feed and carriage return in it is a space, so
-- it is one line with the same words for a reader of HTML.
unfoldable pub info_of : Rules → List ℕ → List ℕ
info_of rules source = if rules.raw_html then unescape source else map as_space (unescape source)

-- a leaf block; each string is as it is in the source, except for the info string of a code block
pub data LeafPart : Type 0 where
  paragraph : List ℕ → LeafPart
  heading : ℕ → List ℕ → LeafPart
  code : List ℕ → List ℕ → LeafPart
  html : List ℕ → LeafPart
  thematic_break : LeafPart
  definition : List ℕ → List ℕ → List ℕ → LeafPart

-- The parts of a list of lines: a blank line; a leaf block, with its number of lines; a block quote or a list, with the parts inside.
mutual
  pub data Parts : Type 0 where
    none : Parts
    blank : Parts → Parts
    leaf : LeafPart → ℕ → Parts → Parts
    quote : Parts → Parts → Parts
    list : ListKind → ItemParts → Parts → Parts

  -- items, with the number of blank lines between one and the next
  pub data ItemParts : Type 0 where
    last_item : Parts → ItemParts
    item : Parts → ℕ → ItemParts → ItemParts

-- a leaf block of the tree; in a destination and a title backslash escapes and references are resolved (2.4 Backslash escapes, 2.5
-- Entity and numeric character references), and a label is its source
abbrev pub leaf_block : LeafPart → Block
leaf_block (paragraph source) = Paragraph (raw_inlines source)
leaf_block (heading level source) = Heading level (raw_inlines source)
leaf_block (code info text) = Code info text
leaf_block (html text) = Html text
leaf_block thematic_break = Break
leaf_block (definition label dest title) = Definition label (unescape dest) (unescape title)

-- a lazy continuation line can follow the leaf
abbrev pub is_open_leaf : LeafPart → Bool
is_open_leaf (paragraph source) = true
is_open_leaf (definition label dest title) = true
is_open_leaf _ = false

-- whether the last line is a paragraph's or a definition's, at any depth, after lines for which the mark is the answer
unfoldable mutual
  pub leaves_open_after : (before : Bool) → Parts → Bool
  leaves_open_after before none = before
  leaves_open_after before (blank rest) = leaves_open_after false rest
  leaves_open_after before (leaf x lines rest) = leaves_open_after (is_open_leaf x) rest
  leaves_open_after before (quote inside rest) = leaves_open_after (leaves_open_after false inside) rest
  leaves_open_after before (list kind items rest) = leaves_open_after (items_leave_open items) rest

  pub items_leave_open : ItemParts → Bool
  items_leave_open (last_item inside) = leaves_open_after false inside
  items_leave_open (item inside blanks items) = items_leave_open items

-- the last line is a paragraph's or a definition's, at any depth, so a lazy continuation line can follow (5.1 Block quotes)
unfoldable pub leaves_paragraph_open : Parts → Bool
leaves_paragraph_open parts = leaves_open_after false parts

-- the items that come next, after blank lines or none, with the number of these and what follows
unfoldable pub next_items : ListKind → ℕ → Parts → Option (ℕ × ItemParts × Parts)
next_items kind blanks (blank rest) = next_items kind (suc blanks) rest
next_items kind blanks (list other items rest) = given (is_same_kind kind other) (blanks, items, rest)
next_items kind blanks _ = None

-- an item before these items, or by itself
abbrev pub put_before : ListKind → Parts → Parts → Option (ℕ × ItemParts × Parts) → Parts
put_before kind inside rest None = list kind (last_item inside) rest
put_before kind inside rest (Some following) = list kind (item inside following.0 following.1) following.2

-- An item before what follows it: if that starts with items of its kind, they are one list (5.3 Lists).
unfoldable pub put_item : ListKind → Parts → Parts → Parts
put_item kind inside rest = put_before kind inside rest (next_items kind 0 rest)

-- leaves before what follows them, each with its number of lines
unfoldable pub put_leaves : List (LeafPart × ℕ) → Parts → Parts
put_leaves [] rest = rest
put_leaves (x ∷ xs) rest = leaf x.0 x.1 (put_leaves xs rest)

-- Whether the last line is blank as seen at this level: the first line of an item and each line of a block quote has a marker. The
-- mark is the answer for the lines before.
unfoldable mutual
  pub ends_blank_after : (before : Bool) → Parts → Bool
  ends_blank_after before none = before
  ends_blank_after before (blank rest) = ends_blank_after true rest
  ends_blank_after before (leaf x lines rest) = ends_blank_after false rest
  ends_blank_after before (quote inside rest) = ends_blank_after false rest
  ends_blank_after before (list kind items rest) = ends_blank_after (items_end_blank items) rest

  pub items_end_blank : ItemParts → Bool
  items_end_blank (last_item (blank rest)) = ends_blank_after false rest
  items_end_blank (last_item inside) = ends_blank_after false inside
  items_end_blank (item inside blanks items) = items_end_blank items

-- A blank line comes directly before the second or a later block. The marks are of the lines before: whether there is a block, and
-- whether the last one is blank.
unfoldable pub is_separated : (block_before blank_before : Bool) → Parts → Bool
is_separated block_before blank_before none = false
is_separated block_before blank_before (blank rest) = is_separated block_before true rest
is_separated block_before blank_before (leaf x lines rest) = block_before && blank_before || is_separated true false rest
is_separated block_before blank_before (quote inside rest) = block_before && blank_before || is_separated true false rest
is_separated block_before blank_before (list kind items rest) = block_before && blank_before || is_separated true (items_end_blank items) rest

-- A list is loose if a blank line comes directly before its second or a later item, or directly before the second or a later block of
-- an item. Otherwise it is tight (5.3 Lists).
unfoldable pub is_loose : ItemParts → Bool
is_loose (last_item inside) = is_separated false false inside
is_loose (item inside blanks items) = is_separated false false inside || nat_lt 0 blanks || items_end_blank (last_item inside) || is_loose items

-- the blocks of the tree, without blank lines; the source of a paragraph or heading is one text
unfoldable mutual
  pub blocks_of_parts : Parts → List Block
  blocks_of_parts none = []
  blocks_of_parts (blank rest) = blocks_of_parts rest
  blocks_of_parts (leaf x lines rest) = leaf_block x ∷ blocks_of_parts rest
  blocks_of_parts (quote inside rest) = Quote (blocks_of_parts inside) ∷ blocks_of_parts rest
  blocks_of_parts (list kind items rest) = ListBlock kind (not (is_loose items)) (blocks_of_items items) ∷ blocks_of_parts rest

  pub blocks_of_items : ItemParts → List (List Block)
  blocks_of_items (last_item inside) = blocks_of_parts inside ∷ []
  blocks_of_items (item inside blanks items) = blocks_of_parts inside ∷ blocks_of_items items

-- how many leaves there are
unfoldable mutual
  pub leaf_count : Parts → ℕ
  leaf_count none = 0
  leaf_count (blank rest) = leaf_count rest
  leaf_count (leaf x lines rest) = suc (leaf_count rest)
  leaf_count (quote inside rest) = leaf_count inside + leaf_count rest
  leaf_count (list kind items rest) = item_leaf_count items + leaf_count rest

  pub item_leaf_count : ItemParts → ℕ
  item_leaf_count (last_item inside) = leaf_count inside
  item_leaf_count (item inside blanks items) = leaf_count inside + item_leaf_count items

-- a line from which a marker was removed
abbrev pub marked : Owner → Owner
marked Blank = Marker
marked (Leaf number) = Leaf number
marked Marker = Marker

-- the first line of an item, from which its marker was removed, if it is blank after that
abbrev pub marked_head : List Owner → List Owner
marked_head [] = []
marked_head (owner ∷ owners) = Marker ∷ owners

-- the owners of an item's lines, by what comes first
abbrev pub marked_first : Parts → List Owner → List Owner
marked_first (blank rest) owners = marked_head owners
marked_first _ owners = owners

-- the owner of each line, after the given number of leaves
unfoldable mutual
  pub owners_after : ℕ → Parts → List Owner
  owners_after before none = []
  owners_after before (blank rest) = Blank ∷ owners_after before rest
  owners_after before (leaf x lines rest) = replicate lines (Leaf (suc before)) ++ owners_after (suc before) rest
  owners_after before (quote inside rest) = map marked (owners_after before inside) ++ owners_after (before + leaf_count inside) rest
  owners_after before (list kind items rest) = item_owners_after before items ++ owners_after (before + item_leaf_count items) rest

  pub item_owners_after : ℕ → ItemParts → List Owner
  item_owners_after before (last_item inside) = marked_first inside (owners_after before inside)
  item_owners_after before (item inside blanks items) =
      marked_first inside (owners_after before inside) ++ replicate blanks Blank ++ item_owners_after (before + leaf_count inside) items

-- The owner of each line: the number of its leaf, or none if only a container's marker was removed from it, or it is blank.
unfoldable pub line_owners : Parts → List Owner
line_owners parts = owners_after 0 parts

-- how many block quotes and list items each line is in
unfoldable mutual
  pub depths_of : Parts → List ℕ
  depths_of none = []
  depths_of (blank rest) = 0 ∷ depths_of rest
  depths_of (leaf x lines rest) = replicate lines 0 ++ depths_of rest
  depths_of (quote inside rest) = map suc (depths_of inside) ++ depths_of rest
  depths_of (list kind items rest) = item_depths_of items ++ depths_of rest

  pub item_depths_of : ItemParts → List ℕ
  item_depths_of (last_item inside) = map suc (depths_of inside)
  item_depths_of (item inside blanks items) = map suc (depths_of inside) ++ replicate blanks 0 ++ item_depths_of items

-- the link reference definitions in the order of the document, each with its label, destination and title (4.7 Link reference
-- definitions)
unfoldable mutual
  pub definitions_in : Parts → List (List ℕ × Target)
  definitions_in none = []
  definitions_in (blank rest) = definitions_in rest
  definitions_in (leaf (definition label dest title) lines rest) = (label, (unescape dest, unescape title)) ∷ definitions_in rest
  definitions_in (leaf x lines rest) = definitions_in rest
  definitions_in (quote inside rest) = definitions_in inside ++ definitions_in rest
  definitions_in (list kind items rest) = item_definitions_in items ++ definitions_in rest

  pub item_definitions_in : ItemParts → List (List ℕ × Target)
  item_definitions_in (last_item inside) = definitions_in inside
  item_definitions_in (item inside blanks items) = definitions_in inside ++ item_definitions_in items

-- the table of these definitions, in which the first of matching labels counts (4.7 Link reference definitions)
unfoldable pub table_of : Parts → Targets
table_of parts = add_all [] (definitions_in parts)
