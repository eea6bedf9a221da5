-- Which trees can't be spelled so that they read back, and why not (CommonMark 0.31.2, chapters 4 and 5). The reason is the
-- first in document order, parents first.
use Rattle.std.specs.Prelude.{◌≡◌, ℕ, ◌^◌, Bool, true, false, not, ◌==◌, ◌&&◌, ◌||◌, nat_le, List, [], ◌∷◌, map, Option, Some, None}
use Rattle.std.specs.List.{list_any, list_all}
use Rattle.std.specs.Str.{byte, bytes_eq}
use Rattle.cm_text.specs.Rules.{Rules}
use Rattle.cm_text.specs.Lines.{lines_of, plain_lines_of}
use Rattle.cm_tree.specs.declared.tree.Block.{Block, Block-F}
use Rattle.cm_tree.specs.declared.tree.Block.TheOpen as block
use Rattle.cm_tree.specs.declared.tree.Block.TheFolds.{fold-Block}
use Rattle.cm_tree.specs.Followed.{is_read_info}
use Rattle.cm_tree.specs.declared.tree.ListKind.{ListKind}
use Rattle.cm_tree.specs.declared.tree.ListKind.TheVariants.{Dot, Paren}
use Rattle.cm_scan.specs.Words.{is_empty, begins_with, ◌<|>◌}
use Rattle.cm_scan.specs.spans.Autolinks.{ends_with}
use Rattle.cm_scan.specs.blocks.LineForms.{is_same_kind, most_digits}
use Rattle.cm_scan.specs.blocks.HtmlBlocks.{html_start, is_html_end, ends_at_blank_line}
use Rattle.cm_scan.specs.blocks.Parts.{Parts, none, leaf, html}
use Rattle.cm_scan.specs.blocks.Blocks.{parts_of}
use Rattle.cm_source.specs.declared.why.Why.{Why}
use Rattle.cm_source.specs.declared.why.Why.TheVariants.{Definition, Nul, Shape, CodeText, HtmlBlock, AdjacentLists, ItemBeginsWithList, Looseness, InfoOff}
use Rattle.cm_source.specs.InlineRefusals.{refused, has_nul, paragraph_refusal, heading_refusal}

-- What the blocks around a block see of it: what it is, and of a list its kind and whether its first item has a block.
pub data BlockFace : Type 0 where
  ParagraphFace : BlockFace
  CodeBlockFace : BlockFace
  QuoteFace : BlockFace
  ListFace : ListKind → (filled : Bool) → BlockFace
  OtherBlockFace : BlockFace

-- the first block is a list
abbrev pub is_list : List BlockFace → Bool
is_list (ListFace kind filled ∷ others) = true
is_list _ = false

-- an ordered list that doesn't start at 1, which can't interrupt a paragraph
abbrev pub begins_late : ListKind → Bool
begins_late (Dot start) = not (start == 1)
begins_late (Paren start) = not (start == 1)
begins_late kind = false

-- A code block can follow a paragraph without an empty line, and so can a block quote, and a list whose first item has a block
-- and which starts at 1 if it is ordered.
abbrev pub can_follow : BlockFace → Bool
can_follow CodeBlockFace = true
can_follow QuoteFace = true
can_follow (ListFace kind filled) = filled && not (begins_late kind)
can_follow face = false

-- An item of a tight list has at most one block, or a paragraph and a block that can follow it without an empty line.
abbrev pub is_tight_item : List BlockFace → Bool
is_tight_item [] = true
is_tight_item (one ∷ []) = true
is_tight_item (ParagraphFace ∷ next ∷ []) = can_follow next
is_tight_item blocks = false

-- a list with two elements or more
abbrev pub has_two : {A : Type 0} → List A → Bool
has_two (first ∷ second ∷ others) = true
has_two _ = false

-- Each item of a tight list is tight; a loose list has two items or more, or an item with two blocks or more.
abbrev pub is_as_said : (tight : Bool) → List (List BlockFace) → Bool
is_as_said true items = list_all is_tight_item items
is_as_said false items = has_two items || list_any has_two items

-- an ordered list that starts with a number of too many digits
abbrev pub begins_too_high : ListKind → Bool
begins_too_high (Dot start) = nat_le (10 ^ most_digits) start
begins_too_high (Paren start) = nat_le (10 ^ most_digits) start
begins_too_high kind = false

-- The text of a code block is empty or ends with a line feed, and has no carriage return.
abbrev pub is_code_text : List ℕ → Bool
is_code_text text = (is_empty text || ends_with (byte "\n") text) && not (list_any (λ b. b == byte "\r") text)

-- the last of some lines, or no text if there are none
abbrev pub last_line : List (List ℕ) → List ℕ
last_line [] = []
last_line (line ∷ []) = line
last_line (line ∷ next ∷ lines) = last_line (next ∷ lines)

-- the first of some lines, or no text if there are none
abbrev pub first_line : List (List ℕ) → List ℕ
first_line [] = []
first_line (line ∷ lines) = line

-- the last line of a text contains the end of an HTML block of the first line's kind, if that has one
abbrev pub is_html_ended : Rules → List ℕ → Bool
is_html_ended rules text = elim (html_start rules (first_line (lines_of text))) [
  | Some kind ↦ ends_at_blank_line kind || is_html_end kind (last_line (lines_of text))
  | None ↦ false
]

-- one HTML block with this text
abbrev pub is_html_part : List ℕ → Parts → Bool
is_html_part text (leaf (html read) lines none) = bytes_eq read text
is_html_part text parts = false

-- The text of an HTML block starts with `<`. Read alone it is this one block, and its last line contains the end of its kind,
-- if its kind has one.
abbrev pub is_html_block : Rules → List ℕ → Bool
is_html_block rules text = begins_with (byte "<") text && is_html_part text (parts_of rules (plain_lines_of text)) && is_html_ended rules text

-- A block as it is judged: what others see of it, and why it is refused after another.
pub record JudgedBlock : Type 0 where
  pub face : BlockFace
  pub refusal : (before : Option BlockFace) → Option Why

abbrev pub faces : List JudgedBlock → List BlockFace
faces blocks = map (λ (b : JudgedBlock). b.face) blocks

-- blocks, one after another
abbrev pub refusal_of_all : (before : Option BlockFace) → List JudgedBlock → Option Why
refusal_of_all before [] = None
refusal_of_all before (next ∷ others) = next.refusal before <|> refusal_of_all (Some next.face) others

abbrev pub refusal_of_items : List (List JudgedBlock) → Option Why
refusal_of_items [] = None
refusal_of_items (item ∷ items) = refusal_of_all None item <|> refusal_of_items items

-- a list of the same kind comes directly before
abbrev pub is_after_same : ListKind → Option BlockFace → Bool
is_after_same kind (Some (ListFace other filled)) = is_same_kind kind other
is_after_same kind _ = false

-- A list is refused if it has no items or starts with a number of too many digits, if it directly follows a list of its kind, if an item
-- starts with a list, or if it isn't as tight or loose as it says.
abbrev pub list_reasons : ListKind → (tight : Bool) → List (List BlockFace) → Option BlockFace → List (Bool × Why)
list_reasons kind tight items before =
    (not (list_any (λ item. true) items) || begins_too_high kind, Shape) ∷ (is_after_same kind before, AdjacentLists)
    ∷ (list_any is_list items, ItemBeginsWithList) ∷ (not (is_as_said tight items), Looseness) ∷ []

-- the first item of a list has a block
abbrev pub is_filled : List (List JudgedBlock) → Bool
is_filled ((block ∷ blocks) ∷ items) = true
is_filled _ = false

abbrev pub leaf_block : BlockFace → Option Why → JudgedBlock
leaf_block face refusal = record { face = face; refusal = λ before. refusal }

-- A code block is refused if it has U+0000, if its text isn't that of a code block, or if its info string has a line feed,
-- form feed or carriage return and the rules have no raw HTML.
abbrev pub code_reasons : Rules → (info text : List ℕ) → List (Bool × Why)
code_reasons rules info text =
    (has_nul info || has_nul text, Nul) ∷ (not (is_code_text text), CodeText) ∷ (not (is_read_info rules info), InfoOff) ∷ []

-- One block, given how each block inside is judged. A paragraph without content, a heading of a level other than 1 to 6, and
-- each definition is refused, and an HTML block if it has U+0000 or isn't one HTML block by itself.
abbrev pub block_step : Rules → Block-F JudgedBlock → JudgedBlock
block_step rules (block.Paragraph content) = leaf_block ParagraphFace (refused ((not (list_any (λ i. true) content), Shape) ∷ []) <|> paragraph_refusal rules content)
block_step rules (block.Heading level content) = leaf_block OtherBlockFace (refused ((not (nat_le 1 level && nat_le level 6), Shape) ∷ []) <|> heading_refusal rules content)
block_step rules (block.Code info text) = leaf_block CodeBlockFace (refused (code_reasons rules info text))
block_step rules (block.Html text) = leaf_block OtherBlockFace (refused ((has_nul text, Nul) ∷ (not (is_html_block rules text), HtmlBlock) ∷ []))
block_step rules block.Break = leaf_block OtherBlockFace None
block_step rules (block.Definition label dest title) = leaf_block OtherBlockFace (Some Definition)
block_step rules (block.Quote blocks) = leaf_block QuoteFace (refusal_of_all None blocks)
block_step rules (block.List kind tight items) = record {
  face = ListFace kind (is_filled items);
  refusal = λ before. refused (list_reasons kind tight (map faces items) before) <|> refusal_of_items items;
}

-- a block as it is judged
abbrev pub judged_block : Rules → Block → JudgedBlock
judged_block rules = fold-Block JudgedBlock (block_step rules)

-- the first reason why a tree can't be spelled, with these rules, if there is one
abbrev pub refusal_of : Rules → List Block → Option Why
refusal_of rules blocks = refusal_of_all None (map (judged_block rules) blocks)

-- there is no reason against the tree, so it can be spelled
abbrev pub IsSpellable : Rules → List Block → Type 0
IsSpellable rules blocks = refusal_of rules blocks ≡ None
