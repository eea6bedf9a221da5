-- How many bytes the texts of blocks have.
use Rattle.std.specs.Prelude.{◌≡◌, ℕ, ◌+◌, ◌*◌, ◌≤◌, List, [], ◌∷◌, ◌++◌, length, codes}
use Rattle.cm_text.specs.Unescaping.{unescape}
use Rattle.cm_text.specs.Rules.{Rules, profile}
use Rattle.cm_text.specs.Lines.{text_of, plain_lines_of}
use Rattle.cm_scan.specs.blocks.Parts.{LeafPart, paragraph, heading, code, html, thematic_break, definition, Parts, none, blank, leaf, quote, list, ItemParts, last_item, item}
use Rattle.cm_scan.specs.blocks.Blocks.{parts_of}

-- the texts of a leaf's block: escapes and references in a destination and a title are resolved
abbrev pub leaf_size : LeafPart → ℕ
leaf_size (paragraph text) = length text
leaf_size (heading level text) = length text
leaf_size (code info text) = length info + length text
leaf_size (html text) = length text
leaf_size thematic_break = 0
leaf_size (definition label dest title) = length label + length (unescape dest) + length (unescape title)

unfoldable mutual
  -- the texts of all leaves
  pub part_sizes : Parts → ℕ
  part_sizes none = 0
  part_sizes (blank rest) = part_sizes rest
  part_sizes (leaf x lines rest) = leaf_size x + part_sizes rest
  part_sizes (quote inside rest) = part_sizes inside + part_sizes rest
  part_sizes (list kind items rest) = item_sizes items + part_sizes rest

  -- the same of items
  pub item_sizes : ItemParts → ℕ
  item_sizes (last_item inside) = part_sizes inside
  item_sizes (item inside blanks items) = part_sizes inside + item_sizes items

-- The texts of a document's blocks have at most three bytes for each of its own, and one more.
abbrev pub TextsAreShort : Type 0
TextsAreShort = (rules : Rules) (bytes : List ℕ) → part_sizes (parts_of rules (plain_lines_of (text_of bytes))) ≤ 3 * length bytes + 1

-- the texts of a text's blocks have this number of bytes
abbrev pub HasTexts : List ℕ → ℕ → Type 0
HasTexts text size = part_sizes (parts_of profile (plain_lines_of text)) ≡ size

pub record SizeExamples : Type 0 where
  pub paragraph_in_a_quote : HasTexts (codes "> a\n> *b*") 5
  pub resolved_title : HasTexts (codes "[a]: b '&amp;'") 3
  pub cut_tab : HasTexts (codes "- ```\n\t\n") 3
