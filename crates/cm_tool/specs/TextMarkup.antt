-- What the HTML of a text's bytes can contain.
use Rattle.std.specs.Prelude.{◌≡◌, ℕ, true, false, Some, List}
use Rattle.cm_text.specs.Rules.{Rules}
use Rattle.cm_tree.specs.HeadingLevels.{have_levels}
use Rattle.cm_tree.specs.RawHtml.{blocks_have_raw}
use Rattle.cm_html.specs.Markup.{tags_in}
use Rattle.cm_html.specs.Tags.{tags_of}
use Rattle.cm_scan.specs.Documents.{tree_of}
use Rattle.cm_tool.specs.Writing.{converted}

-- Each heading in the tree of a text has a level from 1 to 6.
abbrev pub HeadingLevels : Type 0
HeadingLevels = (rules : Rules) (bytes : List ℕ) → have_levels (tree_of rules bytes) ≡ true

-- If the tree of a text has no raw HTML, then its HTML is markup whose tags are those of the tree, and each address there is one
-- that the rules follow.
abbrev pub TextIsNoMarkup : Type 0
TextIsNoMarkup = (rules : Rules) (bytes : List ℕ) → blocks_have_raw (tree_of rules bytes) ≡ false → tags_in rules (converted rules bytes) ≡ Some (tags_of (tree_of rules bytes))

-- With rules without raw HTML the same holds of every text, and each class is one word.
abbrev pub TextsFromStrangers : Type 0
TextsFromStrangers = (rules : Rules) → rules.raw_html ≡ false → (bytes : List ℕ) → tags_in rules (converted rules bytes) ≡ Some (tags_of (tree_of rules bytes))
