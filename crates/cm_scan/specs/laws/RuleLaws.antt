-- What trees contain with rules without raw HTML, and with rules that follow only the web's addresses.
use Rattle.std.specs.Prelude.{◌≡◌, ℕ, true, false, List}
use Rattle.cm_text.specs.Rules.{Rules}
use Rattle.cm_text.specs.Lines.{LineView}
use Rattle.cm_tree.specs.RawHtml.{blocks_have_raw, inlines_have_raw}
use Rattle.cm_tree.specs.Followed.{inlines_are_followed, blocks_are_followed}
use Rattle.cm_scan.specs.blocks.Blocks.{blocks_of}
use Rattle.cm_scan.specs.inlines.Brackets.{Defined}
use Rattle.cm_scan.specs.inlines.Inlines.{inlines_of}
use Rattle.cm_scan.specs.Documents.{tree_of}

-- With rules without raw HTML no lines have an HTML block.
abbrev pub NoHtmlBlock : Type 0
NoHtmlBlock = (rules : Rules) → rules.raw_html ≡ false → (lines : List LineView) → blocks_have_raw (blocks_of rules lines) ≡ false

-- With rules without raw HTML no source has raw HTML.
abbrev pub NoRawHtml : Type 0
NoRawHtml = (rules : Rules) → rules.raw_html ≡ false → (defined : Defined) (source : List ℕ) → inlines_have_raw (inlines_of rules defined source) ≡ false

-- With rules without raw HTML the tree of no text has an HTML block or raw HTML.
abbrev pub NoHtml : Type 0
NoHtml = (rules : Rules) → rules.raw_html ≡ false → (bytes : List ℕ) → blocks_have_raw (tree_of rules bytes) ≡ false

-- Each link and image of a source has an address that the rules follow, whatever is defined.
abbrev pub InlinesFollowed : Type 0
InlinesFollowed = (rules : Rules) (defined : Defined) (source : List ℕ) → inlines_are_followed rules (inlines_of rules defined source) ≡ true

-- Each link and image in the tree of a text has an address that the rules follow, and each info string is one
-- that they leave as it is.
abbrev pub TreesFollowed : Type 0
TreesFollowed = (rules : Rules) (bytes : List ℕ) → blocks_are_followed rules (tree_of rules bytes) ≡ true
