-- Lines that continue an open paragraph whatever else is open: lazy continuation lines, and lines of text
-- (CommonMark 0.31.2, 5.1 Block quotes, 5.2 List items).
use Rattle.std.specs.Prelude.{◌≡◌, Bool, true, false}
use Rattle.cm_text.specs.Rules.{Rules}
use Rattle.cm_text.specs.Lines.{LineView}
use Rattle.cm_text.specs.TextLines.{is_text_after}
use Rattle.cm_scan.specs.blocks.Lines.{is_blank, content_of}
use Rattle.cm_scan.specs.blocks.Blocks.{add_text}
use Rattle.cm_block.specs.OpenLeaf.{OpenLeaf, open_text}
use Rattle.cm_block.specs.Machine.{Open, in_leaf, in_quote, in_item, has_open_text}
use Rattle.cm_block.specs.Level.{Level}
use Rattle.cm_block.specs.Stack.{Owned, stack, push_in}

-- an open run of text with one more line; any other leaf as it is
abbrev pub more_text : OpenLeaf → LineView → OpenLeaf
more_text (open_text source) line = open_text (add_text source line)
more_text x line = x

-- what is open, with the line added to the open run of text
unfoldable pub with_text : Open Level → LineView → Open Level
with_text (in_leaf x) line = in_leaf (more_text x line)
with_text (in_quote closed now) line = in_quote closed (with_text now line)
with_text (in_item kind column bare closed now) line = in_item kind column false closed (with_text now line)

-- A lazy continuation line is added to the open run of text, through every level, unread.
abbrev pub LazyLine : Type 0
LazyLine = (rules : Rules) (line : LineView) (in_a_quote : Bool) (s : Owned) (v : Level) (now : Open Level)
    → line.lazy ≡ true → is_blank line ≡ false → has_open_text now ≡ true → push_in rules in_a_quote s v now line ≡ stack v (with_text now line) s

-- So is a line whose content begins as text, whatever its indentation.
abbrev pub TextGoesOn : Type 0
TextGoesOn = (rules : Rules) (line : LineView) (in_a_quote : Bool) (s : Owned) (v : Level) (now : Open Level)
    → is_text_after 0 (content_of line) ≡ true → has_open_text now ≡ true → push_in rules in_a_quote s v now line ≡ stack v (with_text now line) s
