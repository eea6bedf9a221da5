-- Lines of a buffer that are passed to the blocks.
use Rattle.std.specs.Prelude.{◌≡◌, ℕ, ◌+◌, List, ◌++◌, length}
use Rattle.cm_text.specs.Lines.{LineView}
use Rattle.cm_text.specs.Feed.{Feed, StandsFor, with_ready}
use Rattle.cm_block.specs.declared.parser.BlockParser.{BlockParser}
use Rattle.cm_block.specs.Parser.{HasTaken}

-- from one buffer to the other these lines have been passed
pub record Passed (old new : Feed) (front : List LineView) : Type 0 where
  pub same : new ≡ with_ready new.cut.ended old
  pub parts : front ++ new.cut.ended ≡ old.cut.ended
  pub stands : (bytes : List ℕ) (taken : ℕ) → StandsFor old bytes taken → StandsFor new bytes (taken + length front)

-- and the blocks have been given them
abbrev pub Hands : Feed → BlockParser → Feed → BlockParser → Type 0
Hands old before new after =
    (front : List LineView) × Passed old new front × ((lines : List LineView) → HasTaken before lines → HasTaken after (lines ++ front))
