-- What one more piece does that is given to a feed. The lines that end in it go to the blocks.
use Rattle.std.specs.Prelude.{◌≡◌, ℕ, ◌+◌, ◌≤◌, false, List, ◌++◌, length, Result, OnOk}
use Rattle.cm_text.specs.Limits.{LimitsView}
use Rattle.cm_text.specs.Feed.{Feed, count}
use Rattle.cm_block.specs.declared.parser.BlockParser.{BlockParser}
use Rattle.cm_tool.specs.declared.fault.Fault.{Fault}
use Rattle.cm_tool.specs.Faults.{settled_fault_of}
use Rattle.cm_tool.specs.Parsing.{Goes, Answers}

-- without a fault they stand for the piece too, whatever bytes they stood for, and a fault is returned just where these bytes settle it
pub record Pushes (answer : Result (Unit {0}) Fault) (piece : List ℕ) (old : Feed) (before : BlockParser) (new : Feed) (after : BlockParser) : Type 0 where
  pub goes : OnOk answer ((limits : LimitsView) (bytes : List ℕ) → Goes limits old before bytes → Goes limits new after (bytes ++ piece))
  pub settled : (limits : LimitsView) (bytes : List ℕ) → Goes limits old before bytes → Answers answer (settled_fault_of limits (bytes ++ piece))

-- the feed continues under its limit, and without a fault it has counted the bytes of the piece, and no more than that
pub record Counts (answer : Result (Unit {0}) Fault) (piece : List ℕ) (old new : Feed) : Type 0 where
  pub going : new.ended ≡ false
  pub limit : new.limit ≡ old.limit
  pub counted : OnOk answer (count new ≡ count old + length piece)
  pub within : OnOk answer (count new ≤ new.limit)
