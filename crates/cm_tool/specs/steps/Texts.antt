-- The bytes of a text that comes in pieces.
use Rattle.std.specs.Prelude.{◌≡◌, ℕ, List, None}
use Rattle.cm_text.specs.Limits.{LimitsView}
use Rattle.cm_text.specs.Feed.{Feed}

-- the bytes that have come, and the feed that is asked for their faults
pub record TextSoFar : Type 0 where
  pub feed : Feed
  pub bytes : List ℕ

-- these bytes have come, which settle no fault
pub record HasGathered (limits : LimitsView) (text : TextSoFar) (bytes : List ℕ) : Type 0 where
  pub limit : text.feed.limit ≡ limits.bytes
  pub sound : text.feed.fault ≡ None
  pub same : text.bytes ≡ bytes
