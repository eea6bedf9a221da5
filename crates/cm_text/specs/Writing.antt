-- What has been written to a sink. `Keeps` and `Appends` are the kit's, and so are `Consumes` and `IsAtEnd`
-- of sources (`Rattle.std.specs.Io.KnownBytes`): if the bytes aren't known, each holds.
use Rattle.std.specs.Prelude.{◌≡◌, ℕ, ◌+◌, ◌≤◌, List, length, take}
use Rattle.std.specs.Io.KnownBytes.{Appends, Keeps}
use Rattle.cm_text.specs.DeviceViews.{SinkView}

-- nothing was written
pub record IsUnwritten (old new : SinkView) : Type 0 where
  pub keeps : Keeps old.taken new.taken
  pub same : new.failed ≡ old.failed

-- these bytes were written, with the given number of failed writes
pub record Wrote (old new : SinkView) (bytes : List ℕ) (failures : ℕ) : Type 0 where
  pub appends : Appends old.taken new.taken bytes
  pub failed : new.failed ≡ old.failed + failures

-- a prefix of the bytes was written, and no write failed
abbrev pub WroteBeginning : SinkView → SinkView → List ℕ → Type 0
WroteBeginning old new bytes = (written : ℕ) × Wrote old new (take written bytes) 0

-- one write failed, and what was written is the prefix of the bytes with the given length
abbrev pub WroteFront : SinkView → SinkView → List ℕ → (written : ℕ) → Type 0
WroteFront old new bytes written = Wrote old new (take written bytes) 1 × (written ≤ length bytes)
