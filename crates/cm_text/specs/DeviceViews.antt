-- What contracts see of the devices that bytes come from and go to.
use Rattle.std.specs.Prelude.{ℕ, List, Option}

-- a source: the bytes still to come, if they are known, and the number of failed reads
pub record SourceView : Type 0 where
  pub remaining : Option (List ℕ)
  pub failed : ℕ

-- a sink: the bytes that it has taken, if they are known, and the number of failed writes
pub record SinkView : Type 0 where
  pub taken : Option (List ℕ)
  pub failed : ℕ
