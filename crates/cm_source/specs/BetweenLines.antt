-- What is written of source between two lines.
use Rattle.std.specs.Prelude.{◌≡◌, ℕ, List, ◌++◌, length, string_bytes, Bool, true, false}
use Rattle.cm_scan.specs.Words.{trim_end_spaces}
use Rattle.cm_source.specs.declared.source_lines.SourceLines.{SourceLines}

-- a text after which the spaces of another can be stripped by themselves
abbrev pub IsEnded : List ℕ → Type 0
IsEnded done = (text : List ℕ) → trim_end_spaces (done ++ text) ≡ done ++ trim_end_spaces text

-- no line has been started, or only what comes before it has been written
abbrev pub StandsAt : (begun : Bool) → (line : ℕ) → (text done first front : List ℕ) → Type 0
StandsAt false line text done first front = (text ≡ done) × (first ≡ front)
StandsAt true line text done first front = (text ≡ done ++ first) × (line ≡ length text)

-- Between two lines, the next of which has been started or not: these lines are done, this comes before the next one, and this before those
-- that follow it.
pub record IsBetween (source : SourceLines) (begun : Bool) (done first front : List ℕ) : Type 0 where
  pub begun_is : source.begun ≡ begun
  pub stands : StandsAt begun source.line (string_bytes source.text) done first front
  pub front_is : string_bytes source.front ≡ front
  pub ended : IsEnded done
