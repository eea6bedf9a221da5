-- How often a line is read.
use Rattle.std.specs.Prelude.{◌≡◌, ℕ, ◌-◌, ◌^◌}
use Rattle.cm_block.specs.declared.counted_line.CountedLine.{CountedLine}
use Rattle.cm_block.specs.Tests.{Counted}

-- a line by itself
abbrev pub Tested : (least most before after : ℕ) → Type 0
Tested = Counted (2 ^ 64 - 1)

-- it was read once, and all of it is left
pub record ReadOnce (before after : CountedLine) : Type 0 where
  pub same : after.rest ≡ before.rest
  pub tests : Tested 1 1 before.tests after.tests
