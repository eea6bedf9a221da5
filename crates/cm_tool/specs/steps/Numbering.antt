-- How leaves are numbered while their inlines are read.
use Rattle.std.specs.Prelude.{◌≡◌, ℕ, List, ◌++◌, option_map}
use Rattle.cm_tool.specs.declared.fault.Fault.{Fault}
use Rattle.cm_tool.specs.declared.fault.Fault.TheVariants.{InlinesTooDeep}
use Rattle.cm_tool.specs.Leaves.{first_past}
use Rattle.cm_tool.specs.Parsing.{TellsFault}

-- No leaf of these depths is past the limit: where the first of them has the one number, the first after them has the other.
abbrev pub Passes : (limit first after : ℕ) → (depths : List ℕ) → Type 0
Passes limit first after depths = (more : List ℕ) → first_past limit first (depths ++ more) ≡ first_past limit after more

-- Leaves of these depths have been read but for the rest: where the first of all has the one number, the first of the rest has the other.
abbrev pub Left : (limit first next : ℕ) → (whole rest : List ℕ) → Type 0
Left limit first next whole rest = (more : List ℕ) → first_past limit first (whole ++ more) ≡ first_past limit next (rest ++ more)

-- why leaves of these depths aren't read, where the first of them has this number: the first past the limit, or lack of memory
abbrev pub TellsLeaf : Fault → (limit first : ℕ) → (depths : List ℕ) → Type 0
TellsLeaf fault limit first depths = (more : List ℕ) → TellsFault fault (option_map InlinesTooDeep (first_past limit first (depths ++ more)))
