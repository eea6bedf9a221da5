-- A text on the heap.
use Rattle.std.specs.Prelude.{ℕ, List, [], Option, Some, None}
use Rattle.std.specs.Arc.{arc_value}
use Rattle.std.specs.declared.alloc.Global.{Global}
use Rattle.std.specs.declared.sync.Arc.{Arc}

-- the bytes of the text in a box, or none if there is no box
abbrev pub boxed_bytes : Option (Arc (List ℕ) Global) → List ℕ
boxed_bytes None = []
boxed_bytes (Some text) = arc_value text
