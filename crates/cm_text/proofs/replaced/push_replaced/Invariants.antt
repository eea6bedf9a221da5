use Rattle.std.proofs.Common.{◌≡◌, ◌++◌, length}
use Rattle.std.specs.Prelude.{flat_map, string_bytes}
use denote.Text.{Utf8}
use denote.Shadow.{shadow}
use Rattle.cm_text.proofs.replaced.push_replaced.Given as goal

-- what was written, and what the rest adds, come to the whole
abbrev pub invariant-loop-at : goal.invariant-loop-at
invariant-loop-at g l = shadow (Utf8 l.rest) × (string_bytes l.out ++ flat_map g.K.Replaced.written l.rest ≡ string_bytes l.initial.out ++ flat_map g.K.Replaced.written l.text)

abbrev pub decreases-loop-at : goal.decreases-loop-at
decreases-loop-at g l = length l.rest
