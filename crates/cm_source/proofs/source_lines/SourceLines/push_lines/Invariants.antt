use Rattle.std.proofs.Common.{◌≡◌, ℕ, List, ◌++◌, length}
use denote.Text.{Utf8}
use denote.Shadow.{shadow}
use Rattle.cm_source.specs.steps.WrittenLines.{Lays}
use Rattle.cm_source.proofs.source_lines.SourceLines.push_lines.Given as goal

-- What was taken off the front is written.
abbrev pub invariant-loop-at : goal.invariant-loop-at
invariant-loop-at l = shadow (Utf8 l.rest) × (done : List ℕ) × (l.text ≡ done ++ l.rest) × Lays l.initial.self l.self done

abbrev pub decreases-loop-at : goal.decreases-loop-at
decreases-loop-at l = length l.rest
