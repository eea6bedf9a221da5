use Rattle.std.proofs.Common.{◌≡◌, ℕ, List, ◌++◌, length}
use denote.Text.{Utf8}
use denote.Shadow.{shadow}
use Rattle.cm_source.specs.Spelling.{ended_lines}
use Rattle.cm_source.specs.steps.WrittenLines.{Writes}
use Rattle.cm_source.proofs.source_lines.SourceLines.push_ended_lines.Given as goal

-- The lines that were taken off the front are written.
abbrev pub invariant-loop-at : goal.invariant-loop-at
invariant-loop-at l = shadow (Utf8 l.rest) × (done : List (List ℕ)) × (ended_lines l.text ≡ done ++ ended_lines l.rest) × Writes l.initial.self l.self done

abbrev pub decreases-loop-at : goal.decreases-loop-at
decreases-loop-at l = length l.rest
