use Rattle.std.proofs.Common.{◌≡◌, ◌+◌, ◌≤◌, ℕ, List, drop, length}
use Rattle.cm_text.specs.Lines.{lines_after, lines_of}
use Rattle.cm_tool.proofs.lemmas.PlaceLemmas.{IsBegun}
use Rattle.cm_tool.proofs.fault_places.count_lines.Given as goal

-- the lines that have ended, and those of the rest after the line that is begun, are all
abbrev pub invariant-loop-b : goal.invariant-loop-b
invariant-loop-b l =
    (l.ended ≤ l.b-index)
    × ((line : List ℕ) × IsBegun l.is_begun line × (l.ended + length (lines_after l.after_return line (drop l.b-index l.bytes)) ≡ length (lines_of l.bytes)))
