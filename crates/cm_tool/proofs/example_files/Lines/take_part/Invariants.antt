use Rattle.std.proofs.Common.{◌≡◌, ◌≤◌, ◌+◌, [], length, string_bytes}
use Rattle.cm_text.specs.Lines.{lines_of}
use Rattle.cm_tool.specs.steps.ExampleSteps.{part_from}
use Rattle.cm_tool.proofs.example_files.Lines.take_part.Given as goal

-- what was taken, and the lines that are left, come to the part
abbrev pub invariant-loop-line : goal.invariant-loop-line
invariant-loop-line l =
    (part_from l.end (string_bytes l.part) (l.self.taken + 1) (lines_of l.self.rest.now) ≡ part_from l.end [] (l.fn.self.taken + 1) (lines_of l.fn.self.rest.now))
    × (length l.self.rest.now ≤ length l.fn.self.rest.now)

abbrev pub decreases-loop-line : goal.decreases-loop-line
decreases-loop-line l = length l.self.rest.now
