use Rattle.std.proofs.Common.{◌≡◌, ◌+◌, length, map}
use Rattle.cm_text.specs.Lines.{lines_of}
use Rattle.cm_tool.specs.ExampleFiles.{examples_from, examples_of, Outside}
use Rattle.cm_tool.specs.steps.ExampleSteps.{example_of, put_examples}
use Rattle.cm_tool.proofs.example_files.examples_in.Given as goal

-- the examples so far, and those of the lines that are left, are all
abbrev pub invariant-loop-line : goal.invariant-loop-line
invariant-loop-line l =
    put_examples (map example_of l.examples.items) (examples_from Outside (l.lines.taken + 1) (lines_of l.lines.rest.now)) ≡ examples_of l.text

abbrev pub decreases-loop-line : goal.decreases-loop-line
decreases-loop-line l = length l.lines.rest.now
