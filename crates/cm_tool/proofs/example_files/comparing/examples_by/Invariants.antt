use Rattle.cm_tool.proofs.lemmas.ExampleLemmas.{SoFar}
use Rattle.cm_tool.proofs.example_files.comparing.examples_by.Given as goal

abbrev pub invariant-loop-at : goal.invariant-loop-at
invariant-loop-at l = SoFar l.fn.rules l.example-items l.agree l.differ.items l.at
