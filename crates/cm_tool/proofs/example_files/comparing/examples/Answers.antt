use Rattle.cm_tool.proofs.example_files.comparing.examples.Goals as goal

pub returns : goal.returns
returns c = rw c.profile.ensures at c.examples_by.ensures
