use Rattle.std.proofs.Common.{Ok, ◌∙◌, ap, map, sym}
use Rattle.cm_tool.specs.ExampleFiles.{examples_of}
use Rattle.cm_tool.specs.steps.ExampleSteps.{example_of}
use Rattle.cm_tool.proofs.running.tell_no_example.Goals as goal

pub returns : goal.returns
returns g c =
    let read = c.in_ok-text.ensures in
    let items = c.deref-2.result.now in
    let is = ap examples_of (sym (c.deref.ensures ∙ read.2.1)) ∙ c.in_ok-examples.ensures.examples ∙ ap (λ xs. Ok (map example_of xs)) (sym c.deref-2.ensures.value) in
    (read.0, read.1, (read.2.0, map example_of items, is, c.tell_if_none.ensures))
