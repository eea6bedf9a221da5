use Rattle.std.proofs.Common.{◌∙◌, ◌+◌, string_bytes}
use Rattle.cm_text.specs.Lines.{lines_of}
use Rattle.cm_tool.proofs.lemmas.ExampleLemmas.{no_source, with_source, no_html, with_html}
use Rattle.cm_tool.proofs.example_files.Lines.take_example.Goals as goal

pub returns-in_default-clause-unclosed : goal.returns-in_default-clause-unclosed
returns-in_default-clause-unclosed c =
    let old = c.args.self.now in
    no_source _ _ old.taken (old.taken + 1) (lines_of old.rest.now) c.in_ok-source.ensures.part c.in_default.is

pub returns-in_default-2-clause-unclosed : goal.returns-in_default-2-clause-unclosed
returns-in_default-2-clause-unclosed c =
    let old = c.args.self.now in
    let between = c.take_part.new.self in
    with_source _ _ old.taken (old.taken + 1) (lines_of old.rest.now) c.in-Some.source c.in_ok-source.ensures.part c.in-Some.is
    ∙ no_html _ _ old.taken (between.taken + 1) (lines_of between.rest.now) (string_bytes c.in-Some.source) c.in_ok-html.ensures.part c.in_default-2.is

pub returns-clause-example : goal.returns-clause-example
returns-clause-example c =
    let old = c.args.self.now in
    let between = c.take_part.new.self in
    with_source _ _ old.taken (old.taken + 1) (lines_of old.rest.now) c.in-Some.source c.in_ok-source.ensures.part c.in-Some.is
    ∙ with_html _ _ old.taken (between.taken + 1) (lines_of between.rest.now) c.in-Some-2.html (string_bytes c.in-Some.source) c.in_ok-html.ensures.part c.in-Some-2.is
