use Rattle.std.proofs.Common.{◌≡◌, ◌∙◌, ◌++◌, [], ◌∷◌, refl, string_bytes}
use Rattle.cm_tool.specs.ExampleFiles.{example_line, tab_for_arrow}
use Rattle.cm_tool.proofs.lemmas.ExampleLemmas.{char_put, if_put, is_arrow, line_put, no_arrow, rest_utf8}
use Rattle.cm_tool.proofs.example_files.push_line.Goals.{then-c-eq8594, else-c-eq8594}
use Rattle.cm_tool.proofs.example_files.push_line.Goals as goal

pub loop-c-init : goal.loop-c-init
loop-c-init c = rw (c.into_iter-c-iterator.ensures.into_iter_gives, c.chars-c-items.ensures.rest) (c.utf8.line, refl)

pub loop-c-preserved : goal.loop-c-preserved
loop-c-preserved c =
    let i = c.loop-c.invariant in
    let rest = c.loop-c.c-iterator.rest.now in
    let beyond = c.next.new.self.rest.now in
    let is = c.in-Some.ensures.steps.0 in
    let put_is : c.if-c-eq8594.push ≡ tab_for_arrow c.in-Some.c = elim c.if-c-eq8594.branch [
      | then-c-eq8594 w ↦ w.push-is ∙ is_arrow c.in-Some.c w.if-c-eq8594.true
      | else-c-eq8594 w ↦ w.push-is ∙ no_arrow c.in-Some.c w.if-c-eq8594.false
    ] in (
      rest_utf8 rest beyond c.in-Some.c i.0 is,
      rw c.in_ok-push.ensures.bytes
          (char_put (string_bytes c.loop-c.part) rest beyond (string_bytes c.args.part.now ++ example_line c.args.line.now) c.in-Some.c c.if-c-eq8594.push i.0 is put_is i.1),
    )

pub returns : goal.returns
returns c =
    if_put c.push_str.result (string_bytes c.loop-c.part) (string_bytes c.push_str.new.self) (10 ∷ []) (string_bytes c.args.part.now ++ example_line c.args.line.now)
    c.push_str.ensures.bytes
    (line_put (string_bytes c.loop-c.part) c.loop-c.c-iterator.rest.now (string_bytes c.args.part.now ++ example_line c.args.line.now) c.in-None.ensures.steps.0.0 c.loop-c.invariant.1)
