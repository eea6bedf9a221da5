use Rattle.std.proofs.Common.{◌++◌, string_bytes}
use Rattle.cm_tool.specs.Shown.{shown}
use Rattle.cm_tool.proofs.lemmas.ExampleLemmas.{rest_utf8}
use Rattle.cm_tool.proofs.lemmas.ShownLemmas.{shown_end, shown_put}
use Rattle.cm_tool.proofs.shown.push_shown.Goals as goal

pub loop-c-preserved : goal.loop-c-preserved
loop-c-preserved c =
    let i = c.loop-c.invariant in
    let rest = c.loop-c.c-iterator.rest.now in
    let beyond = c.next.new.self.rest.now in
    let is = c.in-Some.ensures.steps.0 in (
      rest_utf8 rest beyond c.in-Some.c i.0 is,
      rw c.in_ok-push_shown_char.ensures
          (shown_put (string_bytes c.loop-c.out) rest beyond (string_bytes c.args.out.now ++ shown c.args.text.now) c.in-Some.c i.0 is i.1),
    )

pub returns : goal.returns
returns c =
    shown_end (string_bytes c.loop-c.out) c.loop-c.c-iterator.rest.now (string_bytes c.args.out.now ++ shown c.args.text.now) c.in-None.ensures.steps.0.0
    c.loop-c.invariant.1
