use Rattle.std.proofs.Common.{◌≡◌, ◌++◌, drop, string_bytes}
use Rattle.cm_html.specs.steps.Pages.{with_insertions, AreInOrder}
use Rattle.cm_html.proofs.page.Page.push_to.Given as goal

-- what was added and what is left are all, with the places in order
abbrev pub invariant-loop-insertion : goal.invariant-loop-insertion
invariant-loop-insertion l = record {
  parts : string_bytes l.out ++ with_insertions l.from l.text (drop l.insertion-index l.insertions) ≡ string_bytes l.initial.out ++ l.self;
  order : AreInOrder l.from l.text (drop l.insertion-index l.insertions);
}
