use Rattle.std.proofs.Common.{drop}
use Rattle.std.specs.Prelude.{flat_map}
use Rattle.cm_html.specs.steps.Pages.{with_insertions, AreInOrder}
use Rattle.cm_html.proofs.lemmas.WritingLemmas.{Sent}
use Rattle.cm_html.proofs.writing.add_page.Given as goal

-- the rest of the page is left, with its places in order
abbrev pub invariant-loop-insertion : goal.invariant-loop-insertion
invariant-loop-insertion g l = record {
  left : Sent l.initial.out l.out (flat_map g.K.Phrases.written l.page)
      (flat_map g.K.Phrases.written (with_insertions l.from l.text (drop l.insertion-index l.insertions)))
      (g.W.Sink.seen l.initial.sink) (g.W.Sink.seen l.sink);
  order : AreInOrder l.from l.text (drop l.insertion-index l.insertions);
}
