use Rattle.std.proofs.Common.{drop}
use Rattle.std.specs.Prelude.{flat_map}
use Rattle.std.specs.List.{concat}
use Rattle.cm_html.proofs.lemmas.WritingLemmas.{Sent}
use Rattle.cm_html.proofs.writing.add_full.Given as goal

-- the pages that come next are left
abbrev pub invariant-loop-page : goal.invariant-loop-page
invariant-loop-page g l =
    Sent l.initial.out l.out (flat_map g.K.Phrases.written (concat l.pages)) (flat_map g.K.Phrases.written (concat (drop l.page-index l.pages)))
    (g.W.Sink.seen l.initial.sink) (g.W.Sink.seen l.sink)
