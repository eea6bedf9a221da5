use Rattle.std.proofs.Common.{length}
use Rattle.std.specs.Prelude.{flat_map}
use Rattle.cm_html.proofs.lemmas.WritingLemmas.{Sent}
use Rattle.cm_html.proofs.outgoing.Outgoing.add_text.Given as goal

-- what the rest of the text makes is left
abbrev pub invariant-loop-at : goal.invariant-loop-at
invariant-loop-at g l =
    Sent l.initial.self l.self (flat_map g.K.Phrases.written l.text) (flat_map g.K.Phrases.written l.rest) (g.W.Sink.seen l.initial.sink) (g.W.Sink.seen l.sink)

abbrev pub decreases-loop-at : goal.decreases-loop-at
decreases-loop-at g l = length l.rest
