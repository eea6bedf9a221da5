use Rattle.cm_inline.proofs.lemmas.Words.{List, drop}
use Rattle.cm_inline.specs.steps.pairing.Passes.{WaitFrom}
use Rattle.cm_inline.specs.steps.pairing.Segments.{Segment}
use Rattle.cm_inline.proofs.lemmas.PassLoopLemmas.{Passing, Reaching}
use Rattle.cm_inline.proofs.runs.Runs.pair_waiting.Given as goal

abbrev pub invariant-loop-at : goal.invariant-loop-at
invariant-loop-at l = record {
  passing : Passing l.fn.self l.self l.bottoms l.from l.at;
  reaching : (front inside : List Segment) → WaitFrom l.from l.fn.self front inside → Reaching l.fn.self l.self l.bottoms inside (drop l.at l.fn.self.waiting.items);
}
