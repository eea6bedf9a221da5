use Rattle.std.proofs.Common.{◌<◌, length, sym, ◌∙◌, arith}
use Rattle.cm_text.proofs.lemmas.SearchLemmas.{place-is}
use Rattle.cm_text.proofs.search.next_slowly.Goals as goal

pub returns-then-contains : goal.returns-then-contains
returns-then-contains g c = record { next = place-is g.K.ByteKind.passes c.args.bytes.now c.args.from c.loop-at.at (omega arith) (omega arith) c.loop-at.invariant (λ below. sym c.contains.ensures ∙ c.if-contains.true) }

pub returns : goal.returns
returns g c = record {
  next = let bs = c.args.bytes.now in
      place-is g.K.ByteKind.passes bs c.args.from (length bs) (omega arith) (omega arith) (λ k low below. c.loop-at.invariant k low (omega arith))
      (λ (below : length bs < length bs). absurd (omega arith));
}
