use Rattle.std.proofs.Common.{◌+◌, ◌-◌, ◌<◌, ◌≤◌, length, inl, inr, sym, arith}
use Rattle.std.proofs.lemmas.Bool.{cases_lt}
use Rattle.std.proofs.lemmas.Simd.{run_in_chunk_fails, run_in_chunk_stops}
use Rattle.cm_text.proofs.lemmas.SearchLemmas.{place-is}
use Rattle.cm_text.proofs.search.next_of.Goals as goal

pub returns-in-Some : goal.returns-in-Some
returns-in-Some g c = record {
  next = let bs = c.args.bytes.now in
      let at = c.loop-at.at in
      let run = c.in-Some.run' in
      let fits : at + 16 ≤ length bs = omega arith in
      let low : run < 16 = c.in-Some.ensures.within in
      let before = run_in_chunk_fails g.K.ByteKind.passes bs at 16 run 0 fits c.in-Some.ensures.some in
      let stop = run_in_chunk_stops g.K.ByteKind.passes bs at 16 run 0 fits c.in-Some.ensures.some low in
      place-is g.K.ByteKind.passes bs c.args.from (at + run) (omega arith) (omega (arith, low))
      (λ k from below. elim (cases_lt k at) [ inl early ↦ c.loop-at.invariant.passed k from early | inr late ↦ before k late below ]) (λ below. stop);
}

pub loop-at-preserved : goal.loop-at-preserved
loop-at-preserved g c =
    let bs = c.args.bytes.now in
    let at = c.loop-at.at in
    let fits : at + 16 ≤ length bs = omega arith in
    let before = run_in_chunk_fails g.K.ByteKind.passes bs at 16 16 0 fits (sym (c.run_of_16.ensures.none c.in_default.is)) in
    record {
      low = omega arith;
      within = omega arith;
      passed = λ k from below. elim (cases_lt k at) [ inl early ↦ c.loop-at.invariant.passed k from early | inr late ↦ before k late (omega arith) ];
    }

-- the last 16

pub returns-in-Some-run_of_16 : goal.returns-in-Some-run_of_16
returns-in-Some-run_of_16 g c = record {
  next = let bs = c.args.bytes.now in
      let last = length bs - 16 in
      let run = c.in-Some-run_of_16.run' in
      let fits : last + 16 ≤ length bs = omega arith in
      let low : run < 16 = c.in-Some-run_of_16.ensures.within in
      let before = run_in_chunk_fails g.K.ByteKind.passes bs last 16 run 0 fits c.in-Some-run_of_16.ensures.some in
      let stop = run_in_chunk_stops g.K.ByteKind.passes bs last 16 run 0 fits c.in-Some-run_of_16.ensures.some low in
      place-is g.K.ByteKind.passes bs c.args.from (last + run) (omega arith) (omega (arith, low))
      (λ k from below. elim (cases_lt k last) [ inl early ↦ c.loop-at.invariant.passed k from (omega arith) | inr late ↦ before k late below ]) (λ below. stop);
}

pub returns-in-None : goal.returns-in-None
returns-in-None g c = record {
  next = let bs = c.args.bytes.now in
      let last = length bs - 16 in
      let fits : last + 16 ≤ length bs = omega arith in
      let before = run_in_chunk_fails g.K.ByteKind.passes bs last 16 16 0 fits (sym (c.run_of_16-2.ensures.none c.in-None.is)) in
      place-is g.K.ByteKind.passes bs c.args.from (length bs) (omega arith) (omega arith)
      (λ k from below. elim (cases_lt k last) [ inl early ↦ c.loop-at.invariant.passed k from (omega arith) | inr late ↦ before k late (omega arith) ])
      (λ (below : length bs < length bs). absurd (omega arith));
}
