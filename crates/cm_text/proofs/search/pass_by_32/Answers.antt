use Rattle.std.proofs.Common.{◌+◌, ◌≤◌, length, inl, inr, sym, ◌∙◌, arith}
use Rattle.std.proofs.lemmas.Bool.{cases_lt}
use Rattle.std.proofs.lemmas.Simd.{run_in_chunk_fails}
use Rattle.cm_text.proofs.lemmas.SearchLemmas.{not-some}
use Rattle.cm_text.proofs.search.pass_by_32.Goals as goal

pub loop-at-preserved : goal.loop-at-preserved
loop-at-preserved g c =
    let bs = c.args.bytes.now in
    let at = c.loop-at.at in
    let fits : at + 16 ≤ length bs = omega arith in
    let fits-more : at + 16 + 16 ≤ length bs = omega arith in
    let none = not-some c.run_of_16-first.result (sym c.is_some.ensures ∙ c.if-is_some.false) in
    let no-more = not-some c.run_of_16-second.result (sym c.is_some-else-is_some.ensures ∙ c.if-is_some-2.false) in
    let first = run_in_chunk_fails g.K.ByteKind.passes bs at 16 16 0 fits (sym (c.run_of_16-first.ensures.none none)) in
    let second = run_in_chunk_fails g.K.ByteKind.passes bs (at + 16) 16 16 0 fits-more (sym (c.run_of_16-second.ensures.none no-more)) in
    record {
      low = omega arith;
      within = omega arith;
      passed = λ k low below. elim (cases_lt k at) [
        | inl early ↦ c.loop-at.invariant.passed k low early
        | inr late ↦ elim (cases_lt k (at + 16)) [ inl mid ↦ first k late (omega arith) | inr far ↦ second k far (omega arith) ]
      ];
    }
