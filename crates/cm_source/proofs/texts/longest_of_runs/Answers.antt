use Rattle.std.proofs.Common.{◌≡◌, ◌+◌, ◌==◌, ◌≤◌, max, get_or, drop, sym, ap, ◌∙◌, arith}
use Rattle.std.specs.Prelude.{if◌then◌else◌}
use Rattle.std.proofs.lemmas.Bool.{eq-eqb, ne_eqb}
use Rattle.cm_source.specs.Texts.{longest_run}
use Rattle.cm_source.proofs.lemmas.spelling.SpelledTexts.{run-step, run-end, longest-within}
use Rattle.cm_source.proofs.texts.longest_of_runs.Goals.{then-b-eq96, else-b-eq96}
use Rattle.cm_source.proofs.texts.longest_of_runs.Goals as goal

pub loop-b-preserved : goal.loop-b-preserved
loop-b-preserved c =
    let bs = c.as_bytes-b-items.result.now in
    let i = c.loop-b.b-index in
    let run = c.loop-b.run in
    let next : (if get_or bs i 0 == 96 then run + 1 else 0) ≡ c.if-b-eq96.run = elim c.if-b-eq96.branch [
      | then-b-eq96 w ↦ ap (λ v. if v then run + 1 else 0) (eq-eqb (get_or bs i 0) 96 w.if-b-eq96.true) ∙ sym w.run-is
      | else-b-eq96 w ↦ ap (λ v. if v then run + 1 else 0) (ne_eqb (get_or bs i 0) 96 w.if-b-eq96.false) ∙ sym w.run-is
    ] in
    let small : c.if-b-eq96.run ≤ i + 1 = elim c.if-b-eq96.branch [ then-b-eq96 w ↦ omega (arith, w.run-is, c.loop-b.invariant.few) | else-b-eq96 w ↦ omega (arith, w.run-is) ] in
    let most : c.max-longest.result ≡ max c.loop-b.longest c.if-b-eq96.run = grind (arith, c.max-longest.ensures) in
    let step = run-step c.loop-b.longest run c.if-b-eq96.run i bs (longest_run 0 c.args.text.now) c.loop-b-test.true c.loop-b.invariant.run_is next c.loop-b.invariant.rest in
    record {
      run_is = omega (arith, most);
      few = small;
      rest = ap (λ n. max n (longest_run c.if-b-eq96.run (drop (i + 1) bs))) most ∙ step;
    }

pub returns-clause-longest : goal.returns-clause-longest
returns-clause-longest c = run-end c.loop-b.longest c.loop-b.run c.loop-b.b-index c.as_bytes-b-items.result.now (longest_run 0 c.args.text.now) c.loop-b-test.false c.loop-b.invariant.run_is c.loop-b.invariant.rest

pub returns-clause-within : goal.returns-clause-within
returns-clause-within c =
    let text = c.args.text.now in
    let longest = run-end c.loop-b.longest c.loop-b.run c.loop-b.b-index c.as_bytes-b-items.result.now (longest_run 0 text) c.loop-b-test.false c.loop-b.invariant.run_is c.loop-b.invariant.rest in
    omega (arith, longest, longest-within 0 text)
