use Rattle.std.proofs.Common.{◌≡◌, ◌∙◌, ◌<◌, get_or, length, true, false, sym, arith}
use Rattle.std.proofs.lemmas.Grind.{common_steps}
use Rattle.std.proofs.lemmas.List.Sums.{prefix_len_is}
use Rattle.cm_text.proofs.looks.passing.Goals as goal

pub loop-i-init : goal.loop-i-init
loop-i-init g c = λ passes tells k below. absurd (omega (arith, below))

pub returns-then-not-test-clause-count : goal.returns-then-not-test-clause-count
returns-then-not-test-clause-count g c = λ passes tells.
    let fits : get_or c.args.bytes.now c.loop-i.i 0 < 256 = (c.type_inv.bytes c.loop-i.i).fits in
    let fails : passes (get_or c.args.bytes.now c.loop-i.i 0) ≡ false = sym (tells (get_or c.args.bytes.now c.loop-i.i 0) c.test.result fits c.test.ensures) ∙ c.if-not-test.true in
    sym (prefix_len_is passes c.args.bytes.now c.loop-i.i 0 (omega arith) (c.loop-i.invariant passes tells) (λ _. fails))

pub loop-i-preserved : goal.loop-i-preserved
loop-i-preserved g c = λ passes tells k below.
    let fits : get_or c.args.bytes.now c.loop-i.i 0 < 256 = (c.type_inv.bytes c.loop-i.i).fits in
    let passed : passes (get_or c.args.bytes.now c.loop-i.i 0) ≡ true = sym (tells (get_or c.args.bytes.now c.loop-i.i 0) c.test.result fits c.test.ensures) ∙ c.if-not-test.false in
    grind (arith, below, passed, c.loop-i.invariant passes tells k)

pub returns-clause-count : goal.returns-clause-count
returns-clause-count g c = λ passes tells.
    sym (prefix_len_is passes c.args.bytes.now (length c.args.bytes.now) 0 (omega arith) (λ k below. c.loop-i.invariant passes tells k (omega (arith, below))) (λ less. absurd (omega (arith, less))))
