use Rattle.std.proofs.Common.{◌-◌, ◌∙◌, length, length-drop, drop, ap, ap₂, arith}
use Rattle.memchr.specs.Find.{is_byte}
use Rattle.cm_scan.proofs.lemmas.spans.BacktickRuns.{run-left}
use Rattle.cm_scan.proofs.code_spans.after_backticks.Goals as goal

pub returns-clause-end : goal.returns-clause-end
returns-clause-end g c =
    let left = run-left c.args.text.now c.after.result c.skip.result c.args.at c.requires c.after.ensures (c.skip.ensures.skipped (is_byte 96) (λ b told small e. e)) in
    omega (arith, left.0, c.len.ensures, c.len-2.ensures)

pub returns-clause-beyond : goal.returns-clause-beyond
returns-clause-beyond g c =
    let left = run-left c.args.text.now c.after.result c.skip.result c.args.at c.requires c.after.ensures (c.skip.ensures.skipped (is_byte 96) (λ b told small e. e)) in
    ap (λ n. drop n c.args.text.now) (ap₂ (λ m n. m - n) c.len.ensures c.len-2.ensures) ∙ left.1

pub returns-clause-looks : goal.returns-clause-looks
returns-clause-looks g c =
    let left = run-left c.args.text.now c.after.result c.skip.result c.args.at c.requires c.after.ensures (c.skip.ensures.skipped (is_byte 96) (λ b told small e. e)) in
    omega (arith, left.2, c.len.ensures, c.len-2.ensures, c.skip.ensures.looks, ap length c.after.ensures, length-drop c.args.at c.args.text.now, c.requires)
