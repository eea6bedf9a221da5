use Rattle.std.proofs.Common.{◌≡◌, false, true, drop, arith}
use Rattle.std.proofs.lemmas.Grind.{common_steps}
use Rattle.cm_scan.specs.Words.{after_run, is_at_gap}
use Rattle.cm_scan.proofs.lemmas.blocks.LineFormLemmas.{atx_none, atx_many, atx_no_gap, atx_found}
use Rattle.cm_scan.proofs.line_forms.atx.Goals as goal
use Rattle.cm_scan.proofs.line_forms.atx.Goals.{then-level-eq0-via-then-level-eq0, then-level-eq0-via-else-level-eq0+then-level-gt6, then-level-eq0-via-else-level-eq0+else-level-gt6+then-not-is_at_gap}

pub returns-then-level-eq0-clause-heading : goal.returns-then-level-eq0-clause-heading
returns-then-level-eq0-clause-heading c =
    let text = drop c.args.at c.args.text.now in
    elim c.then-level-eq0.branch [
      | then-level-eq0-via-then-level-eq0 w ↦ atx_none text (omega arith)
      | then-level-eq0-via-else-level-eq0+then-level-gt6 w ↦ atx_many text (omega arith)
      | then-level-eq0-via-else-level-eq0+else-level-gt6+then-not-is_at_gap w ↦
          let other : is_at_gap (after_run 35 text) ≡ false = grind (arith, common_steps) in
          atx_no_gap text other
    ]

pub returns-clause-heading : goal.returns-clause-heading
returns-clause-heading c =
    let text = drop c.args.at c.args.text.now in
    let gap : is_at_gap (after_run 35 text) ≡ true = grind (arith, common_steps) in
    grind (arith, common_steps, atx_found text (omega arith) (omega arith) gap)
