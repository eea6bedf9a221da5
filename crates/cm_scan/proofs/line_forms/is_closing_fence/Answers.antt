use Rattle.std.proofs.Common.{drop, arith}
use Rattle.std.proofs.lemmas.Grind.{common_steps}
use Rattle.cm_scan.proofs.lemmas.blocks.LineFormLemmas.{closes, closes_not}
use Rattle.cm_scan.proofs.line_forms.is_closing_fence.Goals as goal

pub returns-then-beyond-at : goal.returns-then-beyond-at
returns-then-beyond-at c = record {
  closes = λ info.
      grind (arith, common_steps, closes (drop c.args.at c.args.text.now) (record { marker = c.args.kind.marker; count = c.args.kind.count; info = info }) (omega arith));
}

pub returns-else-beyond-at : goal.returns-else-beyond-at
returns-else-beyond-at c = record {
  closes = λ info.
      grind (arith, common_steps, closes_not (drop c.args.at c.args.text.now) (record { marker = c.args.kind.marker; count = c.args.kind.count; info = info }) (omega arith));
}
