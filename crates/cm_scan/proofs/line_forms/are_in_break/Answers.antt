use Rattle.std.proofs.Common.{◌∙◌, ◌==◌, length, ap}
use Rattle.cm_scan.specs.steps.LineSteps.{is_in_break}
use Rattle.cm_scan.proofs.lemmas.blocks.LineFormLemmas.{all-to-the-end}
use Rattle.cm_scan.proofs.line_forms.are_in_break.Goals as goal

pub returns : goal.returns
returns g c = record { bytes = ap (λ n. n == length c.args.bytes.now) c.next_of.ensures.next ∙ all-to-the-end (is_in_break g.row.MARKER) c.args.bytes.now }
