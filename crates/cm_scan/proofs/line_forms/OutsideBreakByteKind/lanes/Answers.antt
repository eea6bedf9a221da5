use Rattle.std.proofs.Common.{ℕ, ◌≤◌, not, length, bit_and, arith}
use Rattle.std.proofs.lemmas.Simd.{zip2_splat}
use Rattle.cm_text.proofs.lemmas.SearchLemmas.{joined, masked}
use Rattle.cm_scan.specs.steps.LineSteps.{is_in_break}
use Rattle.cm_scan.proofs.lemmas.blocks.LineFormLemmas.{outside-lanes}
use Rattle.cm_scan.proofs.line_forms.OutsideBreakByteKind.lanes.Goals as goal

pub returns : goal.returns
returns g c =
    let v = c.args.lanes in
    let long = c.fits-lanes.0 in
    let few : length v ≤ 64 = omega arith in
    let marker = zip2_splat {Y = ℕ} _ v 16 g.row.MARKER long in
    let blanks = joined bit_and _ _ v (zip2_splat {Y = ℕ} _ v 16 32 long) (zip2_splat {Y = ℕ} _ v 16 9 long) in
    masked _ (λ b. not (is_in_break g.row.MARKER b)) (outside-lanes g.row.MARKER) v _ few c.fits-lanes.1 (joined bit_and _ _ v marker blanks)
