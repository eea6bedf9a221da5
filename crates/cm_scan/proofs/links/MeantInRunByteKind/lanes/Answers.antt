use Rattle.std.proofs.Common.{ℕ, ◌≤◌, not, length, bit_or, refl, arith}
use Rattle.std.proofs.lemmas.Simd.{zip2_splat}
use Rattle.cm_text.proofs.lemmas.SearchLemmas.{joined, masked}
use Rattle.cm_scan.specs.steps.LinkSteps.{is_plain_in_run}
use Rattle.cm_scan.proofs.links.MeantInRunByteKind.lanes.Goals as goal

pub returns : goal.returns
returns c =
    let v = c.args.lanes in
    let long = c.fits-lanes.0 in
    let few : length v ≤ 64 = omega arith in
    let parentheses = joined bit_or _ _ v (zip2_splat {Y = ℕ} _ v 16 40 long) (zip2_splat {Y = ℕ} _ v 16 41 long) in
    let blanks = joined bit_or _ _ v (zip2_splat {Y = ℕ} _ v 16 33 long) (zip2_splat {Y = ℕ} _ v 16 127 long) in
    let backslashes = zip2_splat {Y = ℕ} _ v 16 92 long in
    masked _ (λ b. not (is_plain_in_run b)) refl v _ few c.fits-lanes.1 (joined bit_or _ _ v (joined bit_or _ _ v parentheses blanks) backslashes)
