use Rattle.std.proofs.Common.{ℕ, ◌≤◌, not, length, bit_or, refl, arith}
use Rattle.std.proofs.lemmas.Simd.{zip2_splat}
use Rattle.cm_text.proofs.lemmas.SearchLemmas.{joined, masked}
use Rattle.cm_scan.specs.spans.Autolinks.{is_inside}
use Rattle.cm_scan.proofs.autolinks.OutsideByteKind.lanes.Goals as goal

pub returns : goal.returns
returns c =
    let v = c.args.lanes in
    let long = c.fits-lanes.0 in
    let few : length v ≤ 64 = omega arith in
    let brackets = joined bit_or _ _ v (zip2_splat {Y = ℕ} _ v 16 60 long) (zip2_splat {Y = ℕ} _ v 16 62 long) in
    let others = joined bit_or _ _ v (zip2_splat {Y = ℕ} _ v 16 33 long) (zip2_splat {Y = ℕ} _ v 16 127 long) in
    masked _ (λ b. not (is_inside b)) refl v _ few c.fits-lanes.1 (joined bit_or _ _ v brackets others)
