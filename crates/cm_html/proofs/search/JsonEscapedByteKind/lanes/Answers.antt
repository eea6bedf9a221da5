use Rattle.std.proofs.Common.{ℕ, ◌≤◌, length, bit_or, refl, arith}
use Rattle.std.proofs.lemmas.Simd.{zip2_splat}
use Rattle.cm_text.proofs.lemmas.SearchLemmas.{joined, masked}
use Rattle.cm_html.specs.steps.Bytes.{has_json_escape}
use Rattle.cm_html.proofs.search.JsonEscapedByteKind.lanes.Goals as goal

pub returns : goal.returns
returns c =
    let v = c.args.lanes in
    let long = c.fits-lanes.0 in
    let few : length v ≤ 64 = omega arith in
    let marks = joined bit_or _ _ v (zip2_splat {Y = ℕ} _ v 16 92 long) (zip2_splat {Y = ℕ} _ v 16 34 long) in
    let controls = zip2_splat {Y = ℕ} _ v 16 32 long in
    masked _ has_json_escape refl v _ few c.fits-lanes.1 (joined bit_or _ _ v marks controls)
