use Rattle.std.proofs.Common.{ℕ, ◌≤◌, length, leb, cond, bit_and, bit_or, refl, arith}
use Rattle.std.proofs.lemmas.Simd.{zip2_splat, splat_is_map}
use Rattle.cm_text.proofs.lemmas.SearchLemmas.{joined, masked}
use Rattle.cm_source.specs.steps.Bytes.{is_spelled}
use Rattle.cm_source.proofs.texts.SpelledByteKind.lanes.Goals as goal

pub returns : goal.returns
returns c =
    let v = c.args.lanes in
    let long = c.fits-lanes.0 in
    let few : length v ≤ 64 = omega arith in
    let splat = λ (byte : ℕ). splat_is_map v 16 byte long in
    let at_most = λ (a b : ℕ). cond (leb a b) 255 0 in
    let no_letters = joined at_most _ _ v (splat 26) (joined _ _ _ v (zip2_splat {Y = ℕ} bit_or v 16 32 long) (splat 97)) in
    let no_digits = joined at_most _ _ v (splat 10) (zip2_splat {Y = ℕ} _ v 16 48 long) in
    let no_spaces = zip2_splat {Y = ℕ} _ v 16 32 long in
    let ascii = zip2_splat {Y = ℕ} _ v 16 128 long in
    masked _ is_spelled refl v _ few c.fits-lanes.1 (joined bit_and _ _ v (joined bit_and _ _ v (joined bit_and _ _ v no_letters no_digits) no_spaces) ascii)
