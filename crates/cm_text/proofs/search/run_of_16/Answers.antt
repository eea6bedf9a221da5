use Rattle.std.proofs.Common.{sym, ap, ◌∙◌, arith}
use Rattle.std.proofs.lemmas.Simd.{length-chunk, leading_from_mask_l, trailing_mask_l}
use Rattle.std.specs.Simd.Lanes.{chunk}
use lib.Count.{count_trailing_zeros}
use Rattle.cm_text.proofs.lemmas.SearchLemmas.{some-passes}
use Rattle.cm_text.proofs.search.run_of_16.Goals as goal

pub returns-then-marks-eq0-clause-none : goal.returns-then-marks-eq0-clause-none
returns-then-marks-eq0-clause-none g c = λ _.
    let v = chunk c.args.at 16 c.args.bytes.now in
    let long = length-chunk c.args.at 16 c.args.bytes.now c.requires in
    leading_from_mask_l g.K.ByteKind.passes v (sym c.lanes-marks.ensures ∙ c.if-marks-eq0.true) ∙ long

pub returns-clause-some : goal.returns-clause-some
returns-clause-some g c =
    let v = chunk c.args.at 16 c.args.bytes.now in
    let long = length-chunk c.args.at 16 c.args.bytes.now c.requires in
    ap (count_trailing_zeros 64) c.lanes-marks.ensures ∙ trailing_mask_l g.K.ByteKind.passes 64 v (omega (arith, long)) (omega (arith, c.lanes-marks.ensures, c.if-marks-eq0.false))

pub returns-clause-within : goal.returns-clause-within
returns-clause-within g c =
    let v = chunk c.args.at 16 c.args.bytes.now in
    let long = length-chunk c.args.at 16 c.args.bytes.now c.requires in
    omega (arith, returns-clause-some g c, some-passes g.K.ByteKind.passes v (omega (arith, c.lanes-marks.ensures, c.if-marks-eq0.false)), long)
