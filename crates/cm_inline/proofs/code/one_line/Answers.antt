use Rattle.cm_inline.proofs.lemmas.Words.{arith}
use Rattle.std.proofs.lemmas.Grind.{common_steps}
use Rattle.cm_inline.proofs.lemmas.CodeLemmas.{line-feed, line-whole}
use Rattle.cm_inline.proofs.code.one_line.Goals as goal

pub loop-at-preserved : goal.loop-at-preserved
loop-at-preserved c =
    let bytes = c.as_bytes.result.now in
    let first = c.in-Some.ensures in
    let cut = line-feed bytes c.in-Some.at first.0.high first.1 first.0.before in
    (c.cut_at.ensures.after_utf8, grind (arith, common_steps, c.loop-at.invariant.1, cut))

pub returns : goal.returns
returns c = record {
  line = let whole = line-whole c.as_bytes.result.now c.in_default.ensures in
      grind (arith, common_steps, c.loop-at.invariant.1, whole);
}
