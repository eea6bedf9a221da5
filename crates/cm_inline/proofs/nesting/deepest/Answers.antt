use Rattle.cm_inline.proofs.lemmas.Words.{◌<◌, ◌^◌, length, ap, arith}
use Rattle.cm_inline.proofs.lemmas.MarkLemmas.{numbered}
use Rattle.cm_inline.proofs.lemmas.NestingLemmas.{nests-fit, nests-at, nests-next, nests-last}
use Rattle.cm_inline.proofs.lemmas.TextWaitLemmas.{mark-among}
use Rattle.cm_inline.proofs.nesting.deepest.Goals as goal

pub after_mark-level-requires : goal.after_mark-level-requires
after_mark-level-requires c =
    let reader = c.args.reader.now in
    let asked = c.requires in
    let at = c.loop-mark.mark-index in
    let low : at < length reader.marks.items = omega (arith, c.loop-mark-test.true, ap length c.as_slice-mark-items.ensures.value) in
    let is = mark-among reader c.as_slice-mark-items.result.now at _ c.as_slice-mark-items.ensures.value low in
    let goes = c.loop-mark.invariant asked.0 asked.1 asked.2 asked.3 asked.4 in
    let n = nests-at asked.0 asked.1 asked.2 reader (2 ^ 64) asked.3 at c.loop-mark.level _ low is asked.4.chained (nests-fit asked.0 asked.1 asked.2 reader asked.3 asked.4) goes in
    record { high = goes.high; number = numbered asked.1 asked.2 reader _ n.known; chained = asked.4.chained; rises = (asked.1, asked.2, n.can) }

pub loop-mark-preserved : goal.loop-mark-preserved
loop-mark-preserved c = λ lines source targets depth n.
    let reader = c.args.reader.now in
    let at = c.loop-mark.mark-index in
    let low : at < length reader.marks.items = omega (arith, c.loop-mark-test.true, ap length c.as_slice-mark-items.ensures.value) in
    let is = mark-among reader c.as_slice-mark-items.result.now at _ c.as_slice-mark-items.ensures.value low in
    nests-next lines source targets reader (2 ^ 64) depth at c.loop-mark.level c.after_mark-level.result _ low is (nests-fit lines source targets reader depth n) (c.loop-mark.invariant lines source targets depth n) (c.after_mark-level.ensures source targets)

pub returns : goal.returns
returns c = λ lines source targets depth n.
    nests-last lines source targets c.args.reader.now depth c.loop-mark.mark-index c.loop-mark.level (omega (arith, c.loop-mark-test.false, ap length c.as_slice-mark-items.ensures.value)) (c.loop-mark.invariant lines source targets depth n)
