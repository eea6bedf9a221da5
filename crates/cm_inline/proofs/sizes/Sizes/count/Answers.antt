use Rattle.cm_inline.proofs.lemmas.Words.{◌<◌, length, sym, ap, subst, arith}
use Rattle.cm_inline.specs.steps.Writing.{IsMarkIn}
use Rattle.cm_inline.proofs.lemmas.LaidLemmas.{settled-mark}
use Rattle.cm_inline.proofs.lemmas.MarkLemmas.{numbered}
use Rattle.cm_inline.proofs.lemmas.TextWaitLemmas.{mark-among}
use Rattle.cm_inline.proofs.sizes.Sizes.count.Goals as goal

pub add_mark-requires-clause-number : goal.add_mark-requires-clause-number
add_mark-requires-clause-number c =
    let reader = c.args.reader.now in
    let asked = c.requires in
    let at = c.loop-mark.mark-index in
    let low : at < length reader.marks.items = omega (arith, c.loop-mark-test.true, ap length c.as_slice-mark-items.ensures.value) in
    let is = mark-among reader c.as_slice-mark-items.result.now at _ c.as_slice-mark-items.ensures.value low in
    numbered c.args.source.now asked.0 reader _ (subst (IsMarkIn c.args.source.now asked.0 reader) (sym is) (settled-mark _ c.args.source.now asked.0 reader at low asked.1))
