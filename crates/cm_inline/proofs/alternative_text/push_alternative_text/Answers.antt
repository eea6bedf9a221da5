use Rattle.cm_inline.proofs.lemmas.Words.{◌<◌, ◌++◌, length, sym, ap, subst, ◌∙◌, arith, escape, one_line}
use Rattle.cm_inline.specs.steps.Writing.{IsMarkIn}
use Rattle.cm_inline.proofs.lemmas.LaidLemmas.{settled-mark}
use Rattle.cm_inline.proofs.lemmas.TextWaitLemmas.{mark-among, alternative-first, alternative-between, alternative-next, alternative-end, alternative-ends}
use Rattle.cm_inline.proofs.alternative_text.push_alternative_text.Goals as goal

pub loop-at-init : goal.loop-at-init
loop-at-init c = λ targets image.
    alternative-first c.args.source.now targets c.args.reader.now c.args.html.now c.args.start c.args.link _ (mark-among c.args.reader.now c.as_slice-marks.result.now c.args.start _ c.as_slice-marks.ensures.value image.within) image

pub part-requires : goal.part-requires
part-requires c =
    let reader = c.args.reader.now in
    let at = c.loop-at.at in
    let low : at < length reader.marks.items = omega (arith, c.loop-at-test.true, ap length c.as_slice-marks.ensures.value) in
    let asked = c.requires in
    alternative-between c.args.source.now asked.0 reader c.args.html.now c.loop-at.html c.args.start c.args.link c.loop-at.from at _ low (mark-among reader c.as_slice-marks.result.now at _ c.as_slice-marks.ensures.value low)
    (c.loop-at.invariant asked.0 asked.1)

pub returns-then-is_end-clause-html : goal.returns-then-is_end-clause-html
returns-then-is_end-clause-html c = λ targets image.
    let reader = c.args.reader.now in
    let at = c.loop-at.at in
    let low : at < length reader.marks.items = omega (arith, c.loop-at-test.true, ap length c.as_slice-marks.ensures.value) in
    alternative-end c.args.source.now targets reader c.args.html.now c.loop-at.html _ c.args.start c.args.link c.loop-at.from at _ low (mark-among reader c.as_slice-marks.result.now at _ c.as_slice-marks.ensures.value low)
    (c.loop-at.invariant targets image) (c.in_ok-push_one_line.ensures.pushed ∙ ap (λ t. c.loop-at.html ++ escape (one_line t)) c.part.ensures.part)
    (sym c.if-is_end.ensures)

pub loop-at-preserved : goal.loop-at-preserved
loop-at-preserved c = λ targets image.
    let reader = c.args.reader.now in
    let at = c.loop-at.at in
    let low : at < length reader.marks.items = omega (arith, c.loop-at-test.true, ap length c.as_slice-marks.ensures.value) in
    let is = mark-among reader c.as_slice-marks.result.now at _ c.as_slice-marks.ensures.value low in
    alternative-next c.args.source.now targets reader c.args.html.now c.loop-at.html _ _ c.args.start c.args.link c.loop-at.from at _ low is (c.loop-at.invariant targets image) (c.in_ok-push_one_line.ensures.pushed ∙ ap (λ t. c.loop-at.html ++ escape (one_line t)) c.part.ensures.part)
    (c.in_ok-push_mark.ensures.pushed c.args.link targets (sym c.if-is_end.ensures) (subst (IsMarkIn c.args.source.now targets reader) (sym is) (settled-mark _ c.args.source.now targets reader at low image.settled)))

pub returns-clause-html : goal.returns-clause-html
returns-clause-html c = λ targets image.
    absurd (alternative-ends c.args.source.now targets c.args.reader.now c.args.html.now c.loop-at.html c.args.start c.args.link c.loop-at.from c.loop-at.at (omega (arith, c.loop-at-test.false, ap length c.as_slice-marks.ensures.value)) image
    (c.loop-at.invariant targets image))
