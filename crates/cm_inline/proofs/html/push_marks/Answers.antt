use Rattle.cm_inline.proofs.lemmas.Words.{◌<◌, ◌≤◌, ◌++◌, length, ap, ◌∙◌, arith, slice_range, Mark, nat_tests}
use Rattle.cm_inline.proofs.lemmas.HtmlLemmas.{on-ok}
use Rattle.cm_inline.proofs.lemmas.TextWaitLemmas.{mark-among, waits-first, waits-text, waits-mode, waits-on, waits-last}
use Rattle.cm_inline.proofs.html.push_marks.Goals as goal

pub loop-next-init : goal.loop-next-init
loop-next-init c = waits-first c.args.source.now c.args.definitions.now c.args.reader.now c.args.html.now c.requires

pub loop-next-preserved-then-is_text : goal.loop-next-preserved-then-is_text
loop-next-preserved-then-is_text c = grind (arith, nat_tests, mark-among, waits-text)

pub push_mark-requires-clause-ends : goal.push_mark-requires-clause-ends
push_mark-requires-clause-ends c =
    let reader = c.args.reader.now in
    let next = c.loop-next.next in
    let low : next.mark < length reader.marks.items = omega (arith, c.loop-next-test.true, ap length c.as_slice-marks.ensures.value) in
    let is = mark-among reader c.as_slice-marks.result.now next.mark _ c.as_slice-marks.ensures.value low in
    waits-mode c.args.source.now c.args.definitions.now reader c.args.html.now c.loop-next.html _ next low c.requires c.loop-next.invariant
    (c.in_ok-push_text.ensures.pushed ∙ ap (λ (m : Mark). c.loop-next.html ++ slice_range c.args.source.now next.from m.at) is)

pub loop-next-preserved : goal.loop-next-preserved
loop-next-preserved c = grind (arith, nat_tests, mark-among, waits-on)

pub returns : goal.returns
returns c = record {
  pushed = let reader = c.args.reader.now in
      let next = c.loop-next.next in
      let high : length reader.marks.items ≤ next.mark = omega (arith, c.loop-next-test.false, ap length c.as_slice-marks.ensures.value) in
      on-ok c.push_text-2.result c.push_text-2.ensures.pushed (λ e. waits-last c.args.source.now c.args.definitions.now reader c.args.html.now c.loop-next.html _ next high c.loop-next.invariant e);
}
