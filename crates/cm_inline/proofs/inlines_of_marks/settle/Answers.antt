use Rattle.cm_inline.proofs.lemmas.Words.{◌<◌, ◌≤◌, length, sym, ap, ◌∙◌, arith}
use Rattle.std.proofs.lemmas.List.{take_rest}
use Rattle.std.proofs.lemmas.Grind.{common_steps}
use Rattle.cm_inline.specs.steps.Building.{built_in}
use Rattle.cm_inline.proofs.lemmas.SettleLemmas.{built-next, built-last}
use Rattle.cm_inline.proofs.lemmas.TextWaitLemmas.{mark-among}
use Rattle.cm_inline.proofs.inlines_of_marks.settle.Goals as goal

pub loop-mark-preserved : goal.loop-mark-preserved
loop-mark-preserved c =
    let reader = c.args.reader.now in
    let at = c.loop-mark.mark-index in
    let low : at < length reader.marks.items = omega (arith, c.loop-mark-test.true, ap length c.as_slice-mark-items.ensures.value) in
    let is = mark-among reader c.as_slice-mark-items.result.now at _ c.as_slice-mark-items.ensures.value low in
    built-next c.args.source.now c.args.definitions.now reader (built_in c.loop-mark.made) _ _ c.loop-mark.from at _ _ low is c.loop-mark.invariant c.part.ensures.part c.in_ok-add_text.ensures.added c.in_ok-push_mark.ensures.pushed

pub returns : goal.returns
returns c = record {
  inlines = let reader = c.args.reader.now in
      let high : length reader.marks.items ≤ c.loop-mark.mark-index = omega (arith, c.loop-mark-test.false, ap length c.as_slice-mark-items.ensures.value) in
      built-last c.args.source.now c.args.definitions.now reader (built_in c.loop-mark.made) (built_in c.add_text-2.new.self) c.loop-mark.from c.loop-mark.mark-index _ _ high c.loop-mark.invariant (c.range_from.ensures.value ∙ sym (take_rest c.args.source.now c.loop-mark.from)) c.in_ok-add_text-2.ensures.added
      c.in_ok-end_text.ensures.content;
}

pub part-requires : goal.part-requires
part-requires c = grind (arith, common_steps)

pub push_mark-requires : goal.push_mark-requires
push_mark-requires c = grind (arith, common_steps)

pub range_from-requires : goal.range_from-requires
range_from-requires c = grind (arith, common_steps)
