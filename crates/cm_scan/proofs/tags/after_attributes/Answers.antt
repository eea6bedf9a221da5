use Rattle.std.proofs.Common.{◌≡◌, ◌+◌, ◌-◌, ◌∙◌, suc, true, false, Some, None, length, refl, sym, ap, arith}
use Rattle.std.proofs.lemmas.Grind.{common_steps}
use Rattle.cm_scan.specs.spans.Tags.{is_blank_next, after_gap, after_attribute, after_tag_end, after_attributes}
use Rattle.cm_scan.proofs.lemmas.spans.TagParts.{attributes_end, attributes_stop, attributes_bad, attributes_more, attributes_many}
use Rattle.cm_scan.proofs.lemmas.spans.ReachLemmas.{reach_some, gap_reach, gap_some, gap_within}
use Rattle.cm_scan.proofs.tags.after_attributes.Goals as goal
use Rattle.cm_scan.proofs.tags.after_attributes.Goals.{else-loop-test, then-loop-test+in_default+else-not-is_blank_next+in_ok-text+else-counter-end}

pub returns-in-Some-clause-read : goal.returns-in-Some-clause-read
returns-in-Some-clause-read g c =
    let text = c.loop.text in
    let left = length c.args.bytes.now - c.loop.counter in
    let step : suc (length c.args.bytes.now) - c.loop.counter ≡ suc left = omega arith in
    let ends : after_tag_end (after_gap text) ≡ Some c.in-Some.rest = sym (ap after_tag_end c.after_gap-inside.ensures.skipped) ∙ sym c.in-Some.ensures.read in
    sym (sym c.loop.invariant.read ∙ ap (λ n. after_attributes n text) step ∙ attributes_end left text c.in-Some.rest ends)

pub returns-then-not-is_blank_next-clause-read : goal.returns-then-not-is_blank_next-clause-read
returns-then-not-is_blank_next-clause-read g c =
    let text = c.loop.text in
    let left = length c.args.bytes.now - c.loop.counter in
    let step : suc (length c.args.bytes.now) - c.loop.counter ≡ suc left = omega arith in
    let goes_on : after_tag_end (after_gap text) ≡ None = sym (ap after_tag_end c.after_gap-inside.ensures.skipped) ∙ sym c.in_default.ensures.read in
    let stuck : is_blank_next text ≡ false = sym c.is_blank_next.ensures.blank ∙ c.if-not-is_blank_next.true in
    sym (sym c.loop.invariant.read ∙ ap (λ n. after_attributes n text) step ∙ attributes_stop left text goes_on stuck)

pub returns-in_err-text-clause-read : goal.returns-in_err-text-clause-read
returns-in_err-text-clause-read g c =
    let text = c.loop.text in
    let left = length c.args.bytes.now - c.loop.counter in
    let step : suc (length c.args.bytes.now) - c.loop.counter ≡ suc left = omega arith in
    let goes_on : after_tag_end (after_gap text) ≡ None = sym (ap after_tag_end c.after_gap-inside.ensures.skipped) ∙ sym c.in_default.ensures.read in
    let blank : is_blank_next text ≡ true = sym c.is_blank_next.ensures.blank ∙ c.if-not-is_blank_next.false in
    let bad : after_attribute (after_gap text) ≡ None = sym (ap after_attribute c.after_gap-inside.ensures.skipped) ∙ sym c.in_err-text.ensures.read in
    let is = sym c.loop.invariant.read ∙ ap (λ n. after_attributes n text) step ∙ attributes_bad left text goes_on blank bad in
    grind (arith, common_steps, is)

pub loop-preserved : goal.loop-preserved
loop-preserved g c =
    let text = c.loop.text in
    let left = length c.args.bytes.now - c.loop.counter in
    let step : suc (length c.args.bytes.now) - c.loop.counter ≡ suc left = omega arith in
    let next : suc (length c.args.bytes.now) - (c.loop.counter + 1) ≡ left = omega arith in
    let goes_on : after_tag_end (after_gap text) ≡ None = sym (ap after_tag_end c.after_gap-inside.ensures.skipped) ∙ sym c.in_default.ensures.read in
    let blank : is_blank_next text ≡ true = sym c.is_blank_next.ensures.blank ∙ c.if-not-is_blank_next.false in
    let one : after_attribute (after_gap text) ≡ Some c.in_ok-text.text = sym (ap after_attribute c.after_gap-inside.ensures.skipped) ∙ sym c.in_ok-text.ensures.read in
    let gap = gap_reach c.loop.text c.after_gap-inside.result c.after_gap-inside.ensures.skipped in
    let long = ap length c.after_gap-inside.ensures.skipped in
    let some = gap_some c.loop.text (sym c.is_blank_next.ensures.blank ∙ c.if-not-is_blank_next.false) in
    record {
      read = ap (λ n. after_attributes n c.in_ok-text.text) next ∙ sym (attributes_more left text goes_on blank c.in_ok-text.text one) ∙ sym (ap (λ n. after_attributes n text) step) ∙ c.loop.invariant.read;
      looks = omega (arith, c.loop.invariant.looks, gap, long, some, c.after_gap-inside.ensures.looks, c.after_gap-inside.ensures.shorter, c.after_tag_end.ensures.looks, c.is_blank_next.ensures.looks, c.in_ok-text.ensures.some);
    }

pub returns-clause-read : goal.returns-clause-read
returns-clause-read g c =
    let text = c.loop.text in
    elim c.loop-test.branch [
      | else-loop-test w ↦ absurd (omega arith)
      | then-loop-test+in_default+else-not-is_blank_next+in_ok-text+else-counter-end w ↦
          let step : suc (length c.args.bytes.now) - c.loop.counter ≡ suc 0 = omega arith in
          let goes_on : after_tag_end (after_gap text) ≡ None = sym (ap after_tag_end w.after_gap-inside.ensures.skipped) ∙ sym w.in_default.ensures.read in
          let blank : is_blank_next text ≡ true = sym w.is_blank_next.ensures.blank ∙ w.if-not-is_blank_next.false in
          let one : after_attribute (after_gap text) ≡ Some w.in_ok-text.text = sym (ap after_attribute w.after_gap-inside.ensures.skipped) ∙ sym w.in_ok-text.ensures.read in
          sym (sym c.loop.invariant.read ∙ ap (λ n. after_attributes n text) step ∙ attributes_more 0 text goes_on blank w.in_ok-text.text one
          ∙ attributes_many w.in_ok-text.text)
    ]

-- what was looked at before the next attribute
pub returns-in-Some-clause-looks : goal.returns-in-Some-clause-looks
returns-in-Some-clause-looks g c =
    let gap = gap_reach c.loop.text c.after_gap-inside.result c.after_gap-inside.ensures.skipped in
    let long = ap length c.after_gap-inside.ensures.skipped in
    omega (arith, c.loop.invariant.looks, gap, long, reach_some 0 c.after_gap-inside.result, c.after_gap-inside.ensures.looks, c.after_gap-inside.ensures.shorter, c.after_tag_end.ensures.looks)

pub returns-then-not-is_blank_next-clause-looks : goal.returns-then-not-is_blank_next-clause-looks
returns-then-not-is_blank_next-clause-looks g c =
    let gap = gap_reach c.loop.text c.after_gap-inside.result c.after_gap-inside.ensures.skipped in
    let long = ap length c.after_gap-inside.ensures.skipped in
    omega (arith, c.loop.invariant.looks, gap, long, reach_some 0 c.after_gap-inside.result, c.after_gap-inside.ensures.looks, c.after_gap-inside.ensures.shorter, c.after_tag_end.ensures.looks, c.is_blank_next.ensures.looks)

pub returns-in_err-text-clause-looks : goal.returns-in_err-text-clause-looks
returns-in_err-text-clause-looks g c =
    let gap = gap_reach c.loop.text c.after_gap-inside.result c.after_gap-inside.ensures.skipped in
    let long = ap length c.after_gap-inside.ensures.skipped in
    let some = gap_some c.loop.text (sym c.is_blank_next.ensures.blank ∙ c.if-not-is_blank_next.false) in
    omega (arith, c.loop.invariant.looks, gap, long, some, c.after_gap-inside.ensures.looks, c.after_gap-inside.ensures.shorter, c.after_tag_end.ensures.looks, c.is_blank_next.ensures.looks, c.after_attribute.ensures.none c.in_err-text.was)

pub returns-clause-looks : goal.returns-clause-looks
returns-clause-looks g c =
    elim c.loop-test.branch [
      | else-loop-test w ↦ absurd (omega arith)
      | then-loop-test+in_default+else-not-is_blank_next+in_ok-text+else-counter-end w ↦
          let gap = gap_reach c.loop.text w.after_gap-inside.result w.after_gap-inside.ensures.skipped in
          let long = ap length w.after_gap-inside.ensures.skipped in
          let some = gap_some c.loop.text (sym w.is_blank_next.ensures.blank ∙ w.if-not-is_blank_next.false) in
          let rest = gap_reach w.in_ok-text.text (after_gap w.in_ok-text.text) refl in
          omega (arith, c.loop.invariant.looks, gap, long, some, rest, gap_within w.in_ok-text.text, reach_some 0 (after_gap w.in_ok-text.text), w.after_gap-inside.ensures.looks, w.after_gap-inside.ensures.shorter, w.after_tag_end.ensures.looks, w.is_blank_next.ensures.looks, w.in_ok-text.ensures.some)
    ]
