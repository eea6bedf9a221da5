use Rattle.std.proofs.Common.{◌∙◌, sym, ap, arith}
use Rattle.cm_scan.specs.spans.Tags.{continues_attribute}
use Rattle.cm_scan.specs.spans.Reach.{tag_reach}
use Rattle.cm_scan.proofs.lemmas.spans.ReachLemmas.{reach_some, reach_plain, begins_plain, attribute_plain, skipped_reach, map_some}
use Rattle.cm_scan.proofs.tags.after_attribute.Goals as goal

pub returns-in_err-b-clause-none : goal.returns-in_err-b-clause-none
returns-in_err-b-clause-none g c = λ _. omega (arith, reach_some 0 c.args.bytes.now, c.first.ensures.looks)

pub returns-then-not-begins_attribute-clause-none : goal.returns-then-not-begins_attribute-clause-none
returns-then-not-begins_attribute-clause-none g c = λ _. omega (arith, reach_some 0 c.args.bytes.now, c.first.ensures.looks)

pub returns-clause-some : goal.returns-clause-some
returns-clause-some g c =
    let beyond = c.in_ok-b.beyond in
    let step = ap (tag_reach 0) c.in_ok-b.ensures.read ∙ reach_plain c.in_ok-b.b beyond (begins_plain c.in_ok-b.b (sym c.begins_attribute.ensures ∙ c.if-not-begins_attribute.false)) in
    let along = skipped_reach continues_attribute attribute_plain beyond c.skip_attribute.result c.skip_attribute.ensures.skipped in
    map_some c.after_specification.result _ _ c.after_specification.ensures.some (λ rest h. omega (arith, h, step, along, c.skip_attribute.ensures.looks, c.skip_attribute.ensures.shorter, c.first.ensures.looks))

pub returns-clause-none : goal.returns-clause-none
returns-clause-none g c =
    let beyond = c.in_ok-b.beyond in
    let step = ap (tag_reach 0) c.in_ok-b.ensures.read ∙ reach_plain c.in_ok-b.b beyond (begins_plain c.in_ok-b.b (sym c.begins_attribute.ensures ∙ c.if-not-begins_attribute.false)) in
    let along = skipped_reach continues_attribute attribute_plain beyond c.skip_attribute.result c.skip_attribute.ensures.skipped in
    λ none. omega (arith, c.after_specification.ensures.none none, step, along, c.skip_attribute.ensures.looks, c.skip_attribute.ensures.shorter, c.first.ensures.looks)
