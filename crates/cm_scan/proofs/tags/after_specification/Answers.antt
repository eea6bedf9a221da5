use Rattle.std.proofs.Common.{◌∙◌, length, ap, arith}
use Rattle.cm_scan.specs.spans.Reach.{tag_reach}
use Rattle.cm_scan.proofs.lemmas.spans.ReachLemmas.{is_special, gap_reach, reach_plain, map_some}
use Rattle.cm_scan.proofs.tags.after_specification.Goals as goal

pub returns-clause-some : goal.returns-clause-some
returns-clause-some g c =
    let r1 = c.after_gap.result in
    let beyond = c.in-Some.beyond in
    let first = gap_reach c.args.bytes.now r1 c.after_gap.ensures.skipped in
    let step = ap (tag_reach 0) c.in-Some.ensures.read ∙ reach_plain c.in-Some.b beyond (ap is_special c.if-b-ne61.false) in
    let long = ap length c.in-Some.ensures.read in
    let second = gap_reach beyond c.after_gap-2.result c.after_gap-2.ensures.skipped in
    map_some c.after_value.result _ _ c.after_value.ensures.some (λ rest h. omega (arith, h, first, step, long, second, c.after_gap.ensures.looks, c.after_gap.ensures.shorter, c.first.ensures.looks, c.after_gap-2.ensures.looks, c.after_gap-2.ensures.shorter))

pub returns-clause-none : goal.returns-clause-none
returns-clause-none g c =
    let r1 = c.after_gap.result in
    let beyond = c.in-Some.beyond in
    let first = gap_reach c.args.bytes.now r1 c.after_gap.ensures.skipped in
    let step = ap (tag_reach 0) c.in-Some.ensures.read ∙ reach_plain c.in-Some.b beyond (ap is_special c.if-b-ne61.false) in
    let long = ap length c.in-Some.ensures.read in
    let second = gap_reach beyond c.after_gap-2.result c.after_gap-2.ensures.skipped in
    λ none. omega (arith, c.after_value.ensures.none none, first, step, long, second, c.after_gap.ensures.looks, c.after_gap.ensures.shorter, c.first.ensures.looks, c.after_gap-2.ensures.looks, c.after_gap-2.ensures.shorter)
