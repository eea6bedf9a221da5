use Rattle.std.proofs.Common.{◌+◌, ◌∙◌, length, length-drop, length-take-le, sym, ap, arith}
use Rattle.std.specs.List.{list_all}
use Rattle.cm_scan.specs.spans.Autolinks.{is_host_label}
use Rattle.cm_scan.specs.steps.SpanSteps.{labels}
use Rattle.cm_scan.proofs.lemmas.spans.AutolinkParts.{last-label, label-bad, label-good}
use Rattle.cm_scan.proofs.autolink_contents.are_host_labels.Goals as goal

pub returns-then-not-is_host_label-clause-labels : goal.returns-then-not-is_host_label-clause-labels
returns-then-not-is_host_label-clause-labels g c =
    label-bad c.loop-dot.rest c.in-Some.dot c.in-Some.ensures.found (sym (c.is_host_label.ensures.label ∙ ap is_host_label c.front.ensures) ∙ c.if-not-is_host_label.true) ∙ c.loop-dot.invariant.same

pub returns-then-not-is_host_label-clause-looks : goal.returns-then-not-is_host_label-clause-looks
returns-then-not-is_host_label-clause-looks g c =
    omega (arith, c.loop-dot.invariant.looks, c.in-Some.ensures.some, c.is_host_label.ensures.looks, ap length c.front.ensures, length-take-le c.in-Some.dot c.loop-dot.rest (omega (arith, c.in-Some.ensures.some)))

pub loop-dot-preserved : goal.loop-dot-preserved
loop-dot-preserved g c =
    let rest = c.loop-dot.rest in
    let dot = c.in-Some.dot in
    record {
      looks = omega (arith, c.loop-dot.invariant.looks, c.in-Some.ensures.some, c.is_host_label.ensures.looks, ap length c.front.ensures, length-take-le dot rest (omega (arith, c.in-Some.ensures.some)), ap length c.after-rest.ensures, length-drop (dot + 1) rest);
      same = ap (λ t. list_all is_host_label (labels t)) c.after-rest.ensures
          ∙ label-good rest dot c.in-Some.ensures.found (sym (c.is_host_label.ensures.label ∙ ap is_host_label c.front.ensures) ∙ c.if-not-is_host_label.false) ∙ c.loop-dot.invariant.same;
    }

pub returns-clause-labels : goal.returns-clause-labels
returns-clause-labels g c = c.is_host_label-2.ensures.label ∙ last-label c.loop-dot.rest c.in_default.ensures.found ∙ c.loop-dot.invariant.same
