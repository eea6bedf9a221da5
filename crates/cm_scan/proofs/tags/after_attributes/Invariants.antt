use Rattle.std.proofs.Common.{◌≡◌, ◌+◌, ◌-◌, ◌*◌, ◌≤◌, suc, length}
use Rattle.cm_scan.specs.spans.Tags.{after_attributes}
use Rattle.cm_scan.specs.spans.Reach.{tag_reach}
use Rattle.cm_scan.specs.steps.SpanSteps.{gap_length}
use Rattle.cm_scan.proofs.tags.after_attributes.Given as goal

abbrev pub invariant-loop : goal.invariant-loop
invariant-loop g l = record {
  read : after_attributes (suc (length l.bytes) - l.counter) l.text ≡ after_attributes (suc (length l.bytes)) l.bytes;
  looks : l.looks + 8 * tag_reach 0 l.text ≤ l.fn.looks + 8 * tag_reach 0 l.bytes + gap_length l.text;
}
