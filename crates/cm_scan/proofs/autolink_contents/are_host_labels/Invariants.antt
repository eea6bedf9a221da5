use Rattle.std.proofs.Common.{◌≡◌, ◌+◌, ◌*◌, ◌≤◌, length}
use Rattle.std.specs.List.{list_all}
use Rattle.cm_scan.specs.spans.Autolinks.{is_host_label}
use Rattle.cm_scan.specs.steps.SpanSteps.{labels}
use Rattle.cm_scan.proofs.autolink_contents.are_host_labels.Given as goal

abbrev pub invariant-loop-dot : goal.invariant-loop-dot
invariant-loop-dot g l = record {
  looks : l.looks + 4 * length l.rest ≤ l.fn.looks + 4 * length l.host;
  same : list_all is_host_label (labels l.rest) ≡ list_all is_host_label (labels l.host);
}

abbrev pub decreases-loop-dot : goal.decreases-loop-dot
decreases-loop-dot g l = length l.rest
