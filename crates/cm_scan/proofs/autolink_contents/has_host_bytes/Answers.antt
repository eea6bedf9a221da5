use Rattle.std.proofs.Common.{◌∙◌, ap, ◌==◌, length}
use Rattle.cm_scan.specs.steps.SpanSteps.{is_host_byte}
use Rattle.cm_scan.proofs.lemmas.spans.AutolinkReach.{none-left}
use Rattle.cm_scan.proofs.autolink_contents.has_host_bytes.Goals as goal

pub returns-clause-bytes : goal.returns-clause-bytes
returns-clause-bytes g c =
    let left = c.skip_passing.ensures.skipped is_host_byte (λ b told small e. e) in
    ap (λ n. n == 0) (c.len.ensures ∙ ap length left) ∙ none-left is_host_byte c.args.label.now
