use Rattle.std.proofs.Common.{◌∙◌, sym}
use Rattle.cm_scan.proofs.lemmas.spans.AutolinkParts.{address-none, address-end, address-other, address-host}
use Rattle.cm_scan.proofs.lemmas.spans.BacktickStrings.{not-same}
use Rattle.cm_scan.proofs.autolink_contents.is_address.Goals as goal

pub returns-then-len-clause-address : goal.returns-then-len-clause-address
returns-then-len-clause-address g c =
    address-none c.args.inside.now c.skip_address-rest.result c.skip_address-rest.ensures.skipped (sym c.len.ensures ∙ c.if-len.true ∙ c.len-2.ensures)

pub returns-in_default-clause-address : goal.returns-in_default-clause-address
returns-in_default-clause-address g c =
    address-end c.args.inside.now c.skip_address-rest.result c.skip_address-rest.ensures.skipped (λ e. c.if-len.false (c.len.ensures ∙ e ∙ sym c.len-2.ensures)) c.in_default.ensures.read

pub returns-then-b-eq64-clause-address : goal.returns-then-b-eq64-clause-address
returns-then-b-eq64-clause-address g c =
    c.are_host_labels.ensures.labels
    ∙ address-host c.args.inside.now c.skip_address-rest.result c.skip_address-rest.ensures.skipped (λ e. c.if-len.false (c.len.ensures ∙ e ∙ sym c.len-2.ensures)) c.in-Some.b c.in-Some.host c.in-Some.ensures.read c.if-b-eq64.true

pub returns-else-b-eq64-clause-address : goal.returns-else-b-eq64-clause-address
returns-else-b-eq64-clause-address g c =
    not-same c.in-Some.b 64 c.if-b-eq64.false
    ∙ address-other c.args.inside.now c.skip_address-rest.result c.skip_address-rest.ensures.skipped (λ e. c.if-len.false (c.len.ensures ∙ e ∙ sym c.len-2.ensures)) c.in-Some.b c.in-Some.host c.in-Some.ensures.read c.if-b-eq64.false
