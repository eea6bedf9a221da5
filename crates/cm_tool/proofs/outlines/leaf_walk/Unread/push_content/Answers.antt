use Rattle.std.proofs.Common.{◌≡◌, ◌≢◌, ◌<◌}
use Rattle.std.proofs.lemmas.Result.{on_ok_weaker, IfErr-weaker}
use Rattle.cm_tree.specs.Depth.{inlines_depth}
use Rattle.cm_scan.specs.inlines.Brackets.{defined_in}
use Rattle.cm_scan.specs.Documents.{content_read}
use Rattle.cm_tree.specs.RawBlocks.{raw_inlines}
use Rattle.cm_inline.specs.declared.fault.InlineFault.TheVariants as inline_faults
use Rattle.cm_inline.specs.Reading.{Refused}
use Rattle.cm_tool.proofs.lemmas.LeafLemmas.{leaf_within, leaf_refused, never_long}
use Rattle.cm_tool.proofs.lemmas.RawWalkLemmas.{source_read}
use Rattle.cm_tool.proofs.outlines.leaf_walk.Unread.push_content.Goals as goal

pub returns-clause-pushed : goal.returns-clause-pushed
returns-clause-pushed c =
    let defined = defined_in c.args.self.now.definitions in
    let source = c.text-source.result.now in
    rw (← c.text-source.ensures, source_read c.args.self.now.limits.rules defined source) (rw c.rules.ensures at c.push_html.ensures.pushed)

pub returns-clause-within : goal.returns-clause-within
returns-clause-within c =
    let limits = c.args.self.now.limits in
    let defined = defined_in c.args.self.now.definitions in
    let source = c.text-source.result.now in
    let content = content_read limits.rules defined (raw_inlines source) in
    rw (← c.text-source.ensures)
    (on_ok_weaker c.push_html.result (leaf_within limits.rules defined limits.inlines source content (source_read limits.rules defined source))
    (rw (c.rules.ensures, c.inlines.ensures.value) at c.push_html.ensures.within))

pub returns-clause-deep : goal.returns-clause-deep
returns-clause-deep c =
    let limits = c.args.self.now.limits in
    let targets = c.args.self.now.definitions in
    let source = c.text-source.result.now in
    let content = content_read limits.rules (defined_in targets) (raw_inlines source) in
    rw (← c.text-source.ensures)
    (IfErr-weaker c.push_html.result (λ fault. Refused fault limits.rules targets limits.inlines source) (λ fault. fault ≡ inline_faults.InlinesTooDeep → limits.inlines < inlines_depth content)
    (λ fault refused. rw (source_read limits.rules (defined_in targets) source) (leaf_refused limits.rules targets limits.inlines source fault refused))
    (rw (c.rules.ensures, c.inlines.ensures.value) at c.push_html.ensures.refused))

pub returns-clause-short : goal.returns-clause-short
returns-clause-short c =
    let limits = c.args.self.now.limits in
    let targets = c.args.self.now.definitions in
    let source = c.text-source.result.now in
    IfErr-weaker c.push_html.result (λ fault. Refused fault limits.rules targets limits.inlines source) (λ fault. fault ≢ inline_faults.SourceTooLong)
    (λ fault refused. never_long limits.rules targets limits.inlines c.args.self.now.raw.text c.args.from c.args.to source fault c.text-source.ensures c.ranges.to.fits refused)
    (rw (c.rules.ensures, c.inlines.ensures.value) at c.push_html.ensures.refused)
