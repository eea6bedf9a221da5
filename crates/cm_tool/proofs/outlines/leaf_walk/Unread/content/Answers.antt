use Rattle.std.proofs.lemmas.Result.{err_from_is_err_and}
use Rattle.cm_scan.specs.inlines.Brackets.{defined_in}
use Rattle.cm_scan.specs.Documents.{content_read}
use Rattle.cm_tree.specs.RawBlocks.{raw_inlines}
use Rattle.cm_tool.proofs.lemmas.LeafLemmas.{leaf_within, leaf_refused, never_long}
use Rattle.cm_tool.proofs.lemmas.RawWalkLemmas.{source_read}
use Rattle.cm_tool.proofs.outlines.leaf_walk.Unread.content.Goals as goal

pub returns-in_err-inlines-clause-deep : goal.returns-in_err-inlines-clause-deep
returns-in_err-inlines-clause-deep c =
    let p = err_from_is_err_and c.from_residual-in_err-inlines.result c.from_residual-in_err-inlines.ensures.1 in
    let limits = c.args.self.now.limits in
    let targets = c.args.self.now.definitions in
    let source = c.text-source.result.now in
    rw (p.1, p.2, ← c.text-source.ensures, source_read limits.rules (defined_in targets) source)
    (leaf_refused limits.rules targets limits.inlines source c.in_err-inlines.field-0.0 (rw (c.rules.ensures, c.inlines.ensures.value) at c.in_err-inlines.ensures.reads))

pub returns-clause-within : goal.returns-clause-within
returns-clause-within c =
    let limits = c.args.self.now.limits in
    let defined = defined_in c.args.self.now.definitions in
    let source = c.text-source.result.now in
    let read = rw (c.rules.ensures, c.inlines.ensures.value) at c.in_ok-inlines.ensures.reads in
    rw (← c.text-source.ensures)
    (leaf_within limits.rules defined limits.inlines source (content_read limits.rules defined (raw_inlines source)) (source_read limits.rules defined source) read.within)

pub returns-in_err-inlines-clause-short : goal.returns-in_err-inlines-clause-short
returns-in_err-inlines-clause-short c =
    let p = err_from_is_err_and c.from_residual-in_err-inlines.result c.from_residual-in_err-inlines.ensures.1 in
    let limits = c.args.self.now.limits in
    rw (p.1, p.2) (never_long limits.rules c.args.self.now.definitions limits.inlines c.args.self.now.raw.text c.args.from c.args.to c.text-source.result.now c.in_err-inlines.field-0.0
    c.text-source.ensures c.ranges.to.fits (rw (c.rules.ensures, c.inlines.ensures.value) at c.in_err-inlines.ensures.reads))
