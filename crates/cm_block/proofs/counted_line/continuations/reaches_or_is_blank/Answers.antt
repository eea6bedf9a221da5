use Rattle.std.proofs.Common.{◌∙◌}
use Rattle.cm_text.specs.Views.{seen_view}
use Rattle.cm_scan.specs.blocks.Lines.{is_blank}
use Rattle.cm_block.proofs.lemmas.ContinuationLemmas.{taken_goes_on, far_enough, not_far_enough}
use Rattle.cm_block.proofs.counted_line.continuations.reaches_or_is_blank.Goals as goal

pub overflow_sub-inner : goal.overflow_sub-inner
overflow_sub-inner c = taken_goes_on c.args.column (seen_view c.args.line.now) (seen_view c.args.inner.now) c.requires

pub returns-then-inner-line : goal.returns-then-inner-line
returns-then-inner-line c =
    far_enough c.args.column (seen_view c.args.line.now) (seen_view c.args.inner.now) (is_blank (seen_view c.args.line.now)) c.requires c.if-inner-line.true

pub returns-else-inner-line : goal.returns-else-inner-line
returns-else-inner-line c =
    c.is_blank.ensures
    ∙ not_far_enough c.args.column (seen_view c.args.line.now) (seen_view c.args.inner.now) (is_blank (seen_view c.args.line.now)) c.requires c.if-inner-line.false
