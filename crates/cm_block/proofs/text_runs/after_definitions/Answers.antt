use Rattle.std.proofs.Common.{◌∙◌}
use Rattle.std.proofs.lemmas.Str.{IsCharBoundary-start}
use Rattle.cm_block.proofs.lemmas.RunLemmas.{next_fewer, next_left, none_left}
use Rattle.cm_block.proofs.text_runs.after_definitions.Goals as goal

pub definition-requires : goal.definition-requires
definition-requires c = IsCharBoundary-start c.loop-end.rest.now c.loop-end.invariant.0

pub loop-end-smaller : goal.loop-end-smaller
loop-end-smaller c =
    let found = c.in-Some.field-0-0 in
    next_fewer c.loop-end.rest.now c.range_from-rest.result.now found.label.now found.dest.now found.title.now c.in-Some.end c.in-Some.ensures.read c.range_from-rest.ensures.value

pub loop-end-preserved : goal.loop-end-preserved
loop-end-preserved c =
    let found = c.in-Some.field-0-0 in (
      c.range_from-rest.utf8,
      next_left c.loop-end.rest.now c.range_from-rest.result.now found.label.now found.dest.now found.title.now c.in-Some.end c.in-Some.ensures.read c.range_from-rest.ensures.value
          ∙ c.loop-end.invariant.1,
    )

pub returns : goal.returns
returns c = none_left c.loop-end.rest.now c.in_default.ensures.read ∙ c.loop-end.invariant.1
