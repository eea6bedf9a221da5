use Rattle.std.proofs.Common.{◌*◌, arith}
use Rattle.std.proofs.lemmas.Grind.{common_steps}
use Rattle.cm_html.proofs.lemmas.ListingLemmas.{margin-boundary, margin-cut, length-margin}
use Rattle.cm_html.proofs.quoting.push_margin.Goals as goal

pub range-requires-clause-end_boundary : goal.range-requires-clause-end_boundary
range-requires-clause-end_boundary c = margin-boundary (2 * c.min-nodes.result) (omega (arith, c.min-nodes.ensures))

pub loop-left-preserved : goal.loop-left-preserved
loop-left-preserved c =
    grind (
      arith,
      common_steps,
      c.loop-left.invariant,
      c.push_str.ensures.bytes,
      margin-cut c.loop-left.left c.min-nodes.result (omega (arith, c.min-nodes.ensures)) (omega (arith, c.min-nodes.ensures)),
      c.range.ensures.value,
    )

pub returns-clause-small : goal.returns-clause-small
returns-clause-small c = grind (arith, common_steps, c.loop-left.invariant, length-margin c.args.depth, c.loop-left.out.ok, c.loop-left-test.false)
