use Rattle.cm_inline.specs.steps.Building.{built_in}
use Rattle.cm_inline.specs.steps.Runs.{byte_of}
use Rattle.cm_inline.proofs.lemmas.BuildLemmas.{left-next}
use Rattle.cm_inline.proofs.made.Made.add_left.Goals as goal

pub loop-preserved : goal.loop-preserved
loop-preserved c = left-next (built_in c.loop.self) _ _ (byte_of c.args.run.marker) c.args.run.left c.loop.counter _ c.loop-test.true c.in_ok-add_text.ensures.added c.text.ensures c.loop.invariant
