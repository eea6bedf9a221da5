use Rattle.std.proofs.Common.{refl, arith}
use Rattle.std.proofs.lemmas.Grind.{common_steps}
use Rattle.cm_text.proofs.line_buffer.LineBuffer.accept.Goals as goal

pub returns-in_default-clause-step : goal.returns-in_default-clause-step
returns-in_default-clause-step c =
    rw (← c.self.view_is) record { limit = refl; ended = refl; fault = refl; ready = (c.in_default.ensures.err.0, grind (arith, common_steps, c.in_default.ensures.err.1)) }

pub returns-then-broken-clause-step : goal.returns-then-broken-clause-step
returns-then-broken-clause-step c = grind (arith, common_steps)

pub returns-clause-step : goal.returns-clause-step
returns-clause-step c = grind (arith, common_steps)
