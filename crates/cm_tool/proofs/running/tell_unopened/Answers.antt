use Rattle.std.proofs.Common.{◌∙◌, inl}
use Rattle.cm_tool.proofs.running.tell_unopened.Goals as goal

pub returns-in-Ok-clause-lines : goal.returns-in-Ok-clause-lines
returns-in-Ok-clause-lines g c = inl (rw (c.as_bytes.ensures.value ∙ c.in-Ok.ensures) at c.offer.ensures)
