use Rattle.cm_source.proofs.refusals.spellable.Goals as goal

pub returns : goal.returns
returns c = cc
