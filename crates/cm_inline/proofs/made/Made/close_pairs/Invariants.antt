use Rattle.cm_inline.proofs.lemmas.Words.{◌≡◌}
use Rattle.cm_inline.specs.steps.pairing.Events.{build}
use Rattle.cm_inline.specs.steps.pairing.Parts.{ends_between}
use Rattle.cm_inline.specs.steps.Building.{built_in}
use Rattle.cm_inline.specs.steps.Runs.{pairs_in}
use Rattle.cm_inline.proofs.made.Made.close_pairs.Given as goal

-- what was made and what is left are all
abbrev pub invariant-loop-at : goal.invariant-loop-at
invariant-loop-at l = build (built_in l.self) (ends_between (pairs_in l.pairs) l.at l.to) ≡ build (built_in l.initial.self) (ends_between (pairs_in l.pairs) l.from l.to)
