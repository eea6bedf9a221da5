use Rattle.cm_inline.proofs.lemmas.Words.{◌≡◌}
use Rattle.cm_inline.specs.steps.pairing.Parts.{ends_between}
use Rattle.cm_inline.specs.steps.pairing.Readings.{Tags, page, write_all}
use Rattle.cm_inline.specs.steps.Runs.{pairs_in}
use Rattle.cm_inline.proofs.html_runs.push_ends.Given as goal

-- what was written and what is left are all
abbrev pub invariant-loop-at : goal.invariant-loop-at
invariant-loop-at l = write_all (page l.html Tags) (ends_between (pairs_in l.pairs) l.at l.to) ≡ write_all (page l.initial.html Tags) (ends_between (pairs_in l.pairs) l.from l.to)
