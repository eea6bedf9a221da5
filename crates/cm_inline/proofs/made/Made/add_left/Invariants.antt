use Rattle.cm_inline.proofs.lemmas.Words.{◌≡◌, ◌-◌, replicate}
use Rattle.cm_inline.specs.steps.pairing.Events.{add_text}
use Rattle.cm_inline.specs.steps.Building.{built_in}
use Rattle.cm_inline.specs.steps.Runs.{byte_of}
use Rattle.cm_inline.proofs.made.Made.add_left.Given as goal

-- what was added and what is left are all
abbrev pub invariant-loop : goal.invariant-loop
invariant-loop l = add_text (built_in l.self) (replicate (l.run.left - l.counter) (byte_of l.run.marker)) ≡ add_text (built_in l.initial.self) (replicate l.run.left (byte_of l.run.marker))
