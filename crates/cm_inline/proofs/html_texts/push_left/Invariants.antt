use Rattle.cm_inline.proofs.lemmas.Words.{◌≡◌, ◌++◌, ◌-◌, replicate}
use Rattle.cm_inline.specs.steps.Runs.{byte_of}
use Rattle.cm_inline.proofs.html_texts.push_left.Given as goal

-- what was written and what is left are all
abbrev pub invariant-loop : goal.invariant-loop
invariant-loop l = l.html ++ replicate (l.run.left - l.counter) (byte_of l.run.marker) ≡ l.fn.html ++ replicate l.run.left (byte_of l.run.marker)
