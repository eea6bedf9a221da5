use Rattle.std.proofs.Common.{◌≡◌, ◌≤◌, drop, max}
use Rattle.cm_source.specs.Texts.{longest_run}
use Rattle.cm_source.proofs.texts.longest_of_runs.Given as goal

abbrev pub invariant-loop-b : goal.invariant-loop-b
invariant-loop-b l = record {
  run_is : l.run ≤ l.longest;
  few : l.run ≤ l.b-index;
  rest : max l.longest (longest_run l.run (drop l.b-index l.b-items)) ≡ longest_run 0 l.text;
}
