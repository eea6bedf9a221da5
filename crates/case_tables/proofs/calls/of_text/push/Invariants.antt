use Rattle.std.proofs.Common.{◌≡◌, false}
use Rattle.case_tables.proofs.calls.of_text.push.Given as goal

abbrev pub invariant-loop : goal.invariant-loop
invariant-loop l = l.feed.ended ≡ false
