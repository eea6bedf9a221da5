use Rattle.std.proofs.Common.{◌≡◌, false}
use Rattle.case_tables.proofs.calls.of_text.show_lines.Given as goal

abbrev pub invariant-loop-piece : goal.invariant-loop-piece
invariant-loop-piece l = l.feed.ended ≡ false
