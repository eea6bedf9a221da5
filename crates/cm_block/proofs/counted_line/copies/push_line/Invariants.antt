use Rattle.std.proofs.Common.{◌≡◌, ◌++◌, replicate}
use Rattle.cm_block.proofs.counted_line.copies.push_line.Given as goal

abbrev pub invariant-loop : goal.invariant-loop
invariant-loop l = l.text ≡ l.fn.text ++ replicate l.counter 32
