use Rattle.std.proofs.Common.{◌≡◌, ℕ, ◌-◌, ◌<◌, ◌≤◌, false, get_or, length}
use Rattle.cm_text.proofs.search.pass_by_32.Given as goal

-- none was skipped
abbrev pub invariant-loop-at : goal.invariant-loop-at
invariant-loop-at g l = record {
  low : l.from ≤ l.at;
  within : l.at ≤ length l.bytes;
  passed : (k : ℕ) → l.from ≤ k → k < l.at → g.K.ByteKind.passes (get_or l.bytes k 0) ≡ false;
}

abbrev pub decreases-loop-at : goal.decreases-loop-at
decreases-loop-at g l = length l.bytes - l.at
