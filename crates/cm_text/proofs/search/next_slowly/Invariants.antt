use Rattle.std.proofs.Common.{◌≡◌, ℕ, ◌<◌, ◌≤◌, false, get_or}
use Rattle.cm_text.proofs.search.next_slowly.Given as goal

-- none was skipped
abbrev pub invariant-loop-at : goal.invariant-loop-at
invariant-loop-at g l = (k : ℕ) → l.from ≤ k → k < l.at → g.K.ByteKind.passes (get_or l.bytes k 0) ≡ false
