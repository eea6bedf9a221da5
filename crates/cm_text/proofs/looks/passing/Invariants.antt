use Rattle.std.proofs.Common.{◌≡◌, ◌<◌, ℕ, Bool, true, get_or}
use Rattle.cm_text.proofs.looks.passing.Given as goal

-- whatever the test says of a byte, it says yes of each that has been passed
abbrev pub invariant-loop-i : goal.invariant-loop-i
invariant-loop-i g l = (passes : ℕ → Bool) → ((b : ℕ) (told : Bool) → b < 256 → goal.F-post g l.test b told → told ≡ passes b)
    → (k : ℕ) → k < l.i → passes (get_or l.bytes k 0) ≡ true
