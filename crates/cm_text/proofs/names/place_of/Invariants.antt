use Rattle.std.proofs.Common.{◌≡◌, ℕ, ◌<◌, ◌≤◌, ◌-◌}
use Rattle.cm_text.specs.steps.NameTable.{name_at}
use Rattle.cm_text.proofs.names.place_of.Given as goal

-- the name is nowhere else
abbrev pub invariant-loop-low : goal.invariant-loop-low
invariant-loop-low l = record {
  within : l.high ≤ 177;
  nowhere_else : (i : ℕ) → i < 177 → name_at i ≡ l.name → (l.low ≤ i) × (i < l.high);
}

abbrev pub decreases-loop-low : goal.decreases-loop-low
decreases-loop-low l = l.high - l.low
