use Rattle.cm_inline.proofs.lemmas.Words.{◌≡◌, ℕ, ◌+◌, ◌-◌, ◌*◌, ◌<◌, ◌≤◌, false, Some, None, length, drop, get_or, up_to_run}
use Rattle.std.specs.Ordering.{nat_cmp}
use Rattle.std.specs.BTreeMap.{get}
use Rattle.cm_inline.specs.steps.Missing.{after_last, FollowsUpTo}
use Rattle.cm_inline.proofs.missing_ends.last_backticks.Given as goal

-- what isn't found from here on isn't found after the last one so far, and no backtick string goes on here
abbrev pub invariant-loop-plain : goal.invariant-loop-plain
invariant-loop-plain g l = record {
  none : (count : ℕ) → up_to_run count false (drop l.at l.text) ≡ None → up_to_run count false (drop (after_last l.last count) l.text) ≡ None;
  some : (count end : ℕ) → get nat_cmp l.last count ≡ Some end → FollowsUpTo l.text count end;
  over : 0 < l.at → get_or l.text l.at 0 ≡ 96 → ⊥;
  within : l.at ≤ length l.text;
  looks : l.looks ≤ l.fn.looks + 3 * l.at;
}

abbrev pub decreases-loop-plain : goal.decreases-loop-plain
decreases-loop-plain g l = length l.text - l.at
