use Rattle.std.proofs.Common.{◌≡◌, ◌-◌, ◌<◌, ◌≤◌, true, length, get_or}
use Rattle.cm_text.specs.Search.{next_place, is_markup, is_marked}
use Rattle.cm_text.proofs.search.next_markup.Given as goal

-- no byte that was passed is markup, and this one is marked
abbrev pub invariant-loop-at : goal.invariant-loop-at
invariant-loop-at l = record {
  same : next_place is_markup l.bytes l.at ≡ next_place is_markup l.bytes l.from;
  within : l.at ≤ length l.bytes;
  marked : l.at < length l.bytes → is_marked (get_or l.bytes l.at 0) ≡ true;
}

abbrev pub decreases-loop-at : goal.decreases-loop-at
decreases-loop-at l = length l.bytes - l.at
