use Rattle.cm_inline.proofs.lemmas.Words.{◌≡◌, ◌+◌, ◌≤◌, length}
use Rattle.cm_inline.specs.steps.Entries.{AllOpen, before_last}
use Rattle.cm_inline.specs.steps.Runs.{run_of}
use Rattle.cm_inline.specs.steps.Searching.{find_opener, looks_for, from_found}
use Rattle.cm_inline.specs.steps.Slots.{upto, IsAt}
use Rattle.cm_inline.proofs.pairing.find.Given as goal

-- what is found among the entries that are left is what is found among all before the last
abbrev pub invariant-loop-place : goal.invariant-loop-place
invariant-loop-place l = record {
  there : IsAt l.at l.list.entries;
  earlier : l.at ≤ l.number;
  same : l.list.entries ≡ l.fn.list.entries;
  runs : l.list.runs ≡ l.fn.list.runs;
  open_are : AllOpen (upto l.at l.list.entries);
  found : find_opener (run_of l.closer) l.bottom (upto l.at l.list.entries) ≡ find_opener (run_of l.closer) l.bottom (before_last l.fn.list.entries);
  rest : from_found (run_of l.closer) l.bottom (upto l.at l.list.entries) ≡ from_found (run_of l.closer) l.bottom (before_last l.fn.list.entries);
  counted : l.list.looks + looks_for (run_of l.closer) l.bottom (upto l.at l.list.entries) ≡ l.fn.list.looks + looks_for (run_of l.closer) l.bottom (before_last l.fn.list.entries);
  few : l.list.looks + length (upto l.at l.list.entries) ≤ l.fn.list.looks + length (before_last l.fn.list.entries);
}

abbrev pub decreases-loop-place : goal.decreases-loop-place
decreases-loop-place l = l.at
