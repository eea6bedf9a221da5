use Rattle.std.specs.Str.{str_to_ascii_lowercase}
use Rattle.std.proofs.Common.{◌≡◌, ◌≤◌, length}
use Rattle.cm_scan.specs.Words.{holds_word}
use Rattle.cm_scan.proofs.html_blocks.holds_word.Given as goal

abbrev pub invariant-loop-at : goal.invariant-loop-at
invariant-loop-at l = record {
  within : length l.rest ≤ length l.bytes;
  same : holds_word l.word (str_to_ascii_lowercase l.rest) ≡ holds_word l.word (str_to_ascii_lowercase l.bytes);
}

abbrev pub decreases-loop-at : goal.decreases-loop-at
decreases-loop-at l = length l.rest
