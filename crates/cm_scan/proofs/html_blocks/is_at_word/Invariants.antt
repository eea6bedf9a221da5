use Rattle.std.specs.Str.{str_to_ascii_lowercase}
use Rattle.std.proofs.Common.{◌≡◌, drop}
use Rattle.cm_scan.specs.Words.{is_at_word}
use Rattle.cm_scan.proofs.html_blocks.is_at_word.Given as goal

abbrev pub invariant-loop-i : goal.invariant-loop-i
invariant-loop-i l = is_at_word (drop l.i l.word) (str_to_ascii_lowercase (drop l.i l.bytes)) ≡ is_at_word l.word (str_to_ascii_lowercase l.bytes)
