use Rattle.std.proofs.Common.{◌≡◌, drop}
use Rattle.std.specs.List.{list_any}
use Rattle.std.specs.Str.{str_to_ascii_lowercase, bytes_eq}
use Rattle.cm_scan.proofs.html_blocks.is_among.Given as goal

abbrev pub invariant-loop-word : goal.invariant-loop-word
invariant-loop-word l =
    list_any (λ word. bytes_eq word.now (str_to_ascii_lowercase l.name)) (drop l.word-index l.words) ≡ list_any (λ word. bytes_eq word.now (str_to_ascii_lowercase l.name)) l.words
