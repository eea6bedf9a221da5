use Rattle.std.proofs.Common.{◌≡◌, ◌++◌, string_bytes}
use Rattle.percent_encoding.specs.Iter.{encoded_text}
use Rattle.cm_html.specs.Escape.{escape, destination_html}
use Rattle.cm_html.proofs.escape.push_destination.Given as goal

-- what was written and what is left are all
abbrev pub invariant-loop-piece : goal.invariant-loop-piece
invariant-loop-piece l = string_bytes l.out ++ escape (encoded_text l.piece-iterator) ≡ string_bytes l.fn.out ++ destination_html l.destination
