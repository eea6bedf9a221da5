use Rattle.std.proofs.Common.{◌≡◌, ◌++◌, length, string_bytes}
use denote.Text.{Utf8}
use denote.Shadow.{shadow}
use Rattle.cm_text.specs.Unescaping.{unescape}
use Rattle.cm_text.proofs.unescaping.unescape.Given as goal

-- what was made, and what the rest gives, come to the whole
abbrev pub invariant-loop-at : goal.invariant-loop-at
invariant-loop-at l = shadow (Utf8 l.rest) × (string_bytes l.unescaped ++ unescape l.rest ≡ unescape l.text)

abbrev pub decreases-loop-at : goal.decreases-loop-at
decreases-loop-at l = length l.rest
