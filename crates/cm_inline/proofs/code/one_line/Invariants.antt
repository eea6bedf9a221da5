use Rattle.cm_inline.proofs.lemmas.Words.{◌≡◌, ◌++◌, length, Utf8, shadow, one_line}
use Rattle.std.proofs.Common.{string_bytes}
use Rattle.cm_inline.proofs.code.one_line.Given as goal

-- what was made, and what the rest gives, come to the whole
abbrev pub invariant-loop-at : goal.invariant-loop-at
invariant-loop-at l = shadow (Utf8 l.rest) × (string_bytes l.line ++ one_line l.rest ≡ one_line l.text)

abbrev pub decreases-loop-at : goal.decreases-loop-at
decreases-loop-at l = length l.rest
