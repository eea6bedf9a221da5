use Rattle.std.proofs.Common.{◌≡◌, ◌++◌, length, string_bytes}
use denote.Text.{Utf8}
use denote.Shadow.{shadow}
use Rattle.cm_text.specs.Lines.{text_of}
use Rattle.cm_text.proofs.texts.text_of.Given as goal

-- what was made, and what the rest gives, come to the whole
abbrev pub invariant-loop-at : goal.invariant-loop-at
invariant-loop-at l = shadow (Utf8 l.rest) × (string_bytes l.text ++ text_of l.rest ≡ text_of l.whole)

abbrev pub decreases-loop-at : goal.decreases-loop-at
decreases-loop-at l = length l.rest
