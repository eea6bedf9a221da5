use Rattle.cm_inline.proofs.lemmas.Words.{◌≡◌, ◌++◌, length, Utf8, shadow, escape, one_line}
use Rattle.cm_inline.proofs.html_texts.push_one_line.Given as goal

-- what was added, and what the rest adds, come to the whole
abbrev pub invariant-loop-at : goal.invariant-loop-at
invariant-loop-at l = shadow (Utf8 l.rest) × (l.html ++ escape (one_line l.rest) ≡ l.initial.html ++ escape (one_line l.text))

abbrev pub decreases-loop-at : goal.decreases-loop-at
decreases-loop-at l = length l.rest
