use Rattle.std.proofs.Common.{◌≡◌, drop, map}
use Rattle.cm_text.specs.Rules.{Rules}
use Rattle.cm_source.specs.InlineRefusals.{judged, hold_emphasis}
use Rattle.cm_source.proofs.inline_refusals.emphasis.+emphasis.Given as goal

-- None was found so far.
abbrev pub invariant-hold_emphasis-loop-inline : goal.invariant-hold_emphasis-loop-inline
invariant-hold_emphasis-loop-inline l = (rules : Rules) → hold_emphasis (map (judged rules) (drop l.inline-index l.inlines)) ≡ hold_emphasis (map (judged rules) l.inlines)
