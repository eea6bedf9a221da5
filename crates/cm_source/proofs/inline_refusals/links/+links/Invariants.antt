use Rattle.std.proofs.Common.{◌≡◌, drop, map}
use Rattle.cm_text.specs.Rules.{Rules}
use Rattle.cm_source.specs.InlineRefusals.{judged, hold_link}
use Rattle.cm_source.proofs.inline_refusals.links.+links.Given as goal

-- None was found so far.
abbrev pub invariant-hold_link-loop-inline : goal.invariant-hold_link-loop-inline
invariant-hold_link-loop-inline l = (rules : Rules) → hold_link (map (judged rules) (drop l.inline-index l.inlines)) ≡ hold_link (map (judged rules) l.inlines)
