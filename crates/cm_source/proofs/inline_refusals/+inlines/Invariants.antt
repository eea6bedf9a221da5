use Rattle.std.proofs.Common.{◌≡◌, None, drop, map}
use Rattle.cm_source.specs.InlineRefusals.{judged, refusal_of_all}
use Rattle.cm_source.specs.steps.InlineFaces.{seen, place_of}
use Rattle.cm_source.proofs.inline_refusals.+inlines.Given as goal

-- What was taken is refused for no reason, and what is left is for the reason of all.
abbrev pub invariant-check_inlines-loop-at : goal.invariant-check_inlines-loop-at
invariant-check_inlines-loop-at l =
    refusal_of_all (place_of l.fn.place) None (map (judged l.rules) l.inlines) ≡ refusal_of_all (place_of l.place) (seen l.before) (map (judged l.rules) (drop l.at l.inlines))
