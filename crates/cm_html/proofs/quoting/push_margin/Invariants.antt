use Rattle.std.proofs.Common.{◌≡◌, ◌++◌, string_bytes}
use Rattle.cm_html.specs.Listing.{margin}
use Rattle.cm_html.proofs.quoting.push_margin.Given as goal

-- what was written and what is left are all
abbrev pub invariant-loop-left : goal.invariant-loop-left
invariant-loop-left l = string_bytes l.out ++ margin l.left ≡ string_bytes l.fn.out ++ margin l.depth

abbrev pub decreases-loop-left : goal.decreases-loop-left
decreases-loop-left l = l.left
