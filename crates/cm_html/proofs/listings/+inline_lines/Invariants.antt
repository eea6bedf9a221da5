use Rattle.std.proofs.Common.{◌≡◌, ◌++◌, drop}
use Rattle.cm_html.specs.Listing.{listed_inlines}
use Rattle.cm_html.proofs.listings.+inline_lines.Given as goal

-- what was written and what is left are all
abbrev pub invariant-push_inlines-loop-inline : goal.invariant-push_inlines-loop-inline
invariant-push_inlines-loop-inline l =
    l.out ++ listed_inlines l.depth (drop l.inline-index l.inlines) ≡ l.fn.out ++ listed_inlines l.depth l.inlines
