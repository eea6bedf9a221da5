use Rattle.std.proofs.Common.{◌≡◌, ◌++◌, ◌+◌, drop}
use Rattle.cm_html.specs.Listing.{owners_from}
use Rattle.cm_html.proofs.listings.push_listed_owners.Given as goal

-- what was written and what is left are all
abbrev pub invariant-loop-index : goal.invariant-loop-index
invariant-loop-index l =
    l.out ++ owners_from (l.index + 1) (drop l.index l.owners) ≡ l.fn.out ++ owners_from 1 l.owners
