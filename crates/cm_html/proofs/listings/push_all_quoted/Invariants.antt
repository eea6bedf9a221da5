use Rattle.std.proofs.Common.{◌≡◌, ◌++◌, map, drop}
use Rattle.cm_html.specs.Listing.{all_quoted}
use Rattle.cm_html.proofs.listings.push_all_quoted.Given as goal

-- what was written and what is left are all
abbrev pub invariant-loop-text : goal.invariant-loop-text
invariant-loop-text l =
    l.out ++ all_quoted (map (λ text. text.now) (drop l.text-index l.texts)) ≡ l.fn.out ++ all_quoted (map (λ text. text.now) l.texts)
