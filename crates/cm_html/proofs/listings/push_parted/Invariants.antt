use Rattle.std.proofs.Common.{◌≡◌, ◌++◌, drop}
use Rattle.cm_html.specs.Listing.{listed_blocks}
use Rattle.cm_html.proofs.listings.push_parted.Given as goal

-- what was written and what is left are all
abbrev pub invariant-loop-block : goal.invariant-loop-block
invariant-loop-block l = l.out ++ listed_blocks 0 (drop l.block-index l.blocks) ≡ l.fn.out ++ listed_blocks 0 l.blocks
