use Rattle.std.proofs.Common.{bit_or, refl, arith}
use Rattle.cm_text.specs.Search.{is_marked}
use Rattle.cm_text.proofs.lemmas.SearchLemmas.{in-table, joined, masked, places-ok}
use Rattle.cm_text.specs.declared.search.TheConstants.{MARKED, ALSO_MARKED}
use Rattle.cm_text.proofs.search.MarkedByteKind.lanes.Goals as goal

pub returns : goal.returns
returns c =
    let v = c.args.lanes in
    let long = c.fits-lanes.0 in
    masked _ is_marked refl v _ (omega arith) c.fits-lanes.1 (joined bit_or _ _ v (in-table MARKED v long c.fits-lanes.1) (in-table ALSO_MARKED v long c.fits-lanes.1))

pub swizzle : goal.swizzle
swizzle c = places-ok c.args.lanes c.fits-lanes.0 c.fits-lanes.1

pub swizzle-2 : goal.swizzle-2
swizzle-2 c = places-ok c.args.lanes c.fits-lanes.0 c.fits-lanes.1
