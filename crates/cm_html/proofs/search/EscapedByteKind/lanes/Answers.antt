use Rattle.std.proofs.Common.{refl, arith}
use Rattle.cm_text.proofs.lemmas.SearchLemmas.{in-table, masked, places-ok}
use Rattle.cm_html.specs.steps.Bytes.{is_escaped}
use Rattle.cm_html.specs.declared.search.TheConstants.{ESCAPED}
use Rattle.cm_html.proofs.search.EscapedByteKind.lanes.Goals as goal

pub returns : goal.returns
returns c =
    let v = c.args.lanes in
    let long = c.fits-lanes.0 in
    masked _ is_escaped refl v _ (omega arith) c.fits-lanes.1 (in-table ESCAPED v long c.fits-lanes.1)

pub swizzle : goal.swizzle
swizzle c = places-ok c.args.lanes c.fits-lanes.0 c.fits-lanes.1
