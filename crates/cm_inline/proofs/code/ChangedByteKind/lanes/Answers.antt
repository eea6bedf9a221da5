use Rattle.std.proofs.Common.{refl, arith}
use Rattle.cm_text.proofs.lemmas.SearchLemmas.{in-table, masked, places-ok}
use Rattle.cm_inline.specs.steps.Marks.{is_changed_in_code}
use Rattle.cm_inline.specs.declared.code.TheConstants.{CHANGED}
use Rattle.cm_inline.proofs.code.ChangedByteKind.lanes.Goals as goal

pub returns : goal.returns
returns c =
    let v = c.args.lanes in
    let long = c.fits-lanes.0 in
    masked _ is_changed_in_code refl v _ (omega arith) c.fits-lanes.1 (in-table CHANGED v long c.fits-lanes.1)

pub swizzle : goal.swizzle
swizzle c = places-ok c.args.lanes c.fits-lanes.0 c.fits-lanes.1
