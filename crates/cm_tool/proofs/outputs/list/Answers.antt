use Rattle.std.proofs.lemmas.Result.{err_from_is_err_and}
use Rattle.cm_text.specs.Writing.{IsUnwritten}
use Rattle.cm_tool.specs.Writing.{listed}
use Rattle.cm_tool.proofs.lemmas.ConversionLemmas.{output_lost}
use Rattle.cm_tool.proofs.lemmas.ReadLemmas.{read_whole}
use Rattle.cm_tool.proofs.outputs.list.Goals as goal

pub returns-in_err-write : goal.returns-in_err-write
returns-in_err-write g c =
    let p = err_from_is_err_and c.from_residual-in_err-write.result c.from_residual-in_err-write.ensures.1 in
    let limits = c.args.limits in
    let outline = c.in_ok-outline.ensures in
    let bytes = outline.0 in
    let listing = c.in_ok-listing.ensures bytes outline.2.2 in
    rw (p.1, p.2) (
      bytes,
      outline.1,
      output_lost (λ old new text. IsUnwritten old new) listed c.in_err-write.field-0.0 limits bytes c.in_ok-listing.listing _ _ _ _
          (read_whole limits c.in_ok-outline.outline _ _ bytes outline.2 listing.0) listing.1 c.in_err-write.ensures,
    )
