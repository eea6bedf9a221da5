use Rattle.std.proofs.Common.{[]}
use Rattle.std.proofs.lemmas.Result.{err_from_is_err_and}
use Rattle.cm_tool.specs.Faults.{fault_of}
use Rattle.cm_tool.proofs.lemmas.ParserLemmas.{nothing_settled}
use Rattle.cm_tool.proofs.lemmas.ReadLemmas.{outline_read}
use Rattle.cm_tool.proofs.reading.read_outline.Goals as goal

pub returns-in_err-take_all : goal.returns-in_err-take_all
returns-in_err-take_all g c =
    let limits = c.args.limits in
    let taken = c.in_err-take_all.ensures in
    let p = err_from_is_err_and c.from_residual.result c.from_residual.ensures.1 in
    rw (p.1, p.2) (taken.0, taken.1, taken.2 limits c.new-parser.ensures (nothing_settled limits _ _ [] c.new-parser.ensures.goes) (fault_of limits taken.0))

pub returns : goal.returns
returns g c =
    let limits = c.args.limits in
    let taken = c.in_ok-take_all.ensures in
    let whole = taken.2 limits c.new-parser.ensures (nothing_settled limits _ _ [] c.new-parser.ensures.goes) in (
      taken.0,
      taken.1,
      outline_read limits _ _ taken.0 c.take_all.new.taker whole c.outline.result
          c.outline.ensures.outline c.outline.ensures.told,
    )
