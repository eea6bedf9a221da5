use Rattle.std.proofs.Common.{arith}
use Rattle.cm_text.proofs.lemmas.ViewLemmas.{rest_is_line, after_fits}
use Rattle.cm_text.proofs.view.View.past.Goals as goal

pub invariant_of-result : goal.invariant_of-result
invariant_of-result c =
    let v = c.args.self.now in
    record {
      one_line = rest_is_line c.args.n v.rest.now c.range_from.result.now v.one_line c.range_from.ensures.value;
      fits = omega (arith, v.fits, after_fits c.args.n v.rest.now c.range_from.result.now (omega (arith, c.range_from.ensures.len)) c.range_from.ensures.value);
    }
