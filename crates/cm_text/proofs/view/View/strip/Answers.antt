use Rattle.std.proofs.Common.{arith}
use Rattle.cm_text.proofs.lemmas.ViewLemmas.{rest_is_line, rest_fits, strip_line_some, strip_line_all, few_spaces, none_left}
use Rattle.cm_text.proofs.view.View.strip.Goals as goal

pub returns-then-n-self-clause-line : goal.returns-then-n-self-clause-line
returns-then-n-self-clause-line c =
    let v = c.args.self.now in
    strip_line_some c.args.n v.column v.spaces v.rest.now v.lazy c.if-n-self.true

pub invariant_of-result-2 : goal.invariant_of-result-2
invariant_of-result-2 c =
    let v = c.args.self.now in
    record {
      one_line = rest_is_line c.take_columns-column.result.2 v.rest.now c.range_from.result.now v.one_line c.range_from.ensures.value;
      fits = omega (
        arith,
        v.fits,
        c.if-n-self.false,
        rest_fits _ _ _ _ c.take_columns-column.result.2 v.rest.now c.range_from.result.now c.take_columns-column.ensures.taken c.range_from.ensures.value,
      );
    }

pub returns-clause-line : goal.returns-clause-line
returns-clause-line c =
    let v = c.args.self.now in
    strip_line_all c.args.n v.column v.spaces _ _ c.take_columns-column.result.2 v.rest.now c.range_from.result.now v.lazy (omega (arith, c.if-n-self.false))
    c.take_columns-column.ensures.taken c.range_from.ensures.value

pub returns-then-n-self-clause-bare : goal.returns-then-n-self-clause-bare
returns-then-n-self-clause-bare c = λ all.
    let v = c.args.self.now in
    omega (arith, few_spaces c.args.n v.column v.spaces v.rest.now all)

pub returns-clause-bare : goal.returns-clause-bare
returns-clause-bare c = λ all.
    let v = c.args.self.now in
    none_left c.args.n v.column v.spaces _ _ c.take_columns-column.result.2 v.rest.now c.take_columns-column.ensures.taken (omega (arith, c.if-n-self.false)) all
