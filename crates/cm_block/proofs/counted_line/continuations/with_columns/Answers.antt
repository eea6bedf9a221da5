use Rattle.std.proofs.Common.{◌+◌, ap, arith}
use Rattle.cm_block.proofs.lemmas.ContinuationLemmas.{columns_line, columns_fit, columns_seen}
use Rattle.cm_block.proofs.counted_line.continuations.with_columns.Goals as goal

pub overflow_add-result : goal.overflow_add-result
overflow_add-result c = omega (arith, c.args.line.now.fits, c.after_spaces-spaces.ensures.within)

pub invariant_of-result : goal.invariant_of-result
invariant_of-result c =
    let line = c.args.line.now in
    let beyond = c.after_spaces-spaces.ensures in
    record {
      one_line = columns_line line.rest.now c.after_spaces-spaces.result.1.now c.after_spaces-spaces.result.0 beyond.spaces beyond.beyond line.one_line;
      fits = omega (arith, columns_fit line.rest.now c.after_spaces-spaces.result.1.now c.after_spaces-spaces.result.0 beyond.spaces beyond.beyond (line.column + line.spaces) line.fits);
    }

pub returns : goal.returns
returns c =
    let line = c.args.line.now in
    let beyond = c.after_spaces-spaces.ensures in
    ap (λ text. record { column = line.column; text = text; lazy = line.lazy })
    (columns_seen line.rest.now c.after_spaces-spaces.result.1.now c.after_spaces-spaces.result.0 beyond.spaces beyond.beyond line.spaces)
