use Rattle.cm_inline.proofs.lemmas.Words.{length, ap, arith}
use Rattle.cm_inline.proofs.lemmas.RunLemmas.{run-known}
use Rattle.cm_inline.proofs.sizes.Sizes.add_run.Goals as goal

pub begin_pairs-requires-clause-opened : goal.begin_pairs-requires-clause-opened
begin_pairs-requires-clause-opened c =
    let runs = c.args.runs.now in
    omega (arith, (run-known runs.list.runs runs.pairs.items c.args.number c.run-run.result c.requires.number c.run-run.ensures c.requires.chained).opened, ap length c.as_slice.ensures.value)
