use Rattle.cm_inline.proofs.lemmas.Words.{arith, get_or_read, nat_tests, length, ap}
use Rattle.cm_inline.proofs.lemmas.BuildLemmas.{run-built}
use Rattle.cm_inline.proofs.lemmas.HtmlLemmas.{on-ok}
use Rattle.cm_inline.proofs.lemmas.RunLemmas.{run-known}
use Rattle.cm_inline.proofs.made.Made.push_run.Goals as goal

pub close_pairs-requires : goal.close_pairs-requires
close_pairs-requires c =
    let runs = c.args.runs.now in
    omega (arith, (run-known runs.list.runs runs.pairs.items c.args.number c.run-run.result c.requires.number c.run-run.ensures c.requires.chained).to, ap length c.as_slice.ensures.value)

pub open_pairs-requires-clause-opened : goal.open_pairs-requires-clause-opened
open_pairs-requires-clause-opened c =
    let runs = c.args.runs.now in
    omega (arith, (run-known runs.list.runs runs.pairs.items c.args.number c.run-run.result c.requires.number c.run-run.ensures c.requires.chained).opened, ap length c.as_slice-2.ensures.value)

pub returns : goal.returns
returns c = grind (arith, nat_tests, get_or_read, on-ok, run-built)
