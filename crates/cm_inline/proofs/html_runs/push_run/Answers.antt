use Rattle.cm_inline.proofs.lemmas.Words.{subst, length, ap, arith}
use Rattle.cm_inline.specs.steps.pairing.Parts.{run_events}
use Rattle.cm_inline.specs.steps.pairing.Readings.{Tags}
use Rattle.cm_inline.specs.steps.Runs.{paired_run, pairs_in}
use Rattle.cm_inline.specs.steps.Writing.{Adds}
use Rattle.cm_inline.proofs.lemmas.HtmlLemmas.{on-ok}
use Rattle.cm_inline.proofs.lemmas.RunLemmas.{run-known, run-written}
use Rattle.cm_inline.proofs.html_runs.push_run.Goals as goal

pub push_ends-requires : goal.push_ends-requires
push_ends-requires c =
    let runs = c.args.runs.now in
    omega (arith, (run-known runs.list.runs runs.pairs.items c.args.number c.run-run.result c.requires.number c.run-run.ensures c.requires.chained).to, ap length c.as_slice.ensures.value)

pub push_starts-requires-clause-opened : goal.push_starts-requires-clause-opened
push_starts-requires-clause-opened c =
    let runs = c.args.runs.now in
    omega (arith, (run-known runs.list.runs runs.pairs.items c.args.number c.run-run.result c.requires.number c.run-run.ensures c.requires.chained).opened, ap length c.as_slice-2.ensures.value)

pub returns : goal.returns
returns c =
    let runs = c.args.runs.now in
    let run = c.run-run.result in
    on-ok c.push_starts.result c.push_starts.ensures
    (λ opened. subst (λ r. Adds Tags c.args.html.now (run_events (pairs_in runs.pairs.items) c.args.number (paired_run r)) c.push_starts.new.html) c.run-run.ensures
    (run-written runs.pairs.items _ _ c.args.number run c.args.html.now c.push_ends.new.html c.push_left.new.html c.push_starts.new.html c.as_slice.ensures.value c.as_slice-2.ensures.value
    c.in_ok-push_ends.ensures c.in_ok-push_left.ensures opened))
