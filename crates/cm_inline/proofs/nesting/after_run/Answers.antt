use Rattle.cm_inline.proofs.lemmas.Words.{◌^◌, subst, sym, rules, length, ap, arith}
use Rattle.cm_inline.specs.steps.pairing.Parts.{starts}
use Rattle.cm_inline.specs.steps.Nesting.{CanRiseAll}
use Rattle.cm_inline.specs.steps.Runs.{pairs_in}
use Rattle.cm_inline.proofs.lemmas.NestingLemmas.{run-rises-at}
use Rattle.cm_inline.proofs.lemmas.RunLemmas.{run-known}
use Rattle.cm_inline.proofs.nesting.after_run.Goals as goal

pub overflow_sub-run : goal.overflow_sub-run
overflow_sub-run c =
    let runs = c.args.runs.now in
    (run-known runs.list.runs runs.pairs.items c.args.number c.run-run.result c.requires.number c.run-run.ensures c.requires.chained).order

pub end-level-requires : goal.end-level-requires
end-level-requires c =
    let runs = c.args.runs.now in
    let rises = run-rises-at (2 ^ 64) c.args.level runs.list.runs runs.pairs.items c.args.number c.run-run.result c.requires.number c.run-run.ensures c.requires.chained c.requires.rises in
    rises.holds

pub after_starts-requires-clause-opened : goal.after_starts-requires-clause-opened
after_starts-requires-clause-opened c =
    let runs = c.args.runs.now in
    omega (arith, (run-known runs.list.runs runs.pairs.items c.args.number c.run-run.result c.requires.number c.run-run.ensures c.requires.chained).opened, ap length c.as_slice.ensures.value)

pub after_starts-requires-clause-rises : goal.after_starts-requires-clause-rises
after_starts-requires-clause-rises c =
    let runs = c.args.runs.now in
    let run = c.run-run.result in
    let rises = run-rises-at (2 ^ 64) c.args.level runs.list.runs runs.pairs.items c.args.number run c.requires.number c.run-run.ensures c.requires.chained c.requires.rises in
    subst (λ ps. CanRiseAll (2 ^ 64) c.end-level.result (starts (pairs_in ps) run.opened)) (sym c.as_slice.ensures.value)
    (subst (λ l. CanRiseAll (2 ^ 64) l (starts (pairs_in runs.pairs.items) run.opened)) (sym c.end-level.ensures) rises.starts_rise)

pub returns : goal.returns
returns c = search (rules, run-rises-at)
