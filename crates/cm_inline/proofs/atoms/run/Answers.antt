use Rattle.cm_inline.proofs.lemmas.Words.{◌<◌, ◌+◌, drop, arith, sym, ap, ◌∙◌, run_length, after_run, Marker, Star}
use Rattle.cm_inline.specs.steps.Runs.{byte_of}
use Rattle.cm_inline.proofs.lemmas.AtomLemmas.{marker-text-is, marker-run-is}
use Rattle.cm_inline.proofs.atoms.run.Goals as goal

small : (m : Marker) → byte_of m < 128
small Star = omega arith
small _ = omega arith

pub returns-then-not-is_run : goal.returns-then-not-is_run
returns-then-not-is_run c = record {
  atom = let source = c.args.source.now in
      let m = c.args.marker in
      let end = c.after_run-end.result in
      let run = c.after_run-end.ensures in
      (marker-text-is c.args.rules source c.args.at m end c.requires (sym c.is_run.ensures ∙ c.if-not-is_run.true) (run.end ∙ ap (λ b. c.args.at + run_length b (drop c.args.at source)) c.byte.ensures)
      (run.beyond ∙ ap (λ b. after_run b (drop c.args.at source)) c.byte.ensures) (run.boundary (omega (arith, small m, c.byte.ensures)) c.requires.boundary));
}

pub returns : goal.returns
returns c = record {
  atom = let source = c.args.source.now in
      let m = c.args.marker in
      let run = c.after_run-end.ensures in
      marker-run-is c.args.rules source c.args.at m c.run_between.result c.after_run-end.result c.requires (sym c.is_run.ensures ∙ c.if-not-is_run.false) (run.end ∙ ap (λ b. c.args.at + run_length b (drop c.args.at source)) c.byte.ensures)
      (run.beyond ∙ ap (λ b. after_run b (drop c.args.at source)) c.byte.ensures) (run.boundary (omega (arith, small m, c.byte.ensures)) c.requires.boundary) c.run_between.ensures.run;
}
