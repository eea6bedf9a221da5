use Rattle.cm_inline.proofs.lemmas.Words.{◌-◌, ◌∙◌, Some, None, false, length, drop, get_or, sym, ap, subst, refl, arith, slice_range, Finished, up_to_run}
use Rattle.cm_tree.specs.declared.tree.Inline.TheVariants as inlines
use Rattle.cm_scan.proofs.lemmas.spans.BacktickStrings.{span-content}
use Rattle.cm_inline.specs.steps.Reads.{IsAtom}
use Rattle.cm_inline.proofs.lemmas.AtomLemmas.{code-span-is, backticks-are}
use Rattle.cm_inline.proofs.lemmas.BacktickAtoms.{RunHere, run-end, run-more, run-past, run-boundary, run-beyond, run-read, close-boundary, end-boundary}
use Rattle.cm_inline.proofs.lemmas.MissingEndsLemmas.{no-code-span, all-spare}
use Rattle.cm_inline.proofs.atoms.backticks.Given.{Over}
use Rattle.cm_inline.proofs.atoms.backticks.Goals.{After-after_backticks-start}
use Rattle.cm_inline.proofs.atoms.backticks.Goals as goal

-- the first backtick string
here : (g : Over) (c : After-after_backticks-start g) → RunHere c.args.source.now c.of-text.result c.args.at c.after_backticks-start.result
here g c = record {
  same = c.of-text.ensures ∙ c.as_bytes.ensures.value;
  utf8 = c.utf8.source;
  stands = c.requires.stands;
  run = c.after_backticks-start.ensures.end;
  left = c.after_backticks-start.ensures.beyond;
  within = c.after_backticks-start.ensures.within;
}

pub is_last_backticks-requires-clause-over : goal.is_last_backticks-requires-clause-over
is_last_backticks-requires-clause-over g c =
    let run = here g (goal.at.is_last_backticks-requires-clause-over g c).After-after_backticks-start in
    run-past run

pub returns-then-is_last_backticks-clause-atom : goal.returns-then-is_last_backticks-clause-atom
returns-then-is_last_backticks-clause-atom g c =
    let run = here g (goal.at.returns-then-is_last_backticks-clause-atom g c).After-after_backticks-start in
    let source = c.args.source.now in
    let start = c.after_backticks-start.result in
    let none = no-code-span source c.args.at (start - c.args.at) start (omega (arith, run-more run)) (omega (arith, run-end run)) (c.is_last_backticks.ensures.last c.if-is_last_backticks.true) in
    λ rules. backticks-are rules source c.args.at start c.requires.stands (span-content (drop c.args.at source) None (sym none)) (run-end run) (run-beyond run) (run-boundary run)

pub returns-then-is_last_backticks-clause-looks : goal.returns-then-is_last_backticks-clause-looks
returns-then-is_last_backticks-clause-looks g c =
    let run = here g (goal.at.returns-then-is_last_backticks-clause-looks g c).After-after_backticks-start in
    omega (arith, run-more run, c.after_backticks-start.ensures.looks)

pub content_between-from-requires : goal.content_between-from-requires
content_between-from-requires g c =
    let run = here g (goal.at.content_between-from-requires g c).After-after_backticks-start in
    let within = c.in-Some.ensures.within in
    let tick = ap (λ t. get_or t c.in-Some.close 0) (sym run.same) ∙ c.in-Some.ensures.backticks.0 in
    (within.0, run-boundary run, close-boundary c.args.source.now c.in-Some.close (omega (arith, within.1, within.2, ap length run.same)) tick)

pub returns-in-Some-clause-atom : goal.returns-in-Some-clause-atom
returns-in-Some-clause-atom g c =
    let run = here g (goal.at.returns-in-Some-clause-atom g c).After-after_backticks-start in
    let source = c.args.source.now in
    let close = c.in-Some.close in
    let end = c.in-Some.end in
    let within = c.in-Some.ensures.within in
    let content = run-read run (Some (close, end)) c.in-Some.ensures.read in
    let tick = ap (λ t. get_or t (end - 1) 0) (sym run.same) ∙ c.in-Some.ensures.backticks.1 in
    let boundary = end-boundary source end c.utf8.source (omega (arith, within.1)) (omega (arith, within.2, ap length run.same)) tick in
    let between = c.content_between-from.ensures in
    λ rules. record {
      is = subst (λ text. IsAtom rules source c.args.at (Finished (inlines.Code text)) end) (sym between.stripped)
          (code-span-is rules source c.args.at (slice_range source c.after_backticks-start.result close) end c.requires.stands content boundary);
      there = between.between;
    }

pub returns-in-Some-clause-looks : goal.returns-in-Some-clause-looks
returns-in-Some-clause-looks g c =
    let run = here g (goal.at.returns-in-Some-clause-looks g c).After-after_backticks-start in
    let within = c.in-Some.ensures.within in
    omega (arith, within.0, within.1, run-more run, c.after_backticks-start.ensures.looks, c.in-Some.ensures.some, c.content_between-from.ensures.looks)

pub returns-in_ok-look_for_backticks-in-None-clause-atom : goal.returns-in_ok-look_for_backticks-in-None-clause-atom
returns-in_ok-look_for_backticks-in-None-clause-atom g c =
    let run = here g (goal.at.returns-in_ok-look_for_backticks-in-None-clause-atom g c).After-after_backticks-start in
    let none = run-read run None c.in-None.ensures.read in
    λ rules. backticks-are rules c.args.source.now c.args.at c.after_backticks-start.result c.requires.stands none (run-end run) (run-beyond run) (run-boundary run)

pub returns-in_ok-look_for_backticks-in-None-clause-looks : goal.returns-in_ok-look_for_backticks-in-None-clause-looks
returns-in_ok-look_for_backticks-in-None-clause-looks g c =
    let run = here g (goal.at.returns-in_ok-look_for_backticks-in-None-clause-looks g c).After-after_backticks-start in
    let source = c.args.source.now in
    let start = c.after_backticks-start.result in
    let none = ap (λ t. up_to_run (start - c.args.at) false (drop start t)) (sym run.same) ∙ sym c.in-None.ensures.read in
    let unknown = c.is_last_backticks.ensures.unknown c.if-is_last_backticks.false none in
    let spare = all-spare source c.args.ends.now unknown in
    omega (arith, spare, run-more run, c.after_backticks-start.ensures.looks, c.in-None.ensures.none refl, c.in_ok-look_for_backticks-in-None.ensures.looks, ap length run.same, run.within)
