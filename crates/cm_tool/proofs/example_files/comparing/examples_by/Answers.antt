use Rattle.std.proofs.Common.{◌≡◌, ◌∙◌, ◌+◌, rules, ap, ap₂, sym, map, [], ◌∷◌, ◌++◌, refl, length, string_bytes, Ok, true, false}
use Rattle.std.proofs.lemmas.List.{drop_all}
use Rattle.std.proofs.lemmas.Result.{err_from_is_err_and}
use Rattle.cm_tool.specs.ExampleFiles.{difference_of}
use Rattle.cm_tool.specs.steps.ExampleSteps.{example_of}
use Rattle.cm_tool.proofs.lemmas.ExampleLemmas.{all_compared, compared, drop_at, html_of_source, sound_source, told_of_source, one_agrees, one_differs, one_fault, source_told, standard_is}
use Rattle.cm_tool.proofs.example_files.comparing.examples_by.Goals.{then-eq, else-eq+in_ok-clone+in_ok-push_difference}
use Rattle.cm_tool.proofs.example_files.comparing.examples_by.Goals as goal

pub returns-in_err-got : goal.returns-in_err-got
returns-in_err-got c =
    let p = err_from_is_err_and c.from_residual-in_err-got.result c.from_residual-in_err-got.ensures.1 in
    let items = c.deref-example-items.result.now in
    let e = c.example-item.result in
    let fault = c.in_err-got.field-0.0 in
    let limits = standard_is c.standard.result c.with_rules-limits.result c.args.rules c.standard.ensures c.with_rules-limits.ensures in
    let told = told_of_source c.with_rules-limits.result c.args.rules c.deref.result.now (string_bytes e.source) limits c.deref.ensures fault c.in_err-got.ensures.told in
    rw (p.1, p.2) (source_told c.args.rules c.args.text.now (map example_of items) fault (c.in_ok-examples.ensures.examples ∙ ap (λ xs. Ok (map example_of xs)) (sym c.deref-example-items.ensures.value))
    (one_fault c.args.rules items c.loop-at.agree c.loop-at.differ.items c.loop-at.at e (drop_at items c.loop-at.at e c.loop-at-test.true c.example-item.is) c.loop-at.invariant fault told))

pub loop-at-preserved : goal.loop-at-preserved
loop-at-preserved c =
    let items = c.deref-example-items.result.now in
    let e = c.example-item.result in
    let limits = standard_is c.standard.result c.with_rules-limits.result c.args.rules c.standard.ensures c.with_rules-limits.ensures in
    let html = c.in_ok-got.ensures.html in
    let sound = sound_source c.with_rules-limits.result c.args.rules c.deref.result.now (string_bytes e.source) limits c.deref.ensures html.0 in
    let got = html_of_source c.with_rules-limits.result c.args.rules c.deref.result.now (string_bytes e.source) limits c.deref.ensures (string_bytes c.in_ok-got.got) html.1 in
    let next = drop_at items c.loop-at.at e c.loop-at-test.true c.example-item.is in
    let i = c.loop-at.invariant in
    elim c.if-eq.branch [
      | then-eq w ↦ rw (w.agree-is, w.differ-is) (one_agrees c.args.rules items c.loop-at.agree c.loop-at.differ.items c.loop-at.at e next i sound
          (compared c.args.rules e (string_bytes c.in_ok-got.got) (string_bytes e.html) c.eq.result true got refl c.eq.ensures w.if-eq.true))
      | else-eq+in_ok-clone+in_ok-push_difference w ↦ rw (w.agree-is, w.differ-is) (one_differs c.args.rules items c.loop-at.agree c.loop-at.differ.items c.loop-at.at e next i
          w.push_difference.new.differ.items sound
          (compared c.args.rules e (string_bytes c.in_ok-got.got) (string_bytes e.html) c.eq.result false got refl c.eq.ensures w.if-eq.false)
          (w.in_ok-push_difference.ensures ∙ ap₂ (λ expected html. map difference_of c.loop-at.differ.items ++ record { number = c.loop-at.at + 1; expected = expected; got = html } ∷ []) w.in_ok-clone.ensures.cases got))
    ]

pub returns : goal.returns
returns c =
    let items = c.deref-example-items.result.now in
    let total : c.len.result ≡ length items = search rules in
    all_compared c.args.rules c.args.text.now items (record { total = c.len.result; agree = c.loop-at.agree; differ = c.loop-at.differ }) c.loop-at.at (c.in_ok-examples.ensures.examples ∙ ap (λ xs. Ok (map example_of xs)) (sym c.deref-example-items.ensures.value))
    (drop_all c.loop-at.at items c.loop-at-test.false) c.loop-at.invariant total
