use Rattle.std.proofs.Common.{◌≡◌, ◌∙◌, ◌&&◌, ◌||◌, true, ap, sym, drop, chars}
use Rattle.std.specs.List.{list_all}
use Rattle.std.proofs.lemmas.Bool.{not-false}
use Rattle.std.proofs.lemmas.List.{drop_all}
use Rattle.cm_text.specs.PlainLabels.{is_all_ascii, is_kept}
use Rattle.cm_text.proofs.lemmas.PlainLabels.{own_folds, plain_bare, read_out, with_true}
use Rattle.cm_text.proofs.labels.plain_label_number.Goals as goal
use Rattle.cm_text.proofs.labels.plain_label_number.Goals.{then-not-ascii, else-not-ascii}

pub returns-clause-folded : goal.returns-clause-folded
returns-clause-folded c =
    let label = c.args.label.now in
    let bytes = c.as_bytes-b-items.result.now in
    let none = ap (drop c.loop-b.b-index) (sym c.as_bytes-b-items.ensures.value) ∙ drop_all c.loop-b.b-index bytes c.loop-b-test.false in
    let plain = read_out label (drop c.loop-b.b-index label) c.loop-b.beyond_space c.loop-b.invariant.1 none c.if-beyond_space.false in
    let kept : (is_all_ascii label || list_all is_kept (chars label)) ≡ true = elim c.if-not-ascii.branch [
      | then-not-ascii w ↦ ap (λ kept. is_all_ascii label || kept) (sym w.keeps_case.ensures.kept ∙ not-false _ (sym w.value-is ∙ c.if-not-keeps_case.false)) ∙ with_true (is_all_ascii label)
      | else-not-ascii w ↦ ap (λ ascii. ascii || list_all is_kept (chars label))
          (c.loop-b.invariant.2 ∙ ap (λ ascii. ascii && is_all_ascii (drop c.loop-b.b-index label)) w.if-not-ascii.false ∙ ap is_all_ascii none)
    ] in
    own_folds label c.utf8.label (ap (λ p. p && (is_all_ascii label || list_all is_kept (chars label))) plain ∙ kept)

pub returns-clause-bare : goal.returns-clause-bare
returns-clause-bare c =
    let label = c.args.label.now in
    let bytes = c.as_bytes-b-items.result.now in
    let none = ap (drop c.loop-b.b-index) (sym c.as_bytes-b-items.ensures.value) ∙ drop_all c.loop-b.b-index bytes c.loop-b-test.false in
    plain_bare label (read_out label (drop c.loop-b.b-index label) c.loop-b.beyond_space c.loop-b.invariant.1 none c.if-beyond_space.false)
