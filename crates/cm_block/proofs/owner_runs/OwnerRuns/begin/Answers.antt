use Rattle.std.proofs.Common.{◌≡◌, ◌≤◌, ◌+◌, ◌++◌, [], ◌∷◌, length, refl, sym, ap, ap₂, ◌∙◌, arith}
use Rattle.std.proofs.lemmas.List.{length-append, length-replicate}
use Rattle.cm_block.specs.OwnerRuns.{OwnedLines, leaves_with, leaves_in, owner_of, owners_in, owners_of_run}
use Rattle.cm_block.specs.declared.owner_runs.OwnerRun.{OwnerRun}
use Rattle.cm_block.proofs.lemmas.OwnerRunLemmas.{run_alone, next_run, leaves_begun, at_most_one}
use Rattle.cm_block.proofs.owner_runs.OwnerRuns.begin.Goals as goal

pub invariant_of-self-2 : goal.invariant_of-self-2
invariant_of-self-2 c =
    let was = c.self.inside in
    let kept = c.self.invariant in
    let leaves = leaves_with (leaves_in 0 was.closed.items) was.last.owner in
    let next : OwnerRun = record { owner = c.args.owner; blanks = 0; lines = c.args.lines } in
    let items = c.in_ok-push.ensures.items in
    let before = owners_in was.closed.items was.last in
    let more = owners_of_run leaves next in
    let whole : owners_in c.push.new.self.items next ≡ before ++ more =
    ap (λ xs. owners_in xs next) items ∙ next_run was.closed.items was.last next leaves refl in
    let longer : length (owners_in c.push.new.self.items next) ≡ length before + c.args.lines =
    ap length whole ∙ length-append before more
    ∙ ap (λ n. length before + n) (ap length (run_alone leaves next refl) ∙ length-replicate c.args.lines (owner_of (leaves_with leaves c.args.owner) c.args.owner)) in
    let more_leaves : leaves_with leaves c.args.owner ≡ leaves_with (leaves_in 0 c.push.new.self.items) c.args.owner =
    leaves_begun was.closed.items was.last next leaves refl
    ∙ ap (λ xs. leaves_with (leaves_in 0 xs) c.args.owner) (sym items) in
    let runs : length c.push.new.self.items ≡ length was.closed.items + 1 = ap length items ∙ length-append was.closed.items (was.last ∷ []) in
    let few : leaves_with (leaves_in 0 c.push.new.self.items) c.args.owner ≤ length c.push.new.self.items =
    omega (arith, more_leaves, at_most_one leaves c.args.owner, runs, kept.2) in
    (omega (arith, longer, kept.0), omega (arith, longer, runs, kept.0, kept.1, kept.3, kept.4, c.requires), few, c.requires, omega arith)

pub returns-clause-pushed : goal.returns-clause-pushed
returns-clause-pushed c =
    let was = c.self.inside in
    let leaves = leaves_with (leaves_in 0 was.closed.items) was.last.owner in
    let next : OwnerRun = record { owner = c.args.owner; blanks = 0; lines = c.args.lines } in
    let items = c.in_ok-push.ensures.items in
    ap₂ (λ xs n. record { owners = xs; leaves = n })
    (ap (λ xs. owners_in xs next) items
    ∙ next_run was.closed.items was.last next leaves refl
    ∙ ap (λ (o : OwnedLines). o.owners ++ owners_of_run o.leaves next) c.self.view_is
    ∙ ap (λ xs. c.args.self.now.owners ++ xs) (run_alone c.args.self.now.leaves next refl))
    (ap (λ xs. leaves_with (leaves_in 0 xs) c.args.owner) items
    ∙ sym (leaves_begun was.closed.items was.last next leaves refl)
    ∙ ap (λ (o : OwnedLines). leaves_with o.leaves c.args.owner) c.self.view_is)
