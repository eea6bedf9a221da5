use Rattle.std.proofs.Common.{rules, ◌≡◌, ℕ, ◌++◌, replicate, false, sym, ap, ap₂, ◌∙◌}
use Rattle.cm_block.specs.OwnerRuns.{OwnedLines, owner_of, owners_in}
use Rattle.cm_block.specs.Stack.{blank_owner}
use Rattle.cm_block.proofs.lemmas.OwnerRunLemmas.{longer_run, more_blanks}
use Rattle.cm_block.proofs.owner_runs.OwnerRuns.push_blank.Goals as goal

pub returns-then-lines-self-clause-pushed : goal.returns-then-lines-self-clause-pushed
returns-then-lines-self-clause-pushed c =
    let was = c.self.inside in
    let same : c.blank_run-owner.result ≡ was.last.owner = search rules in
    let none : was.last.blanks ≡ 0 = search rules in
    let blank : (leaves : ℕ) → owner_of leaves was.last.owner ≡ blank_owner c.args.marked =
    λ leaves. ap (owner_of leaves) (sym same) ∙ c.blank_run-owner.ensures.owner leaves in
    ap₂ (λ xs n. record { owners = xs; leaves = n })
    (longer_run was.closed.items was.last c.args.lines (blank_owner c.args.marked) none blank
    ∙ ap (λ (o : OwnedLines). o.owners ++ replicate c.args.lines (blank_owner c.args.marked)) c.self.view_is)
    (ap (λ (o : OwnedLines). o.leaves) c.self.view_is)

pub returns-then-lines-self-2-clause-pushed : goal.returns-then-lines-self-2-clause-pushed
returns-then-lines-self-2-clause-pushed c =
    let was = c.self.inside in
    let unmarked : c.args.marked ≡ false = search rules in
    ap₂ (λ xs n. record { owners = xs; leaves = n })
    (more_blanks was.closed.items was.last c.args.lines
    ∙ ap (λ marked. owners_in was.closed.items was.last ++ replicate c.args.lines (blank_owner marked)) (sym unmarked)
    ∙ ap (λ (o : OwnedLines). o.owners ++ replicate c.args.lines (blank_owner c.args.marked)) c.self.view_is)
    (ap (λ (o : OwnedLines). o.leaves) c.self.view_is)
