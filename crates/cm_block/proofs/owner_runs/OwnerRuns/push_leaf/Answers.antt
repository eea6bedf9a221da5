use Rattle.std.proofs.Common.{◌-◌, ◌++◌, suc, replicate, ap, ◌∙◌, arith}
use Rattle.std.proofs.lemmas.Result.{on_ok_weaker}
use Rattle.cm_tree.specs.declared.tree.Owner.TheVariants as owner
use Rattle.cm_block.specs.OwnerRuns.{OwnedLines}
use Rattle.cm_block.proofs.lemmas.OwnerRunLemmas.{in_parts}
use Rattle.cm_block.proofs.owner_runs.OwnerRuns.push_leaf.Goals as goal

pub returns-clause-pushed : goal.returns-clause-pushed
returns-clause-pushed c =
    let was = c.args.self.now in
    let first = c.min-first.result in
    let leaf = owner.Leaf (suc was.leaves) in
    on_ok_weaker c.push_times.result (λ pushed.
    pushed
    ∙ ap (λ (o : OwnedLines). record { owners = o.owners ++ replicate (c.args.lines - first) (owner.Leaf o.leaves); leaves = o.leaves }) c.in_ok-begin.ensures.pushed
    ∙ ap (λ xs. record { owners = xs; leaves = suc was.leaves }) (in_parts was.owners leaf first c.args.lines (omega (arith, c.min-first.ensures)))) c.push_times.ensures.pushed
