use Rattle.std.proofs.Common.{◌≡◌, ◌-◌, ◌++◌, replicate, ap, ◌∙◌, arith}
use Rattle.cm_block.specs.OwnerRuns.{OwnedLines, leaves_with, owner_of}
use Rattle.cm_block.proofs.lemmas.OwnerRunLemmas.{in_parts}
use Rattle.cm_block.proofs.owner_runs.OwnerRuns.push_times.Goals as goal

pub loop-left-preserved : goal.loop-left-preserved
loop-left-preserved c =
    let before = c.loop-left in
    let lines = c.min-lines.result in
    let owner = owner_of c.args.self.now.leaves c.args.owner in
    let same : leaves_with before.self.leaves c.args.owner ≡ c.args.self.now.leaves =
    ap (λ n. leaves_with n c.args.owner) before.invariant.leaves ∙ c.requires in
    record {
      owners =
          ap (λ (o : OwnedLines). o.owners ++ replicate (before.left - lines) owner) c.in_ok-begin.ensures.pushed
          ∙ ap (λ n. (before.self.owners ++ replicate lines (owner_of n c.args.owner)) ++ replicate (before.left - lines) owner) same
          ∙ in_parts before.self.owners owner lines before.left (omega (arith, c.min-lines.ensures))
          ∙ before.invariant.owners;
      leaves = ap (λ (o : OwnedLines). o.leaves) c.in_ok-begin.ensures.pushed ∙ same;
    }
