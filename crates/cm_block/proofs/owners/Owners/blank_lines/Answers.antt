use Rattle.std.proofs.Common.{replicate, ap, ◌∙◌}
use Rattle.std.proofs.lemmas.Result.{on_ok_weaker}
use Rattle.cm_block.specs.OwnerRuns.{OwnedLines}
use Rattle.cm_block.specs.Stack.{Owned, own_lines, blank_owner}
use Rattle.cm_block.proofs.lemmas.LineOwnerLemmas.{blanks_at_once}
use Rattle.cm_block.proofs.owners.Owners.blank_lines.Goals as goal

pub returns-clause-owned : goal.returns-clause-owned
returns-clause-owned c =
    let owned = c.args.self.now in
    let with_table : OwnedLines → Owned = λ o. record { owners = o.owners; leaves = o.leaves; table = c.self.inside.definitions } in
    on_ok_weaker c.push_blank.result (λ pushed.
    ap with_table pushed
    ∙ ap (λ w. own_lines w (replicate c.args.lines (blank_owner c.args.in_a_quote))) c.self.view_is
    ∙ blanks_at_once c.args.in_a_quote c.args.lines owned) c.push_blank.ensures.pushed
