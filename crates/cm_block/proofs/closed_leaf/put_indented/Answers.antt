use Rattle.std.proofs.Common.{◌≡◌, ◌+◌, [], suc, ap, ◌∙◌, arith}
use Rattle.std.proofs.lemmas.Result.{on_ok_weaker}
use Rattle.cm_scan.specs.blocks.Parts.{leaf_block, code}
use Rattle.cm_scan.specs.blocks.Blocks.{line_feeds}
use Rattle.cm_block.specs.Level.{block_closes}
use Rattle.cm_block.specs.steps.LeafSteps.{own_plain_leaf}
use Rattle.cm_block.proofs.closed_leaf.put_indented.Goals as goal

pub returns-clause-level : goal.returns-clause-level
returns-clause-level c =
    on_ok_weaker c.put_code.result (λ put.
    put ∙ ap (λ t. block_closes c.args.stack.now.level (leaf_block (code [] t))) (c.as_str.ensures ∙ c.in_ok-end_line.ensures)) c.put_code.ensures.level

pub returns-clause-owners : goal.returns-clause-owners
returns-clause-owners c =
    let lines : c.feeds-lines.result + 1 ≡ suc (line_feeds c.args.text.now) = omega (arith, c.feeds-lines.ensures.count) in
    on_ok_weaker c.put_code.result (λ put. put ∙ ap (own_plain_leaf c.args.owners.now) lines) c.put_code.ensures.owners
