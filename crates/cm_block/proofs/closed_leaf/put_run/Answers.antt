use Rattle.std.proofs.Common.{sym, ap, ◌∙◌}
use Rattle.std.proofs.lemmas.Result.{on_ok_weaker}
use Rattle.cm_scan.specs.Words.{trim_end}
use Rattle.cm_scan.specs.blocks.Blocks.{line_feeds}
use Rattle.cm_scan.proofs.lemmas.blocks.CountedLines.{feeds_trimmed}
use Rattle.cm_block.specs.steps.LeafSteps.{underline_level}
use Rattle.cm_block.proofs.lemmas.PutLemmas.{run_closes, run_owns, nothing_closes, nothing_owns}
use Rattle.cm_block.proofs.lemmas.RunLemmas.{none_left}
use Rattle.cm_block.proofs.closed_leaf.put_run.Goals as goal

pub returns-clause-level : goal.returns-clause-level
returns-clause-level c = on_ok_weaker c.put_content-2.result (λ put.
    run_closes c.args.stack.now.level c.put_definitions.new.stack.level c.put_content-2.new.stack.level (underline_level c.args.ending) c.args.source.now c.trim_end-text.result.now c.in_ok-left.left.now
    (c.trim_end-text.ensures.trimmed ∙ ap trim_end c.as_str.ensures) c.in_ok-left.ensures.left c.in_ok-left.ensures.level put) c.put_content-2.ensures.level

pub returns-clause-owners : goal.returns-clause-owners
returns-clause-owners c = on_ok_weaker c.put_content-2.result (λ put.
    run_owns c.args.owners.now c.put_definitions.new.owners c.put_content-2.new.owners (underline_level c.args.ending) c.args.source.now c.trim_end-text.result.now c.in_ok-left.left.now
    (c.trim_end-text.ensures.trimmed ∙ ap trim_end c.as_str.ensures) c.in_ok-left.ensures.left c.in_ok-left.ensures.owners put) c.put_content-2.ensures.owners

pub put_definitions-requires-clause-feeds : goal.put_definitions-requires-clause-feeds
put_definitions-requires-clause-feeds c =
    c.feeds-2.ensures.count ∙ sym (ap line_feeds (c.trim_end-text.ensures.trimmed ∙ ap trim_end c.as_str.ensures) ∙ feeds_trimmed c.args.source.now)

pub put_content-requires-clause-feeds : goal.put_content-requires-clause-feeds
put_content-requires-clause-feeds c =
    c.feeds.ensures.count ∙ sym (ap line_feeds (c.trim_end-text.ensures.trimmed ∙ ap trim_end c.as_str.ensures) ∙ feeds_trimmed c.args.source.now)

pub returns-then-not-may_define-clause-level : goal.returns-then-not-may_define-clause-level
returns-then-not-may_define-clause-level c =
    let level = c.args.stack.now.level in
    let text = c.trim_end-text.result.now in
    let none = c.may_define.ensures c.if-not-may_define.true in
    on_ok_weaker c.put_content.result (λ put.
    run_closes level level c.put_content.new.stack.level (underline_level c.args.ending) c.args.source.now text text
    (c.trim_end-text.ensures.trimmed ∙ ap trim_end c.as_str.ensures) (none_left text none) (sym (nothing_closes level text none)) put) c.put_content.ensures.level

pub returns-then-not-may_define-clause-owners : goal.returns-then-not-may_define-clause-owners
returns-then-not-may_define-clause-owners c =
    let owned = c.args.owners.now in
    let text = c.trim_end-text.result.now in
    let none = c.may_define.ensures c.if-not-may_define.true in
    on_ok_weaker c.put_content.result (λ put.
    run_owns owned owned c.put_content.new.owners (underline_level c.args.ending) c.args.source.now text text
    (c.trim_end-text.ensures.trimmed ∙ ap trim_end c.as_str.ensures) (none_left text none) (sym (nothing_owns owned text none)) put) c.put_content.ensures.owners
