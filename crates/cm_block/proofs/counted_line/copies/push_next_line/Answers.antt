use Rattle.std.proofs.Common.{ap, ◌∙◌}
use Rattle.std.proofs.lemmas.Result.{on_ok_weaker}
use Rattle.cm_scan.specs.blocks.Blocks.{line_feeds}
use Rattle.cm_block.proofs.lemmas.FeedLemmas.{feeds_after, feeds_ended}
use Rattle.cm_block.proofs.counted_line.copies.push_next_line.Goals as goal

pub returns-clause-feeds : goal.returns-clause-feeds
returns-clause-feeds c =
    let line = c.args.line.now in
    on_ok_weaker c.push_line.result (λ pushed.
    ap line_feeds pushed
    ∙ feeds_after c.end_line.new.self line.spaces line.rest.now line.one_line
    ∙ ap line_feeds c.in_ok-end_line.ensures
    ∙ feeds_ended c.args.text.now) c.push_line.ensures
