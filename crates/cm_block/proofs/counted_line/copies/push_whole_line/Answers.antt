use Rattle.std.proofs.Common.{ap, suc, ◌∙◌}
use Rattle.std.proofs.lemmas.Result.{on_ok_weaker}
use Rattle.cm_scan.specs.blocks.Blocks.{line_feeds}
use Rattle.cm_block.proofs.lemmas.FeedLemmas.{feeds_after, feeds_ended}
use Rattle.cm_block.proofs.counted_line.copies.push_whole_line.Goals as goal

pub returns-clause-feeds : goal.returns-clause-feeds
returns-clause-feeds c =
    let line = c.args.line.now in
    on_ok_weaker c.end_line.result (λ ended.
    ap line_feeds ended
    ∙ feeds_ended c.push_line.new.text
    ∙ ap (λ t. suc (line_feeds t)) c.in_ok-push_line.ensures
    ∙ ap suc (feeds_after c.args.text.now line.spaces line.rest.now line.one_line)) c.end_line.ensures
